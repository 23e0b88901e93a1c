use Rattle.std.proofs.Common.{subst}
use Rattle.interpreter.specs.Touching.{IsToTouch}
use Rattle.interpreter.proofs.Quietly.{before_touch}
use Rattle.interpreter.proofs.interpreter.Interpreter.touch_with_objects.Goals as goal

pub touch_running-requires-clause-touches : goal.touch_running-requires-clause-touches
touch_running-requires-clause-touches c = subst (IsToTouch c.args.program.now c.args.self.now) c.in-Runs.is c.requires.touches

pub touch_ready-requires-clause-touches : goal.touch_ready-requires-clause-touches
touch_ready-requires-clause-touches c = subst (IsToTouch c.args.program.now c.args.self.now) c.in-Ready.is c.requires.touches

pub prepare-requires-clause-before : goal.prepare-requires-clause-before
prepare-requires-clause-before c = before_touch c.args.program.now c.args.self.now c.args.self.now.phase c.requires.touches c.in_default.not-Runs c.in_default.not-Ready
