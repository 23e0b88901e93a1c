use Rattle.std.proofs.Common.{subst, sym}
use Rattle.interpreter.specs.declared.interpreter.Interpreter.{Interpreter}
use Rattle.interpreter.specs.Memory.{TakesMemory}
use Rattle.interpreter.specs.Touching.{IsToTouch}
use Rattle.interpreter.specs.Waiting.{IsKeptOut}
use Rattle.interpreter.proofs.Quietly.{asked_there}
use Rattle.interpreter.proofs.KeptOut.{held_is_kept}
use Rattle.interpreter.proofs.touching.InterpreterBodies.touch.Goals as goal

pub returns-in-Ok-false-clause-held : goal.returns-in-Ok-false-clause-held
returns-in-Ok-false-clause-held c = λ held. subst IsKeptOut c.exchange.ensures.own (held_is_kept c.exchange.new.self c.touch_with_objects-touched.new.self (c.in-Ok-false.ensures.held c.in-Ok-false.field-0-test))

pub returns-in-Err-clause-memory : goal.returns-in-Err-clause-memory
returns-in-Err-clause-memory c = subst (λ (s : Interpreter). TakesMemory c.args.program.now s) c.exchange.ensures.own c.in-Err.ensures.memory

pub touch_with_objects-touched-requires-clause-touches : goal.touch_with_objects-touched-requires-clause-touches
touch_with_objects-touched-requires-clause-touches c = subst (λ (s : Interpreter). IsToTouch c.args.program.now s s.phase) (sym c.exchange.ensures.own) (asked_there c.args.program.now c.args.self.now c.args.shared.now c.requires.at)
