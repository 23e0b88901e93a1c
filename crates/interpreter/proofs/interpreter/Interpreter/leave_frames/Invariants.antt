use Rattle.std.proofs.Common.{◌≡◌, length}
use Rattle.interpreter.specs.CodeRun.{below_body}
use Rattle.interpreter.specs.declared.interpreter.Interpreter.{Interpreter}
use Rattle.interpreter.proofs.interpreter.Interpreter.leave_frames.Given as goal

abbrev pub invariant-loop-at : goal.invariant-loop-at
invariant-loop-at l = (rest : Interpreter) → rest ≡ record l.self { frames = below_body l.self.frames } → rest ≡ record l.fn.self { frames = below_body l.fn.self.frames }

abbrev pub decreases-loop-at : goal.decreases-loop-at
decreases-loop-at l = length l.self.frames
