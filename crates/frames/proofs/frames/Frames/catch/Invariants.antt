use Rattle.std.proofs.Common.{List, Bool, length}
use Rattle.frames.specs.Activations.{Activation}
use Rattle.frames.specs.Unwinding.{Unwinds}
use Rattle.frames.proofs.frames.Frames.catch.Given as goal

abbrev pub invariant-loop-at : goal.invariant-loop-at
invariant-loop-at l = (rest : List Activation) (caught : Bool) → Unwinds l.program l.thrown l.self rest caught → Unwinds l.program l.thrown l.fn.self rest caught

abbrev pub decreases-loop-at : goal.decreases-loop-at
decreases-loop-at l = length l.self
