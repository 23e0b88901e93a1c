use Rattle.interpreter.specs.Rows.{to_do}
use Rattle.interpreter.specs.Touching.{Quietly, RowsBetween}
use Rattle.interpreter.proofs.interpreter.Interpreter.run_quietly.Given as goal

abbrev pub invariant-loop-self : goal.invariant-loop-self
invariant-loop-self l = Quietly (RowsBetween l.program) l.fn.self l.self

abbrev pub decreases-loop-self : goal.decreases-loop-self
decreases-loop-self l = to_do l.self
