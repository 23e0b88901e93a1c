use Rattle.interpreter.specs.Rows.{to_do, Rows}
use Rattle.interpreter.proofs.interpreter.Interpreter.say_running.Given as goal

abbrev pub invariant-loop-self : goal.invariant-loop-self
invariant-loop-self l = Rows l.program l.fn.self l.self

abbrev pub decreases-loop-self : goal.decreases-loop-self
decreases-loop-self l = to_do l.self
