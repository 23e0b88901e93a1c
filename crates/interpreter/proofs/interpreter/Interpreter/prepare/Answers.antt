use Rattle.interpreter.specs.Memory.{fails_body}
use Rattle.interpreter.specs.Rows.{begins_in_vain, is_thrown}
use Rattle.interpreter.proofs.CodeBodies.{on_err}
use Rattle.interpreter.specs.Touching.{objects_of}
use Rattle.interpreter.proofs.Quietly.{from_quiet}
use Rattle.interpreter.proofs.Running.{row_less}
use Rattle.interpreter.proofs.interpreter.Interpreter.prepare.Goals as goal

pub returns-in_err-fail-in-Fails-clause-memory : goal.returns-in_err-fail-in-Fails-clause-memory
returns-in_err-fail-in-Fails-clause-memory c = on_err c.from_residual-in_err-fail-in-Fails.result (fails_body c.in-Fails.is c.in_err-fail-in-Fails.ensures.memory)

pub returns-in_ok-fail-in-Fails-clause-row : goal.returns-in_ok-fail-in-Fails-clause-row
returns-in_ok-fail-in-Fails-clause-row c = λ done. begins_in_vain c.in-Fails.is c.in_ok-fail-in-Fails.ensures.ok

pub returns-in-Throws-clause-row : goal.returns-in-Throws-clause-row
returns-in-Throws-clause-row c = λ done. is_thrown c.in-Throws.is c.throw.ensures

pub returns-in-Throws-clause-less : goal.returns-in-Throws-clause-less
returns-in-Throws-clause-less c = λ done. row_less c.args.program.now c.args.self.now c.throw.new.self (returns-in-Throws-clause-row c done)

pub returns-in_ok-begin_body-in-Begins-clause-row : goal.returns-in_ok-begin_body-in-Begins-clause-row
returns-in_ok-begin_body-in-Begins-clause-row c = λ done. from_quiet c.in_ok-begin_body-in-Begins.ensures.row

pub returns-in_err-begin_body-in-Begins-clause-memory : goal.returns-in_err-begin_body-in-Begins-clause-memory
returns-in_err-begin_body-in-Begins-clause-memory c = on_err c.from_residual.result (c.in_err-begin_body-in-Begins.ensures.memory (objects_of c.args.self.now))

pub returns-in_ok-begin_body-in-Begins-clause-less : goal.returns-in_ok-begin_body-in-Begins-clause-less
returns-in_ok-begin_body-in-Begins-clause-less c = λ done. row_less c.args.program.now c.args.self.now c.begin_body.new.self (returns-in_ok-begin_body-in-Begins-clause-row c done)
