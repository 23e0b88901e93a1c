use Rattle.interpreter.proofs.Running.{no_rows}
use Rattle.interpreter.proofs.interpreter.Interpreter.run.Goals as goal

pub returns-in_default-clause-rows : goal.returns-in_default-clause-rows
returns-in_default-clause-rows c = no_rows c.args.program.now c.args.self.now

pub returns-in_default-method_code-clause-rows : goal.returns-in_default-method_code-clause-rows
returns-in_default-method_code-clause-rows c = no_rows c.args.program.now c.args.self.now
