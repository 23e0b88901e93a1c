use Rattle.interpreter.proofs.Entering.{free_there, held_there, own_there}
use Rattle.interpreter.proofs.interpreter.Interpreter.is_held_by_another.Goals as goal

pub returns-in-Some-clause-held : goal.returns-in-Some-clause-held
returns-in-Some-clause-held c = λ differs. held_there c.args.self.now c.args.monitor c.in-Some.holder c.holder.result c.holder.ensures c.in-Some.is differs

pub returns-in-Some-clause-free : goal.returns-in-Some-clause-free
returns-in-Some-clause-free c = λ same. own_there c.args.self.now c.args.monitor c.in-Some.holder c.holder.result c.holder.ensures c.in-Some.is same

pub returns-in-None-clause-free : goal.returns-in-None-clause-free
returns-in-None-clause-free c = λ same. free_there c.args.self.now c.args.monitor c.holder.result c.holder.ensures c.in-None.is
