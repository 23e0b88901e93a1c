use Rattle.interpreter.proofs.CodeBodies.{alone_may_do}
use Rattle.interpreter.proofs.alone.AloneInterpreterBodies.next.Goals as goal

pub returns-clause-fits : goal.returns-clause-fits
returns-clause-fits c = alone_may_do c.args.program.now c.args.last c.self.inside.inside c.tell.new.self c.say.new.self c.say.result c.tell.ensures c.say.ensures.sayable c.say.ensures.says
