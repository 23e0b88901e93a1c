use Rattle.interpreter.proofs.CodeBodies.{code_may_do}
use Rattle.interpreter.proofs.Quietly.{comes_quietly}
use Rattle.interpreter.proofs.touching.InterpreterBodies.next.Goals as goal

pub returns-clause-does : goal.returns-clause-does
returns-clause-does c = comes_quietly c.args.program.now c.args.last c.args.self.now c.tell.new.self c.say_quietly.new.self c.say_quietly.result c.tell.ensures c.say_quietly.ensures.says

pub returns-clause-fits : goal.returns-clause-fits
returns-clause-fits c = code_may_do c.args.program.now c.args.last c.args.self.now c.tell.new.self c.say_quietly.new.self c.say_quietly.result c.tell.ensures c.say_quietly.ensures.sayable c.say_quietly.ensures.says
