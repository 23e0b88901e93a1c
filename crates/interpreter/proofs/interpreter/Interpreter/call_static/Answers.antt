use Rattle.interpreter.proofs.CodeBodies.{when_err, when_ok}
use Rattle.interpreter.proofs.Quietly.{called_quietly}
use Rattle.interpreter.proofs.Saying.{calls_at, calls_takes}
use Rattle.interpreter.proofs.interpreter.Interpreter.call_static.Goals as goal

pub returns-clause-row : goal.returns-clause-row
returns-clause-row c = calls_at c.args.program.now c.args.self.now c.call.new.self c.args.ready c.args.class c.args.method c.len-count.result c.in-Some.callee.now c.requires.phase c.requires.ready c.requires.at c.in-Some.ensures c.len-count.ensures
    (when_ok c.call.result c.is_err.result c.is_err.ensures.value c.if-is_err.false c.call.ensures.ok)

pub returns-clause-quiet : goal.returns-clause-quiet
returns-clause-quiet c = λ deep. called_quietly c.args.program.now c.args.self.now c.call.new.self c.args.ready c.args.class c.args.method c.len-count.result c.in-Some.callee.now c.requires.phase c.requires.ready c.requires.at c.in-Some.ensures c.len-count.ensures
    (when_ok c.call.result c.is_err.result c.is_err.ensures.value c.if-is_err.false c.call.ensures.ok) deep

pub returns-then-is_err-clause-memory : goal.returns-then-is_err-clause-memory
returns-then-is_err-clause-memory c = calls_takes c.args.program.now c.args.self.now c.args.ready c.args.class c.args.method c.requires.phase c.requires.ready c.requires.at c.requires.arguments (when_err c.call.result c.is_err.result c.is_err.ensures.value c.if-is_err.true c.call.ensures.memory)
