use Rattle.interpreter.proofs.Quietly.{made_or_called}
use Rattle.interpreter.proofs.Saying.{calls_there_are, makes_there_are}
use Rattle.interpreter.proofs.interpreter.Interpreter.touch_ready.Goals as goal

pub unreachable-requires : goal.unreachable-requires
unreachable-requires c = made_or_called c.args.program.now c.args.self.now.frames c.args.class _ c.requires.touches.0 c.resumes.result c.requires.touches.1 c.requires.touches.2 c.resumes.ensures c.in_default.not-Makes c.in_default.not-Calls

pub make-requires-clause-ready : goal.make-requires-clause-ready
make-requires-clause-ready c = (makes_there_are c.args.program.now c.args.self.now.frames c.args.class c.in-Makes.wanted c.in-Makes.ensures).0

pub make-requires-clause-at : goal.make-requires-clause-at
make-requires-clause-at c = (makes_there_are c.args.program.now c.args.self.now.frames c.args.class c.in-Makes.wanted c.in-Makes.ensures).1

pub make-requires-clause-room : goal.make-requires-clause-room
make-requires-clause-room c = (makes_there_are c.args.program.now c.args.self.now.frames c.args.class c.in-Makes.wanted c.in-Makes.ensures).2

pub call_static-requires-clause-ready : goal.call_static-requires-clause-ready
call_static-requires-clause-ready c = (calls_there_are c.args.program.now c.args.self.now.frames c.args.class c.in-Calls.wanted c.in-Calls.method c.in-Calls.ensures).0

pub call_static-requires-clause-at : goal.call_static-requires-clause-at
call_static-requires-clause-at c = (calls_there_are c.args.program.now c.args.self.now.frames c.args.class c.in-Calls.wanted c.in-Calls.method c.in-Calls.ensures).1

pub call_static-requires-clause-arguments : goal.call_static-requires-clause-arguments
call_static-requires-clause-arguments c = (calls_there_are c.args.program.now c.args.self.now.frames c.args.class c.in-Calls.wanted c.in-Calls.method c.in-Calls.ensures).2
