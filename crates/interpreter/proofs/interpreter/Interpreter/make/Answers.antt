use Rattle.interpreter.proofs.CodeBodies.{when_err, when_ok}
use Rattle.interpreter.proofs.Saying.{makes_at, makes_takes}
use Rattle.interpreter.proofs.Served.{room_for_one}
use Rattle.interpreter.proofs.interpreter.Interpreter.make.Goals as goal

pub returns-clause-row : goal.returns-clause-row
returns-clause-row c = makes_at c.args.program.now c.args.self.now c.make_object.new.self c.args.ready c.args.class c.requires.phase c.requires.ready c.requires.at c.requires.room
    (when_ok c.make_object.result c.is_err.result c.is_err.ensures.value c.if-is_err.false c.make_object.ensures.ok)

pub make_object-requires : goal.make_object-requires
make_object-requires c = room_for_one c.args.self.now.frames c.requires.room

pub returns-then-is_err-clause-memory : goal.returns-then-is_err-clause-memory
returns-then-is_err-clause-memory c = makes_takes c.args.program.now c.args.self.now c.args.ready c.args.class c.requires.phase c.requires.ready c.requires.at c.requires.room (when_err c.make_object.result c.is_err.result c.is_err.ensures.value c.if-is_err.true c.make_object.ensures.memory)
