use Rattle.std.proofs.Common.{refl}
use Rattle.interpreter.proofs.Saying.{gets_quietly, gets_sayable}
use Rattle.interpreter.proofs.interpreter.Interpreter.get_static.Goals as goal

pub returns-clause-says : goal.returns-clause-says
returns-clause-says c = gets_quietly c.args.program.now c.args.self.now _ _ c.args.class c.args.field c.requires.phase c.requires.at refl refl

pub returns-clause-sayable : goal.returns-clause-sayable
returns-clause-sayable c = gets_sayable c.args.program.now c.args.self.now.frames c.args.self.now.phase _ c.args.class c.args.field c.is_linked.ensures.linked c.instructions_name_what_is_there.ensures c.requires.phase c.requires.at refl
