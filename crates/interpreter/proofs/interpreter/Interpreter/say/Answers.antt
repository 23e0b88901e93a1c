use Rattle.std.proofs.Common.{refl}
use Rattle.bodies.specs.declared.does.Does.TheVariants.{Ended}
use Rattle.bodies.specs.declared.report.Limit.TheVariants.{Memory}
use Rattle.interpreter.specs.Says.{no_memory}
use Rattle.interpreter.proofs.Quietly.{from_quiet}
use Rattle.interpreter.proofs.Running.{no_rows, then_row_of}
use Rattle.interpreter.proofs.Saying.{calls_there_are, idles_on, makes_there_are, then_alone, then_alone_on}
use Rattle.interpreter.proofs.interpreter.Interpreter.say.Goals as goal

pub returns-in-Gets-clause-says : goal.returns-in-Gets-clause-says
returns-in-Gets-clause-says c = then_alone c.args.program.now c.args.self.now c.args.self.now c.get_static.new.self c.get_static.result (no_rows c.args.program.now c.args.self.now) (from_quiet c.get_static.ensures.says)

pub returns-in-Puts-clause-says : goal.returns-in-Puts-clause-says
returns-in-Puts-clause-says c = then_alone c.args.program.now c.args.self.now c.args.self.now c.put_static.new.self c.put_static.result (no_rows c.args.program.now c.args.self.now) (from_quiet c.put_static.ensures.says)

pub returns-in_default : goal.returns-in_default
returns-in_default c = record { says = c.say_running.ensures.says; sayable = c.say_running.ensures.sayable c.args.self.now.phase }

pub returns-in-Ok-clause-says : goal.returns-in-Ok-clause-says
returns-in-Ok-clause-says c = then_alone_on c.args.program.now c.args.self.now c.make.new.self c.say_running-in-Ok.new.self c.say_running-in-Ok.result (then_row_of c.args.program.now c.args.self.now c.args.self.now c.make.new.self (no_rows c.args.program.now c.args.self.now) c.in-Ok.ensures.row) c.say_running-in-Ok.ensures.says

pub returns-in-Ok-clause-sayable : goal.returns-in-Ok-clause-sayable
returns-in-Ok-clause-sayable c = c.say_running-in-Ok.ensures.sayable c.args.self.now.phase

pub returns-in-Err-clause-says : goal.returns-in-Err-clause-says
returns-in-Err-clause-says c = rw c.in-Err.ensures.err (then_alone c.args.program.now c.args.self.now c.args.self.now c.args.self.now (Ended Memory) (no_rows c.args.program.now c.args.self.now) (no_memory c.in-Err.ensures.memory))

pub returns-in-Ok-call_static-clause-says : goal.returns-in-Ok-call_static-clause-says
returns-in-Ok-call_static-clause-says c = then_alone_on c.args.program.now c.args.self.now c.call_static.new.self c.say_running-in-Ok-call_static.new.self c.say_running-in-Ok-call_static.result (then_row_of c.args.program.now c.args.self.now c.args.self.now c.call_static.new.self (no_rows c.args.program.now c.args.self.now) c.in-Ok-call_static.ensures.row) c.say_running-in-Ok-call_static.ensures.says

pub returns-in-Ok-call_static-clause-sayable : goal.returns-in-Ok-call_static-clause-sayable
returns-in-Ok-call_static-clause-sayable c = c.say_running-in-Ok-call_static.ensures.sayable c.args.self.now.phase

pub returns-in-Err-call_static-clause-says : goal.returns-in-Err-call_static-clause-says
returns-in-Err-call_static-clause-says c = rw c.in-Err-call_static.ensures.err (then_alone c.args.program.now c.args.self.now c.args.self.now c.args.self.now (Ended Memory) (no_rows c.args.program.now c.args.self.now) (no_memory c.in-Err-call_static.ensures.memory))

pub returns-in-Idles-clause-says : goal.returns-in-Idles-clause-says
returns-in-Idles-clause-says c = then_alone_on c.args.program.now c.args.self.now _ c.say_running-in-Idles.new.self c.say_running-in-Idles.result (then_row_of c.args.program.now c.args.self.now c.args.self.now _ (no_rows c.args.program.now c.args.self.now) (from_quiet (idles_on c.args.program.now c.args.self.now _ c.in-Ready.class c.in-Ready.is c.in-Idles.ensures refl))) c.say_running-in-Idles.ensures.says

pub returns-in-Idles-clause-sayable : goal.returns-in-Idles-clause-sayable
returns-in-Idles-clause-sayable c = c.say_running-in-Idles.ensures.sayable c.args.self.now.phase

pub make-requires-clause-ready : goal.make-requires-clause-ready
make-requires-clause-ready c = (makes_there_are c.args.program.now c.args.self.now.frames c.in-Ready.class c.in-Makes.wanted c.in-Makes.ensures).0

pub make-requires-clause-at : goal.make-requires-clause-at
make-requires-clause-at c = (makes_there_are c.args.program.now c.args.self.now.frames c.in-Ready.class c.in-Makes.wanted c.in-Makes.ensures).1

pub make-requires-clause-room : goal.make-requires-clause-room
make-requires-clause-room c = (makes_there_are c.args.program.now c.args.self.now.frames c.in-Ready.class c.in-Makes.wanted c.in-Makes.ensures).2

pub call_static-requires-clause-ready : goal.call_static-requires-clause-ready
call_static-requires-clause-ready c = (calls_there_are c.args.program.now c.args.self.now.frames c.in-Ready.class c.in-Calls.wanted c.in-Calls.method c.in-Calls.ensures).0

pub call_static-requires-clause-at : goal.call_static-requires-clause-at
call_static-requires-clause-at c = (calls_there_are c.args.program.now c.args.self.now.frames c.in-Ready.class c.in-Calls.wanted c.in-Calls.method c.in-Calls.ensures).1

pub call_static-requires-clause-arguments : goal.call_static-requires-clause-arguments
call_static-requires-clause-arguments c = (calls_there_are c.args.program.now c.args.self.now.frames c.in-Ready.class c.in-Calls.wanted c.in-Calls.method c.in-Calls.ensures).2
