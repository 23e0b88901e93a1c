use Rattle.std.proofs.Common.{◌<◌, ◌≤◌, inl, refl, subst}
use Rattle.bodies.specs.declared.does.Does.TheVariants.{Ended}
use Rattle.bodies.specs.declared.report.Limit.TheVariants.{Memory}
use Rattle.interpreter.proofs.Quietly.{free_called, free_idle, quiet_rows, says_quietly, then_quiet_next, then_quiet_row, touches_ready}
use Rattle.interpreter.proofs.Saying.{calls_there_are, calls_takes, idles_on, refused_still}
use Rattle.interpreter.specs.Touching.{with_objects}
use Rattle.interpreter.specs.declared.says.Resumes.TheVariants as resumes
use Rattle.interpreter.proofs.interpreter.Interpreter.say_quietly.Goals as goal

pub returns-in_default : goal.returns-in_default
returns-in_default c = record { says = c.run_quietly.ensures.says; sayable = c.run_quietly.ensures.sayable c.args.self.now.phase }

pub returns-then-len-ge512-clause-says : goal.returns-then-len-ge512-clause-says
returns-then-len-ge512-clause-says c = touches_ready c.args.program.now c.args.self.now c.in-Ready.class (resumes.Calls c.in-Calls.wanted c.in-Calls.method) c.in-Ready.is c.in-Calls.ensures (subst (λ n. 512 ≤ n) c.len.ensures c.if-len-ge512.true)

pub returns-in-Makes-clause-says : goal.returns-in-Makes-clause-says
returns-in-Makes-clause-says c = touches_ready c.args.program.now c.args.self.now c.in-Ready.class (resumes.Makes c.in-Makes.field-0) c.in-Ready.is c.in-Makes.ensures tt

pub returns-in-Gets-clause-says : goal.returns-in-Gets-clause-says
returns-in-Gets-clause-says c = says_quietly c.args.program.now c.args.self.now c.get_static.new.self c.get_static.result c.get_static.ensures.says

pub returns-in-Puts-clause-says : goal.returns-in-Puts-clause-says
returns-in-Puts-clause-says c = says_quietly c.args.program.now c.args.self.now c.put_static.new.self c.put_static.result c.put_static.ensures.says

pub returns-in-Ok-clause-sayable : goal.returns-in-Ok-clause-sayable
returns-in-Ok-clause-sayable c = c.run_quietly-in-Ok.ensures.sayable c.args.self.now.phase

pub returns-in-Ok-clause-says : goal.returns-in-Ok-clause-says
returns-in-Ok-clause-says c = then_quiet_next c.args.program.now c.args.self.now c.call_static.new.self c.run_quietly-in-Ok.new.self c.run_quietly-in-Ok.result
    (then_quiet_row c.args.program.now c.args.self.now c.args.self.now c.call_static.new.self (quiet_rows c.args.program.now c.args.self.now)
    (free_called c.args.program.now c.args.self.now c.in-Ready.class c.in-Calls.wanted c.in-Calls.method c.in-Ready.is c.in-Calls.ensures (subst (λ n. n < 512) c.len.ensures c.if-len-ge512.false))
    (c.in-Ok.ensures.quiet (subst (λ n. n < 512) c.len.ensures c.if-len-ge512.false))) c.run_quietly-in-Ok.ensures.says

pub returns-in-Err-clause-says : goal.returns-in-Err-clause-says
returns-in-Err-clause-says c = rw c.in-Err.ensures.err (says_quietly c.args.program.now c.args.self.now c.args.self.now (Ended Memory) (refused_still c.args.program.now c.args.self.now
    (λ o. calls_takes c.args.program.now (with_objects c.args.self.now o) c.in-Ready.class c.in-Calls.wanted c.in-Calls.method c.in-Ready.is (calls_there_are c.args.program.now c.args.self.now.frames c.in-Ready.class c.in-Calls.wanted c.in-Calls.method c.in-Calls.ensures).0 (calls_there_are c.args.program.now c.args.self.now.frames c.in-Ready.class c.in-Calls.wanted c.in-Calls.method c.in-Calls.ensures).1 (calls_there_are c.args.program.now c.args.self.now.frames c.in-Ready.class c.in-Calls.wanted c.in-Calls.method c.in-Calls.ensures).2 (inl (subst (λ n. n < 512) c.len.ensures c.if-len-ge512.false)))))

pub returns-in-Idles-clause-says : goal.returns-in-Idles-clause-says
returns-in-Idles-clause-says c = then_quiet_next c.args.program.now c.args.self.now _ c.run_quietly-in-Idles.new.self c.run_quietly-in-Idles.result (then_quiet_row c.args.program.now c.args.self.now c.args.self.now _ (quiet_rows c.args.program.now c.args.self.now) (free_idle c.args.program.now c.args.self.now c.in-Ready.class c.in-Ready.is c.in-Idles.ensures) (idles_on c.args.program.now c.args.self.now _ c.in-Ready.class c.in-Ready.is c.in-Idles.ensures refl)) c.run_quietly-in-Idles.ensures.says

pub returns-in-Idles-clause-sayable : goal.returns-in-Idles-clause-sayable
returns-in-Idles-clause-sayable c = c.run_quietly-in-Idles.ensures.sayable c.args.self.now.phase

pub call_static-requires-clause-ready : goal.call_static-requires-clause-ready
call_static-requires-clause-ready c = (calls_there_are c.args.program.now c.args.self.now.frames c.in-Ready.class c.in-Calls.wanted c.in-Calls.method c.in-Calls.ensures).0

pub call_static-requires-clause-at : goal.call_static-requires-clause-at
call_static-requires-clause-at c = (calls_there_are c.args.program.now c.args.self.now.frames c.in-Ready.class c.in-Calls.wanted c.in-Calls.method c.in-Calls.ensures).1

pub call_static-requires-clause-arguments : goal.call_static-requires-clause-arguments
call_static-requires-clause-arguments c = (calls_there_are c.args.program.now c.args.self.now.frames c.in-Ready.class c.in-Calls.wanted c.in-Calls.method c.in-Calls.ensures).2
