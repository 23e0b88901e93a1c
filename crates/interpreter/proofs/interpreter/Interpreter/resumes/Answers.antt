use Rattle.interpreter.proofs.Saying.{calls_resume, gets_resume, idles_resume, makes_resume, none_resumes, puts_resume}
use Rattle.interpreter.proofs.interpreter.Interpreter.resumes.Goals as goal

pub returns-in_default : goal.returns-in_default
returns-in_default c = none_resumes c.args.program.now c.args.self.now.frames c.args.class c.in_default.ensures.none

pub returns-then-not-waits_for : goal.returns-then-not-waits_for
returns-then-not-waits_for c = idles_resume c.args.program.now c.args.self.now.frames c.in-Some.op c.args.class c.waits_for.result c.in-Some.ensures.some c.waits_for.ensures c.if-not-waits_for.true

pub returns-in-GetStatic : goal.returns-in-GetStatic
returns-in-GetStatic c = gets_resume c.args.program.now c.args.self.now.frames c.in-Some.op c.args.class c.in-GetStatic.field-0 c.in-GetStatic.field c.waits_for.result c.in-Some.ensures.some c.waits_for.ensures c.if-not-waits_for.false c.in-GetStatic.is

pub returns-in-PutStatic : goal.returns-in-PutStatic
returns-in-PutStatic c = puts_resume c.args.program.now c.args.self.now.frames c.in-Some.op c.args.class c.in-PutStatic.field-0 c.in-PutStatic.field c.waits_for.result c.in-Some.ensures.some c.waits_for.ensures c.if-not-waits_for.false c.in-PutStatic.is

pub returns-in-New : goal.returns-in-New
returns-in-New c = makes_resume c.args.program.now c.args.self.now.frames c.in-Some.op c.args.class c.in-New.wanted c.waits_for.result c.in-Some.ensures.some c.waits_for.ensures c.if-not-waits_for.false c.in-New.is

pub returns-in-InvokeStatic : goal.returns-in-InvokeStatic
returns-in-InvokeStatic c = calls_resume c.args.program.now c.args.self.now.frames c.in-Some.op c.args.class c.in-InvokeStatic.wanted c.in-InvokeStatic.method c.waits_for.result c.in-Some.ensures.some c.waits_for.ensures c.if-not-waits_for.false c.in-InvokeStatic.is
