use Rattle.std.proofs.Common.{refl, sym, ◌∙◌}
use Rattle.interpreter.proofs.CodeBodies.{on_err}
use Rattle.interpreter.proofs.Saying.{asks_file, asks_quietly, halts_quietly, one_halts, prints_quietly, text_taken}
use Rattle.interpreter.proofs.interpreter.Interpreter.say_half.Goals as goal

pub returns-in_default-clause-row : goal.returns-in_default-clause-row
returns-in_default-clause-row c = λ none. halts_quietly c.args.program.now c.args.self.now _ c.requires.half (λ o at. absurd (c.in_default.ensures.none o at)) refl

pub returns-in-Some-asks_of-clause-says : goal.returns-in-Some-asks_of-clause-says
returns-in-Some-asks_of-clause-says c = asks_quietly c.args.program.now c.args.self.now _ c.in-Some.op c.in-Some-asks_of.class c.requires.half c.in-Some.ensures.some (sym c.asks_of.ensures ∙ c.in-Some-asks_of.is) refl

pub returns-in-Some-asks_of-clause-sayable : goal.returns-in-Some-asks_of-clause-sayable
returns-in-Some-asks_of-clause-sayable c = λ phase. asks_file c.args.program.now c.args.self.now.frames c.in-Some.op c.in-Some-asks_of.class c.instructions_name_what_is_there.ensures c.in-Some.ensures.some (sym c.asks_of.ensures ∙ c.in-Some-asks_of.is)

pub returns-in_default-prints_of-clause-row : goal.returns-in_default-prints_of-clause-row
returns-in_default-prints_of-clause-row c = λ none. one_halts c.args.program.now c.args.self.now _ c.in-Some.op c.requires.half c.in-Some.ensures.some (sym c.asks_of.ensures ∙ c.in_default-asks_of.is) (sym c.prints_of.ensures ∙ c.in_default-prints_of.is) refl

pub returns-in_err-print-clause-memory : goal.returns-in_err-print-clause-memory
returns-in_err-print-clause-memory c = on_err c.from_residual.result (text_taken c.args.program.now c.args.self.now c.in-Some.op c.in-Some-prints_of.method c.requires.half c.in-Some.ensures.some (sym c.prints_of.ensures ∙ c.in-Some-prints_of.is))

pub returns-clause-says : goal.returns-clause-says
returns-clause-says c = prints_quietly c.args.program.now c.args.self.now c.print.new.self c.in_ok-print.field-0 c.in-Some.op c.in-Some-prints_of.method c.requires.half c.in-Some.ensures.some (sym c.prints_of.ensures ∙ c.in-Some-prints_of.is) c.in_ok-print.ensures.prints c.in_ok-print.ensures.ok
