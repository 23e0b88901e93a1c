use Rattle.std.proofs.Common.{Some, ap, refl, sym, ◌∙◌}
use Rattle.frames.specs.declared.thrown.Thrown.{Thrown}
use Rattle.interpreter.specs.declared.phase.Phase.TheVariants.{Over}
use Rattle.interpreter.specs.Memory.{makes_argument}
use Rattle.interpreter.specs.Rows.{no_main}
use Rattle.interpreter.proofs.Beginning.{gives_row}
use Rattle.interpreter.proofs.CodeBodies.{on_err}
use Rattle.interpreter.proofs.interpreter.Interpreter.make_argument.Goals as goal

pub returns-in_default-clause-row : goal.returns-in_default-clause-row
returns-in_default-clause-row c = no_main c.requires.phase (sym c.first_method.ensures ∙ c.in_default.is) refl

pub returns-in_err-reference-clause-memory : goal.returns-in_err-reference-clause-memory
returns-in_err-reference-clause-memory c = on_err c.from_residual.result (makes_argument c.requires.phase (sym c.first_method.ensures ∙ c.in-Some.is) c.in_err-reference.ensures.room)

pub returns-in-Some-2-clause-row : goal.returns-in-Some-2-clause-row
returns-in-Some-2-clause-row c = gives_row c.args.program.now c.args.self.now _ c.args.class c.in-Some.field-0 c.first_method.result _ c.new_texts.new.heap _ c.requires.phase (sym c.first_method.ensures) c.in-Some.is (sym c.in-Some-2.is ∙ c.in_ok-reference.ensures.reference) c.in_ok-reference.ensures.made refl refl

pub returns-in-None-clause-row : goal.returns-in-None-clause-row
returns-in-None-clause-row c = gives_row c.args.program.now c.args.self.now _ c.args.class c.in-Some.field-0 c.first_method.result _ c.new_texts.new.heap _ c.requires.phase (sym c.first_method.ensures) c.in-Some.is (sym c.in-None.is ∙ c.in_ok-reference.ensures.reference) c.in_ok-reference.ensures.made (ap (λ (t : Thrown). Over (Some t)) c.out_of_memory.ensures) refl
