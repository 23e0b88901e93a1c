use Rattle.std.proofs.Common.{◌≡◌, ◌∙◌, sym, ap, None, slice_get}
use Rattle.std.specs.Prelude.{option_copied}
use Rattle.hierarchy.specs.Objects.{ready_objects}
use Rattle.hierarchy.proofs.TextReferences.{ready_text, ready_nothing}
use Rattle.hierarchy.proofs.program.Program.ready_object.Goals as goal

pub returns-in-Some-text_at : goal.returns-in-Some-text_at
returns-in-Some-text_at c = ready_text c.args.self.now c.args.reference c.in-Some-text_at.field-0.now (sym c.text_at.ensures ∙ ap option_copied c.in-Some-text_at.is)

pub returns-in-None : goal.returns-in-None
returns-in-None c =
    let past : slice_get ready_objects c.args.reference ≡ None = sym c.object_in.ensures ∙ c.in_default.is in
    ready_nothing c.args.self.now c.args.reference past (sym c.text_at.ensures ∙ ap option_copied c.in-None.is)
