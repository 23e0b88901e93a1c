use Rattle.std.proofs.Common.{◌∷◌, append_assoc}
use Rattle.descriptors.specs.Spelling.{field_spelling}
use Rattle.trace_reader.proofs.Fronts.{some_joined, none_joined}
use Rattle.trace_reader.proofs.fields.spells_field.Goals as goal

pub returns-in-Some : goal.returns-in-Some
returns-in-Some c =
    simp append_assoc (some_joined c.args.field.now.name (58 ∷ field_spelling c.args.field.now.field_type) c.args.word.now c.in-Some.rest.now c.spells_type_behind_colon.result (rw c.as_slice.ensures.bytes at c.in-Some.ensures) c.spells_type_behind_colon.ensures)

pub returns-in-None : goal.returns-in-None
returns-in-None c = simp append_assoc (none_joined c.args.field.now.name (58 ∷ field_spelling c.args.field.now.field_type) c.args.word.now (rw c.as_slice.ensures.bytes at c.in-None.ensures))
