use Rattle.std.proofs.Common.{◌≡◌, ◌-◌, ◌++◌}
use Rattle.std.specs.Prelude.{replicate}
use Rattle.std.specs.Str.{bytes_eq}
use Rattle.descriptors.specs.Spelling.{field_spelling, element_spelling}
use Rattle.trace_reader.proofs.fields.spells_type.Given as goal

abbrev pub invariant-dimensions : goal.invariant-dimensions
invariant-dimensions l = bytes_eq (replicate (l.field_type.dimensions - l._dimension) 91 ++ element_spelling l.field_type.element) l.rest ≡ bytes_eq (field_spelling l.field_type) l.word
