-- The static fields of a class among its fields.
use Rattle.std.specs.Prelude.{ℕ, Bool, filter, length, take}
use Rattle.jasmin_text.specs.declared.class_text.Field.{Field}
use Rattle.hierarchy.specs.declared.class.ClassId.{ClassId}
use Rattle.hierarchy.specs.LinkedProgram.{LinkedProgram}
use Rattle.hierarchy.specs.OwnNames.{fields_of}

abbrev pub is_static_field : Field → Bool
is_static_field f = f.access.is_static

-- the place among the static fields of a class, of the field at a place among all of them
abbrev pub place_among_statics : LinkedProgram → ClassId → ℕ → ℕ
place_among_statics p c place = length (filter is_static_field (take place (fields_of p c)))
