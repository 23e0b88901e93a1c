-- The place of a static field among the static ones.
use Rattle.std.proofs.Common.{◌≡◌, ℕ, true, Option, Some, None, slice_get}
use Rattle.std.specs.Prelude.{filter, length, take}
use Rattle.jasmin_text.specs.declared.class_text.Field.{Field}
use Rattle.hierarchy.specs.declared.class.Class.{Class}
use Rattle.hierarchy.specs.declared.class.ClassId.{ClassId}
use Rattle.hierarchy.specs.LinkedProgram.{LinkedProgram, class_at}
use Rattle.hierarchy.specs.OwnNames.{fields_in, fields_of}
use Rattle.hierarchy.specs.StaticFields.{is_static_field, place_among_statics}
use Rattle.hierarchy.proofs.Positions.{filtered_there}
use Rattle.statics.specs.Statics.{static_fields_in, static_fields}

by_class : (o : Option Class) (place : ℕ) (f : Field) → slice_get (fields_in o) place ≡ Some f → is_static_field f ≡ true
    → slice_get (static_fields_in o) (length (filter is_static_field (take place (fields_in o)))) ≡ Some f
by_class None place f g t = cc
by_class (Some class) place f g t = filtered_there is_static_field class.fields place f g t

pub place_kept : (p : LinkedProgram) (c : ClassId) (place : ℕ) (f : Field) → slice_get (fields_of p c) place ≡ Some f → is_static_field f ≡ true
    → slice_get (static_fields p c) (place_among_statics p c place) ≡ Some f
place_kept p c place f g t = by_class (class_at p c) place f g t
