-- Whether two types are the same.
use Rattle.std.specs.Prelude.{Bool, true, false, ◌&&◌, Option, Some, None, nat_eq, ◌==◌}
use Rattle.std.specs.Cmp.Lexicographic.{pointwise}
use Rattle.descriptors.specs.declared.field.ElementType.{ElementType}
use Rattle.descriptors.specs.declared.field.ElementType.TheVariants.{Base, Class}
use Rattle.descriptors.specs.declared.field.FieldType.{FieldType}
use Rattle.descriptors.specs.Letters.{letter_of}
use Rattle.descriptors.specs.Signature.{Signature}

abbrev pub same_element : ElementType → ElementType → Bool
same_element (Base a) (Base b) = letter_of a == letter_of b
same_element (Base a) (Class n) = false
same_element (Class m) (Base b) = false
same_element (Class m) (Class n) = pointwise nat_eq m n

abbrev pub same_field : FieldType → FieldType → Bool
same_field s t = s.dimensions == t.dimensions && same_element s.element t.element

abbrev pub same_result : Option FieldType → Option FieldType → Bool
same_result None None = true
same_result None (Some t) = false
same_result (Some s) None = false
same_result (Some s) (Some t) = same_field s t

abbrev pub same_method : Signature → Signature → Bool
same_method m n = same_result m.result n.result && pointwise same_field m.parameters n.parameters
