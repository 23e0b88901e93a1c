-- The static fields of a class, with their defaults (JVMS SE 8 2.3, 2.4) and constants (4.7.2, 5.5 step 6).
use Rattle.std.specs.Prelude.{ℕ, ℤ, pos, ◌+ℤ◌, ◌-ℤ◌, int_lt, ◌==◌, List, [], ◌∷◌, Option, Some, None, map, filter, slice_get, if◌then◌else◌}
use Rattle.std.specs.Option.{option_map, unwrap_or}
use Rattle.std.specs.Int.{int_rem_euclid}
use Rattle.descriptors.specs.declared.base.BaseType.{BaseType}
use Rattle.descriptors.specs.declared.base.BaseType.TheVariants.{Boolean, Byte, Char, Short, Int}
use Rattle.descriptors.specs.declared.field.ElementType.{ElementType}
use Rattle.descriptors.specs.declared.field.ElementType.TheVariants.{Base, Class as OfClass}
use Rattle.descriptors.specs.declared.field.FieldType.{FieldType}
use Rattle.jasmin_text.specs.declared.class_text.Constant.{Constant}
use Rattle.jasmin_text.specs.declared.class_text.Constant.TheVariants as constant
use Rattle.jasmin_text.specs.declared.class_text.Field.{Field}
use Rattle.hierarchy.specs.declared.class.Class.{Class}
use Rattle.hierarchy.specs.declared.class.ClassId.{ClassId}
use Rattle.hierarchy.specs.declared.value.Value.{Value}
use Rattle.hierarchy.specs.declared.value.Value.TheVariants as value
use Rattle.hierarchy.specs.LinkedProgram.{LinkedProgram, class_at}
use Rattle.hierarchy.specs.StaticFields.{is_static_field}
use Rattle.hierarchy.specs.Quoted.{text_reference}
use Rattle.statics.specs.declared.static_field.StaticField.{StaticField}

-- the low bits of an int as a number from -half to below half
abbrev pub signed_low : ℤ → ℤ → ℤ
signed_low half n = if int_lt (int_rem_euclid n (half +ℤ half)) half then int_rem_euclid n (half +ℤ half) else int_rem_euclid n (half +ℤ half) -ℤ (half +ℤ half)

-- What a field of a base type keeps of an int: the low bits, as i2b, i2c and i2s keep them; of boolean the lowest bit.
abbrev pub narrowed_int : BaseType → ℤ → ℤ
narrowed_int Boolean n = int_rem_euclid n (pos 2)
narrowed_int Byte n = signed_low (pos 128) n
narrowed_int Char n = int_rem_euclid n (pos 65536)
narrowed_int Short n = signed_low (pos 32768) n
narrowed_int Int n = n

-- what a field keeps of a value; without a base type it holds references
abbrev pub narrowed : Option BaseType → Value → Value
narrowed (Some base) (value.Int n) = value.Int (narrowed_int base n)
narrowed _ v = v

abbrev pub base_of_element : ElementType → ℕ → Option BaseType
base_of_element (Base base) dimensions = if dimensions == 0 then Some base else None
base_of_element (OfClass name) dimensions = None

-- the base type of a field's type, if it is one
abbrev pub base_in : FieldType → Option BaseType
base_in type = base_of_element type.element type.dimensions

abbrev pub default_in : Option BaseType → Value
default_in None = value.Null
default_in (Some base) = value.Int (pos 0)

-- what a field holds from the start
abbrev pub default_of : StaticField → Value
default_of f = default_in f.base

abbrev pub referred : Option ℕ → Value
referred None = value.Null
referred (Some number) = value.Reference number

abbrev pub text_value : LinkedProgram → List ℕ → Value
text_value p text = referred (text_reference p text)

-- a constant as a field keeps it
abbrev pub constant_value : LinkedProgram → Option BaseType → Constant → Value
constant_value p base (constant.Int n) = narrowed base (value.Int n)
constant_value p base (constant.Text text) = text_value p text

abbrev pub static_field : LinkedProgram → Field → StaticField
static_field p f = record { base = base_in f.field_type; constant = option_map (constant_value p (base_in f.field_type)) f.value }

abbrev pub static_fields_in : Option Class → List Field
static_fields_in None = []
static_fields_in (Some class) = filter is_static_field class.fields

-- the static fields of a class of the files, in file order
abbrev pub static_fields : LinkedProgram → ClassId → List Field
static_fields p c = static_fields_in (class_at p c)

-- and what is known of each before the program runs
abbrev pub statics_of : LinkedProgram → ClassId → List StaticField
statics_of p c = map (static_field p) (static_fields p c)

abbrev pub kept_in : Option StaticField → Value → Value
kept_in None v = v
kept_in (Some f) v = narrowed f.base v

-- what the field at this place keeps of a value
abbrev pub kept_by : List StaticField → ℕ → Value → Value
kept_by fields place v = kept_in (slice_get fields place) v

-- what a field holds after step 6: its constant, if it has one
abbrev pub with_constant : StaticField → Value → Value
with_constant f v = unwrap_or f.constant v

abbrev pub with_constants : List StaticField → List Value → List Value
with_constants [] vs = []
with_constants (f ∷ fs) [] = []
with_constants (f ∷ fs) (v ∷ vs) = with_constant f v ∷ with_constants fs vs
