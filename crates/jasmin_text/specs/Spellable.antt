-- What a file can spell.
use Rattle.std.specs.Prelude.{◌≡◌, ℕ, ◌+◌, ◌-◌, Bool, true, false, not, ◌&&◌, ◌==◌, List, [], ◌∷◌, ◌++◌, length, Option, Some, None, is_some, ℤ, pos, negsuc, int_lt, nat_lt, nat_le, if◌then◌else◌, codes}
use Rattle.std.specs.List.{list_all}
use Rattle.std.specs.Str.{is_utf8, bytes_eq}
use Rattle.descriptors.specs.ClassName.{is_class_name}
use Rattle.descriptors.specs.Signature.{Signature}
use Rattle.descriptors.specs.Spelling.{field_spelling, method_spelling}
use Rattle.descriptors.specs.declared.field.ElementType.{ElementType}
use Rattle.descriptors.specs.declared.field.ElementType.TheVariants as element
use Rattle.descriptors.specs.declared.field.FieldType.{FieldType}
use Rattle.jasmin_words.specs.Lexing.{fits}
use Rattle.jasmin_words.specs.Names.{is_member_name}
use Rattle.jasmin_text.specs.Tables.{is_access_word, is_member_word}
use Rattle.jasmin_text.specs.declared.access.Access.{Access}
use Rattle.jasmin_text.specs.declared.class_text.ClassKind.{ClassKind}
use Rattle.jasmin_text.specs.declared.class_text.ClassKind.TheVariants as kind
use Rattle.jasmin_text.specs.declared.class_text.Constant.{Constant}
use Rattle.jasmin_text.specs.declared.class_text.Constant.TheVariants as constant
use Rattle.jasmin_text.specs.declared.class_text.Field.{Field}
use Rattle.jasmin_text.specs.declared.class_text.Handler.{Handler}
use Rattle.jasmin_text.specs.declared.class_text.Code.{Code}
use Rattle.jasmin_text.specs.declared.class_text.Method.{Method}
use Rattle.jasmin_text.specs.declared.class_text.ClassParts.{ClassParts}
use Rattle.jasmin_text.specs.declared.instruction.Instruction.{Instruction}
use Rattle.jasmin_text.specs.declared.instruction.Instruction.TheVariants as instruction
use Rattle.jasmin_text.specs.declared.instruction.FieldReference.{FieldReference}
use Rattle.jasmin_text.specs.declared.instruction.MethodReference.{MethodReference}
use Rattle.jasmin_text.specs.declared.instruction.ReferenceType.{ReferenceType}
use Rattle.jasmin_text.specs.declared.instruction.ReferenceType.TheVariants as reference

-- the number of a local
abbrev pub is_local : ℕ → Bool
is_local n = nat_le n 65535

-- within so many bits and a sign
abbrev pub is_int : ℤ → Bool
is_int (pos n) = nat_lt n 2147483648
is_int (negsuc n) = nat_lt n 2147483648

abbrev pub is_short : ℤ → Bool
is_short (pos n) = nat_lt n 32768
is_short (negsuc n) = nat_lt n 32768

-- a class name that is one word
abbrev pub is_class_word : List ℕ → Bool
is_class_word name = is_class_name name && fits name

-- the characters of a string
abbrev pub is_string : List ℕ → Bool
is_string text = is_utf8 text && fits text

abbrev pub is_element_type : ElementType → Bool
is_element_type (element.Base b) = true
is_element_type (element.Class name) = is_class_name name

-- a type that there is
abbrev pub is_type : FieldType → Bool
is_type t = nat_le t.dimensions 255 && is_element_type t.element

-- a type whose descriptor is one word
unfoldable pub is_field_type : FieldType → Bool
is_field_type t = is_type t && fits (field_spelling t)

abbrev pub is_result_type : Option FieldType → Bool
is_result_type None = true
is_result_type (Some t) = is_type t

-- a signature that there is
unfoldable pub is_method_type : Signature → Bool
is_method_type m = nat_le (length m.parameters) 255 && list_all is_type m.parameters && is_result_type m.result

abbrev pub is_int_type : FieldType → Bool
is_int_type t = elim t.element [ element.Base b ↦ t.dimensions == 0 | element.Class name ↦ false ]

-- Ljava/lang/String;
abbrev pub is_string_type : FieldType → Bool
is_string_type t = elim t.element [ element.Base b ↦ false | element.Class name ↦ t.dimensions == 0 && bytes_eq name (codes "java/lang/String") ]

-- an int for a field of a base type, a string for one of type String
abbrev pub is_value_of : FieldType → Option Constant → Bool
is_value_of t None = true
is_value_of t (Some (constant.Int n)) = is_int_type t && is_int n
is_value_of t (Some (constant.Text text)) = is_string_type t && is_string text

-- A field. An access word in its name's place would be taken for one.
unfoldable pub is_field : Field → Bool
is_field f = is_member_name f.name && fits f.name && not (is_member_word f.name) && is_field_type f.field_type && is_value_of f.field_type f.value

unfoldable pub is_field_reference : FieldReference → Bool
is_field_reference r = is_class_name r.class && is_member_name r.name && fits (r.class ++ 47 ∷ r.name) && is_field_type r.field_type

unfoldable pub is_method_reference : MethodReference → Bool
is_method_reference r = is_class_name r.class && is_member_name r.name && is_method_type r.method_type && fits (r.class ++ 47 ∷ r.name ++ method_spelling r.method_type)

-- a class, or an array of one dimension at least
abbrev pub is_reference_type : ReferenceType → Bool
is_reference_type (reference.Class name) = is_class_word name
is_reference_type (reference.Array t) = not (t.dimensions == 0) && is_field_type t

abbrev pub is_constant : Constant → Bool
is_constant (constant.Int n) = is_int n
is_constant (constant.Text text) = is_string text

-- the keys rise after this one
abbrev pub rises_from : ℤ → List (ℤ × ℕ) → Bool
rises_from key [] = true
rises_from key (c ∷ cs) = int_lt key c.0 && rises_from c.0 cs

abbrev pub rises : List (ℤ × ℕ) → Bool
rises [] = true
rises (c ∷ cs) = rises_from c.0 cs

-- an instruction of a body of so many
unfoldable pub is_instruction : ℕ → Instruction ℕ → Bool
is_instruction count (instruction.Plain p) = true
is_instruction count (instruction.Constant c) = is_constant c
is_instruction count (instruction.Local l n) = is_local n
is_instruction count (instruction.Increment n by) = is_local n && is_short by
is_instruction count (instruction.Jump j place) = nat_le place count
is_instruction count (instruction.TableSwitch low places default) = is_int low && list_all (λ p. nat_le p count) places && nat_le default count
is_instruction count (instruction.LookupSwitch cases default) = list_all (λ c. is_int c.0 && nat_le c.1 count) cases && rises cases && nat_le default count
is_instruction count (instruction.Field f r) = is_field_reference r
is_instruction count (instruction.Call c r) = is_method_reference r
is_instruction count (instruction.CallInterface r) = is_method_reference r
is_instruction count (instruction.New name) = is_class_word name
is_instruction count (instruction.NewArray b) = true
is_instruction count (instruction.TypeUse t r) = is_reference_type r

-- a switch counts one more for each label or key
abbrev pub instruction_size : Instruction ℕ → ℕ
instruction_size (instruction.TableSwitch low places default) = length places + 1
instruction_size (instruction.LookupSwitch cases default) = length cases + 1
instruction_size other = 1

-- the instructions don't need more room
abbrev pub have_room : ℕ → List (Instruction ℕ) → Bool
have_room room [] = true
have_room room (i ∷ is) = nat_le (instruction_size i) room && have_room (room - instruction_size i) is

-- the word all isn't read as the name of a class that is caught
abbrev pub is_caught : Option (List ℕ) → Bool
is_caught None = true
is_caught (Some name) = is_class_word name && not (bytes_eq name (codes "all"))

-- a row of the handler table of a body of so many instructions
unfoldable pub is_handler : ℕ → Handler → Bool
is_handler count h =
    is_caught h.class && nat_le h.from count && nat_le h.to count && nat_le h.handler count

-- JVMS SE 8 4.7.3, with this project's limits
unfoldable pub is_code : Code → Bool
is_code c =
    nat_le c.stack 1024 && nat_le c.locals 1024 && not (length c.instructions == 0) && have_room 16384 c.instructions
    && list_all (is_handler (length c.instructions)) c.handlers && list_all (is_instruction (length c.instructions)) c.instructions

abbrev pub is_optional_code : Bool → Option Code → Bool
is_optional_code is_abstract None = is_abstract
is_optional_code is_abstract (Some c) = not is_abstract && is_code c

-- JVMS SE 8 2.9: an initializer of a class is static, without parameters and without a result
abbrev pub may_initialize : Access → Signature → Bool
may_initialize a m = a.is_static && length m.parameters == 0 && not (is_some m.result)

unfoldable pub is_method : Method → Bool
is_method m =
    is_member_name m.name && is_method_type m.method_type && fits (m.name ++ method_spelling m.method_type)
    && not (m.access.is_abstract && m.access.is_static) && (if bytes_eq m.name (codes "<clinit>") then may_initialize m.access m.method_type else true)
    && is_optional_code m.access.is_abstract m.code

-- after .class the word interface is an access word
abbrev pub is_taken : ClassKind → List ℕ → Bool
is_taken kind.Class name = if bytes_eq name (codes "interface") then true else is_access_word name
is_taken kind.Interface name = is_access_word name

-- the parts that a file can spell
unfoldable pub is_spellable : ClassParts → Bool
is_spellable c =
    is_class_word c.name && not (is_taken c.kind c.name) && is_class_word c.superclass
    && nat_le (length c.interfaces) 255 && list_all is_class_word c.interfaces
    && nat_le (length c.fields) 1024 && nat_le (length c.methods) (1024 - length c.fields)
    && list_all is_field c.fields && list_all is_method c.methods

abbrev pub IsSpellable : ClassParts → Type 0
IsSpellable c = is_spellable c ≡ true
