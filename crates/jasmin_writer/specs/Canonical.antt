-- The one canonical spelling of a class text, line by line.
use Rattle.std.specs.Prelude.{ℕ, ◌+◌, min, Bool, true, false, ◌||◌, ◌==◌, List, [], ◌∷◌, ◌++◌, length, map, Option, Some, None, ℤ}
use Rattle.std.specs.List.{flat_map}
use Rattle.std.specs.Fmt.{decimal, signed_decimal}
use Rattle.descriptors.specs.Spelling.{field_spelling, method_spelling}
use Rattle.jasmin_words.specs.Quoting.{quoted}
use Rattle.jasmin_writer.specs.declared.keyword.Keyword.{Keyword}
use Rattle.jasmin_writer.specs.declared.keyword.Keyword.TheVariants as word
use Rattle.jasmin_writer.specs.Keywords.{spelled}
use Rattle.jasmin_text.specs.BaseWords.{base_word}
use Rattle.jasmin_writer.specs.CanonicalWords.{word_of}
use Rattle.jasmin_text.specs.declared.form.Form.TheVariants as form
use Rattle.jasmin_text.specs.declared.access.Access.{Access}
use Rattle.jasmin_text.specs.declared.class_text.ClassKind.{ClassKind}
use Rattle.jasmin_text.specs.declared.class_text.ClassKind.TheVariants as kind
use Rattle.jasmin_text.specs.declared.class_text.Constant.{Constant}
use Rattle.jasmin_text.specs.declared.class_text.Constant.TheVariants as constant
use Rattle.jasmin_text.specs.declared.class_text.Field.{Field}
use Rattle.jasmin_text.specs.declared.class_text.Handler.{Handler}
use Rattle.jasmin_text.specs.declared.class_text.Code.{Code}
use Rattle.jasmin_text.specs.declared.class_text.Method.{Method}
use Rattle.jasmin_text.specs.declared.class_text.ClassParts.{ClassParts}
use Rattle.jasmin_text.specs.declared.instruction.Instruction.{Instruction}
use Rattle.jasmin_text.specs.declared.instruction.Instruction.TheVariants as instruction
use Rattle.jasmin_text.specs.declared.instruction.FieldReference.{FieldReference}
use Rattle.jasmin_text.specs.declared.instruction.MethodReference.{MethodReference}
use Rattle.jasmin_text.specs.declared.instruction.ReferenceType.{ReferenceType}
use Rattle.jasmin_text.specs.declared.instruction.ReferenceType.TheVariants as reference

-- a line with its end
abbrev pub ended : List ℕ → List ℕ
ended line = line ++ 10 ∷ []

abbrev pub ended_all : List (List ℕ) → List ℕ
ended_all lines = flat_map ended lines

-- a word after a space, where it is written
abbrev pub word_if : Bool → Keyword → List ℕ
word_if true w = spelled w
word_if false w = []

unfoldable pub visibility_text : Access → List ℕ
visibility_text a = word_if a.public word.Public ++ word_if a.private word.Private ++ word_if a.protected word.Protected

unfoldable pub binding_text : Access → List ℕ
binding_text a = word_if a.is_static word.Static ++ word_if a.is_final word.Final ++ word_if a.synchronized word.Synchronized

unfoldable pub storage_text : Access → List ℕ
storage_text a = word_if a.volatile word.Volatile ++ word_if a.transient word.Transient ++ word_if a.is_abstract word.Abstract

-- the access words, each after a space
unfoldable pub access_text : Access → List ℕ
access_text a = visibility_text a ++ binding_text a ++ storage_text a

abbrev pub kind_text : ClassKind → List ℕ
kind_text kind.Class = spelled word.Class
kind_text kind.Interface = spelled word.Interface

unfoldable pub class_line : ClassKind → Access → List ℕ → List ℕ
class_line k a name = kind_text k ++ access_text a ++ 32 ∷ name

unfoldable pub super_line : List ℕ → List ℕ
super_line name = spelled word.Super ++ name

unfoldable pub implements_line : List ℕ → List ℕ
implements_line name = spelled word.Implements ++ name

unfoldable pub constant_text : Constant → List ℕ
constant_text (constant.Int n) = signed_decimal n
constant_text (constant.Text t) = quoted t

abbrev pub value_text : Option Constant → List ℕ
value_text None = []
value_text (Some v) = spelled word.Equals ++ constant_text v

unfoldable pub field_end : Field → List ℕ
field_end f = f.name ++ 32 ∷ field_spelling f.field_type ++ value_text f.value

unfoldable pub field_line : Field → List ℕ
field_line f = spelled word.Field ++ access_text f.access ++ 32 ∷ field_end f

-- the label of a place
unfoldable pub label_text : ℕ → List ℕ
label_text place = 76 ∷ decimal place

-- a label's own colon has no space
unfoldable pub label_line : ℕ → List ℕ
label_line place = label_text place ++ 58 ∷ []

abbrev pub caught_text : Option (List ℕ) → List ℕ
caught_text None = spelled word.All
caught_text (Some name) = name

unfoldable pub range_text : Handler → List ℕ
range_text h = spelled word.From ++ label_text h.from ++ spelled word.To ++ label_text h.to ++ spelled word.Using ++ label_text h.handler

unfoldable pub handler_line : Handler → List ℕ
handler_line h = spelled word.Catch ++ caught_text h.class ++ range_text h

unfoldable pub field_text : FieldReference → List ℕ
field_text r = r.class ++ 47 ∷ r.name ++ 32 ∷ field_spelling r.field_type

unfoldable pub method_text : MethodReference → List ℕ
method_text r = r.class ++ 47 ∷ r.name ++ method_spelling r.method_type

abbrev pub reference_text : ReferenceType → List ℕ
reference_text (reference.Class name) = name
reference_text (reference.Array t) = field_spelling t

-- one more than the parameters, but at most 255
abbrev pub interface_count : MethodReference → ℕ
interface_count r = min 255 (length r.method_type.parameters + 1)

unfoldable pub interface_line : MethodReference → List ℕ
interface_line r = word_of form.CallInterface ++ 32 ∷ method_text r ++ 32 ∷ decimal (interface_count r)

unfoldable pub increment_line : ℕ → ℤ → List ℕ
increment_line n by = word_of form.Increment ++ 32 ∷ decimal n ++ 32 ∷ signed_decimal by

-- a key of a lookupswitch with its target
unfoldable pub case_line : ℤ × ℕ → List ℕ
case_line c = signed_decimal c.0 ++ spelled word.Colon ++ label_text c.1

unfoldable pub default_line : ℕ → List ℕ
default_line place = spelled word.Default ++ label_text place

-- the lines of an instruction; a switch has one for each label or key, and one for the rest
unfoldable pub instruction_lines : Instruction ℕ → List (List ℕ)
instruction_lines (instruction.Plain p) = word_of (form.Plain p) ∷ []
instruction_lines (instruction.Constant c) = (word_of form.Constant ++ 32 ∷ constant_text c) ∷ []
instruction_lines (instruction.Local l n) = (word_of (form.Local l) ++ 32 ∷ decimal n) ∷ []
instruction_lines (instruction.Increment n c) = increment_line n c ∷ []
instruction_lines (instruction.Jump j place) = (word_of (form.Jump j) ++ 32 ∷ label_text place) ∷ []
instruction_lines (instruction.TableSwitch low places default) = (word_of form.TableSwitch ++ 32 ∷ signed_decimal low) ∷ (map label_text places ++ default_line default ∷ [])
instruction_lines (instruction.LookupSwitch cases default) = word_of form.LookupSwitch ∷ (map case_line cases ++ default_line default ∷ [])
instruction_lines (instruction.Field f r) = (word_of (form.Field f) ++ 32 ∷ field_text r) ∷ []
instruction_lines (instruction.Call c r) = (word_of (form.Call c) ++ 32 ∷ method_text r) ∷ []
instruction_lines (instruction.CallInterface r) = interface_line r ∷ []
instruction_lines (instruction.New name) = (word_of form.New ++ 32 ∷ name) ∷ []
instruction_lines (instruction.NewArray b) = (word_of form.NewArray ++ 32 ∷ base_word b) ∷ []
instruction_lines (instruction.TypeUse t r) = (word_of (form.TypeUse t) ++ 32 ∷ reference_text r) ∷ []

-- the places that an instruction names
abbrev pub instruction_places : Instruction ℕ → List ℕ
instruction_places (instruction.Jump j place) = place ∷ []
instruction_places (instruction.TableSwitch low places default) = places ++ default ∷ []
instruction_places (instruction.LookupSwitch cases default) = map (λ c. c.1) cases ++ default ∷ []
instruction_places other = []

abbrev pub handler_places : Handler → List ℕ
handler_places h = h.from ∷ h.to ∷ h.handler ∷ []

-- the places that a body names
abbrev pub code_places : Code → List ℕ
code_places code = flat_map handler_places code.handlers ++ flat_map instruction_places code.instructions

abbrev pub is_named : List ℕ → ℕ → Bool
is_named [] place = false
is_named (p ∷ ps) place = p == place || is_named ps place

-- the label of a place that is named
abbrev pub lines_if : Bool → List ℕ → List (List ℕ)
lines_if true line = line ∷ []
lines_if false line = []

abbrev pub place_lines : List ℕ → ℕ → List (List ℕ)
place_lines places place = lines_if (is_named places place) (label_line place)

-- the instructions from a place on, each after its label
unfoldable pub body_lines : List ℕ → ℕ → List (Instruction ℕ) → List (List ℕ)
body_lines places place [] = place_lines places place
body_lines places place (i ∷ is) = place_lines places place ++ instruction_lines i ++ body_lines places (place + 1) is

unfoldable pub stack_line : Code → List ℕ
stack_line code = spelled word.LimitStack ++ decimal code.stack

unfoldable pub locals_line : Code → List ℕ
locals_line code = spelled word.LimitLocals ++ decimal code.locals

unfoldable pub code_lines : Code → List (List ℕ)
code_lines code =
    stack_line code ∷ locals_line code
    ∷ (map handler_line code.handlers ++ body_lines (code_places code) 0 code.instructions)

unfoldable pub method_line : Method → List ℕ
method_line m = spelled word.Method ++ access_text m.access ++ 32 ∷ m.name ++ method_spelling m.method_type

abbrev pub optional_code_lines : Option Code → List (List ℕ)
optional_code_lines None = []
optional_code_lines (Some code) = code_lines code

-- an abstract method has only its first and last line
unfoldable pub method_lines : Method → List (List ℕ)
method_lines m = method_line m ∷ (optional_code_lines m.code ++ spelled word.EndMethod ∷ [])

unfoldable pub class_lines : ClassParts → List (List ℕ)
class_lines c =
    class_line c.kind c.access c.name ∷ super_line c.superclass
    ∷ (map implements_line c.interfaces ++ map field_line c.fields ++ flat_map method_lines c.methods)

-- the file
abbrev pub canonical_text : ClassParts → List ℕ
canonical_text c = ended_all (class_lines c)
