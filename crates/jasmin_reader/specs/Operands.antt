-- What single words represent, and the operands of instructions.
use Rattle.std.specs.Prelude.{ℕ, ◌+◌, Bool, false, not, ◌&&◌, List, [], ◌∷◌, Option, Some, None, Result, Ok, Err, ◌==◌, if◌then◌else◌, nat_le, ℤ, pos, negsuc, ◌+ℤ◌, ◌-ℤ◌, int_le}
use Rattle.std.specs.Option.{ok_or}
use Rattle.descriptors.specs.Signature.{Signature}
use Rattle.descriptors.specs.Reading.{field_of_text, method_of_text}
use Rattle.descriptors.specs.declared.base.BaseType.{BaseType}
use Rattle.descriptors.specs.declared.fault.DescriptorFault.{DescriptorFault}
use Rattle.descriptors.specs.declared.fault.DescriptorFault.TheVariants as descriptor
use Rattle.descriptors.specs.declared.field.FieldType.{FieldType}
use Rattle.jasmin_words.specs.declared.fault.FaultKind.{FaultKind}
use Rattle.jasmin_words.specs.declared.fault.FaultKind.TheVariants as fault
use Rattle.sequence.specs.declared.refusal.Refusal.{Refusal}
use Rattle.sequence.specs.declared.refusal.Refusal.TheVariants as refusal
use Rattle.sequence.specs.Gives.{◌>>=◌}
use Rattle.jasmin_words.specs.Integers.{integer_of}
use Rattle.jasmin_words.specs.Lexing.{Item, Text, BadText}
use Rattle.jasmin_words.specs.Names.{is_label}
use Rattle.jasmin_text.specs.MemberWords.{checked, class_name_in, member_in, before_type, type_part}
use Rattle.jasmin_text.specs.Grammar.{Row, InstructionRow, TableRow, LookupRow, byte_low, short_low}
use Rattle.jasmin_text.specs.declared.class_text.Constant.{Constant}
use Rattle.jasmin_text.specs.declared.class_text.Constant.TheVariants as constant
use Rattle.jasmin_text.specs.declared.form.Form.{Form}
use Rattle.jasmin_text.specs.declared.form.Form.TheVariants as form
use Rattle.jasmin_text.specs.declared.instruction.Instruction.{Instruction}
use Rattle.jasmin_text.specs.declared.instruction.Instruction.TheVariants as instruction
use Rattle.jasmin_text.specs.declared.instruction.MethodReference.{MethodReference}
use Rattle.jasmin_text.specs.declared.instruction.ReferenceType.{ReferenceType}
use Rattle.jasmin_text.specs.declared.instruction.ReferenceType.TheVariants as reference
use Rattle.jasmin_reader.specs.declared.table.BaseWord.{BaseWord}
use Rattle.jasmin_reader.specs.declared.table.BaseWord.TheVariants as base_word
use Rattle.jasmin_reader.specs.Places.{operand, ended_at, both}
use Rattle.jasmin_reader.specs.Table.{base_at}

-- ---- words

abbrev pub label_in : List ℕ → Result (List ℕ) FaultKind
label_in w = checked (is_label w) w

abbrev pub integer_in : List ℕ → Result ℤ FaultKind
integer_in w = ok_or (integer_of w) fault.BadOperand

-- an int of this range
unfoldable pub int_in : ℤ → ℤ → List ℕ → Result ℤ FaultKind
int_in low high w = integer_in w >>= λ n. if int_le low n && int_le n high then Ok n else Err fault.BadOperand

-- at least low; above high is this fault
abbrev pub number_between : ℕ → ℕ → FaultKind → ℤ → Result ℕ FaultKind
number_between low high above (pos n) = if not (nat_le low n) then Err fault.BadOperand else if nat_le n high then Ok n else Err above
number_between low high above (negsuc n) = Err fault.BadOperand

unfoldable pub number_in : ℕ → ℕ → FaultKind → List ℕ → Result ℕ FaultKind
number_in low high above w = integer_in w >>= number_between low high above

abbrev pub local_in : List ℕ → Result ℕ FaultKind
local_in = number_in 0 65535 fault.BadOperand

-- the count of invokeinterface
abbrev pub count_in : List ℕ → Result ℕ FaultKind
count_in = number_in 1 255 fault.BadOperand

-- a count of operands or locals
abbrev pub limit_in : List ℕ → Result ℕ FaultKind
limit_in = number_in 0 1024 fault.LimitExceeded

abbrev pub descriptor_kind : DescriptorFault → FaultKind
descriptor_kind descriptor.LeftOut = fault.LeftOut
descriptor_kind other = fault.BadDescriptor

-- being out of memory is no fault of the text
abbrev pub refusal_of : Refusal DescriptorFault → Refusal FaultKind
refusal_of refusal.Memory = refusal.Memory
refusal_of (refusal.Fault fault) = refusal.Fault (descriptor_kind fault)

abbrev pub by_descriptor : {A : Type 0} → Result A DescriptorFault → Result A FaultKind
by_descriptor (Ok t) = Ok t
by_descriptor (Err f) = Err (descriptor_kind f)

unfoldable pub type_in : List ℕ → Result FieldType FaultKind
type_in w = by_descriptor (field_of_text w)

unfoldable pub signature_in : List ℕ → Result Signature FaultKind
signature_in w = by_descriptor (method_of_text w)

-- what comes before a method's descriptor, and the descriptor
unfoldable pub typed_in : {A : Type 0} → (List ℕ → Result A FaultKind) → List ℕ → Result (A × Signature) FaultKind
typed_in read w = both (read (before_type w)) (signature_in (type_part w))

-- a class, a method's name and its descriptor
abbrev pub method_in : List ℕ → Result MethodReference FaultKind
method_in w = typed_in member_in w >>= λ m. Ok (record { class = m.0.0; name = m.0.1; method_type = m.1 })

abbrev pub base_of : Option BaseWord → Result BaseType FaultKind
base_of None = Err fault.BadOperand
base_of (Some (base_word.Known b)) = Ok b
base_of (Some base_word.LeftOut) = Err fault.LeftOut

-- the word of a base type
abbrev pub base_in : List ℕ → Result BaseType FaultKind
base_in w = base_of (base_at w)

abbrev pub begins_with : ℕ → List ℕ → Bool
begins_with a [] = false
begins_with a (b ∷ bs) = b == a

-- a class, or the descriptor of an array
unfoldable pub reference_in : List ℕ → Result ReferenceType FaultKind
reference_in w =
    if begins_with 91 w then (type_in w >>= λ t. Ok (reference.Array t))
    else (class_name_in w >>= λ name. Ok (reference.Class name))

-- ---- operands

-- the last operand of a line
abbrev pub last_operand : {A : Type 0} → (List ℕ → Result A FaultKind) → List Item → Result A FaultKind
last_operand read items = operand read items >>= λ x. ended_at x.1 >>= λ _. Ok x.0

-- an int or a string
abbrev pub constant_from : List Item → Result (Constant × List Item) FaultKind
constant_from [] = Err fault.BadOperand
constant_from (Text t ∷ rest) = Ok (constant.Text t, rest)
constant_from (BadText k ∷ rest) = Err k
constant_from (other ∷ rest) = operand integer_in (other ∷ rest) >>= λ n. Ok (constant.Int n.0, n.1)

-- an optional count, which has no effect
abbrev pub count_at : List Item → Result (Unit {0}) FaultKind
count_at [] = Ok tt
count_at (t ∷ rest) = last_operand count_in (t ∷ rest) >>= λ _. Ok tt

-- how many labels a tableswitch has; its last key may be just below the first
abbrev pub labels_between : ℤ → ℤ → Result ℕ FaultKind
labels_between low high = elim ((high +ℤ pos 1) -ℤ low) [ pos n ↦ Ok n | negsuc n ↦ Err fault.BadOperand ]

unfoldable pub high_in : ℤ → List ℕ → Result ℤ FaultKind
high_in low w = integer_in w >>= λ high. labels_between low high >>= λ _. Ok high

-- the last key of a tableswitch, where it is given
abbrev pub high_at : ℤ → List Item → Result (Option ℤ) FaultKind
high_at low [] = Ok None
high_at low (t ∷ rest) = last_operand (high_in low) (t ∷ rest) >>= λ high. Ok (Some high)

abbrev pub raw : Instruction (List ℕ) → Result Row FaultKind
raw i = Ok (InstructionRow i)

-- what a word says without operands
abbrev pub alone : Row → List Item → Result Row FaultKind
alone row items = ended_at items >>= λ _. Ok row

-- an instruction by what its word asks for, or the head of a switch
unfoldable pub begun_at : Form → List Item → Result Row FaultKind
begun_at (form.Plain p) items = alone (InstructionRow (instruction.Plain p)) items
begun_at (form.Number n) items = alone (InstructionRow (instruction.Constant (constant.Int n))) items
begun_at form.Byte items = last_operand (int_in byte_low (pos 127)) items >>= λ n. raw (instruction.Constant (constant.Int n))
begun_at form.Short items = last_operand (int_in short_low (pos 32767)) items >>= λ n. raw (instruction.Constant (constant.Int n))
begun_at form.Constant items = constant_from items >>= λ c. ended_at c.1 >>= λ _. raw (instruction.Constant c.0)
begun_at (form.Local l) items = last_operand local_in items >>= λ n. raw (instruction.Local l n)
begun_at (form.LocalAt l n) items = alone (InstructionRow (instruction.Local l n)) items
begun_at form.Increment items = operand local_in items >>= λ n. last_operand (int_in short_low (pos 32767)) n.1 >>= λ by. raw (instruction.Increment n.0 by)
begun_at (form.Jump j) items = last_operand label_in items >>= λ l. raw (instruction.Jump j l)
begun_at form.TableSwitch items = operand integer_in items >>= λ low. high_at low.0 low.1 >>= λ high. Ok (TableRow low.0 high)
begun_at form.LookupSwitch items = alone LookupRow items
begun_at (form.Field f) items = operand member_in items >>= λ m. last_operand type_in m.1 >>= λ t. raw (instruction.Field f (record { class = m.0.0; name = m.0.1; field_type = t }))
begun_at (form.Call c) items = last_operand method_in items >>= λ m. raw (instruction.Call c m)
begun_at form.CallInterface items = operand method_in items >>= λ m. count_at m.1 >>= λ _. raw (instruction.CallInterface m.0)
begun_at form.New items = last_operand class_name_in items >>= λ name. raw (instruction.New name)
begun_at form.NewArray items = last_operand base_in items >>= λ b. raw (instruction.NewArray b)
begun_at (form.TypeUse t) items = last_operand reference_in items >>= λ r. raw (instruction.TypeUse t r)
