-- Reading a descriptor from the left: the type that it spells, or the first fault.
use Rattle.std.specs.Prelude.{ℕ, zero, suc, ◌+◌, List, [], ◌∷◌, ◌++◌, take, drop, Option, Some, None, Result, Ok, Err, ◌==◌, if◌then◌else◌}
use Rattle.sequence.specs.Gives.{◌>>=◌}
use Rattle.descriptors.specs.declared.base.BaseType.{BaseType}
use Rattle.descriptors.specs.declared.fault.DescriptorFault.{DescriptorFault}
use Rattle.descriptors.specs.declared.fault.DescriptorFault.TheVariants.{Empty, UnknownLetter, Unfinished, TooManyDimensions, BytesLeftOver, LeftOut, TooManyParameters}
use Rattle.descriptors.specs.declared.field.ElementType.{ElementType}
use Rattle.descriptors.specs.declared.field.ElementType.TheVariants.{Base, Class}
use Rattle.descriptors.specs.declared.field.FieldType.{FieldType}
use Rattle.descriptors.specs.Signature.{Signature}
use Rattle.descriptors.specs.Letters.{base_of_letter, is_left_out}
use Rattle.descriptors.specs.ClassName.{is_class_name}

-- how many bytes come before the first ;
abbrev pub name_len : List ℕ → ℕ
name_len [] = 0
name_len (b ∷ bs) = if b == 59 then 0 else 1 + name_len bs

-- a name, and the ; with what follows it
abbrev pub closed_name : List ℕ → List ℕ → Result (List ℕ × List ℕ) DescriptorFault
closed_name name [] = Err Unfinished
closed_name name (_ ∷ rest) = if is_class_name name then Ok (name, rest) else Err Unfinished

-- after an L: a class name and the bytes after its ;
unfoldable pub class_at : List ℕ → Result (List ℕ × List ℕ) DescriptorFault
class_at bytes = closed_name (take (name_len bytes) bytes) (drop (name_len bytes) bytes)

abbrev pub base_at : Option BaseType → List ℕ → Result (ElementType × List ℕ) DescriptorFault
base_at None rest = Err UnknownLetter
base_at (Some base) rest = Ok (Base base, rest)

-- a type that is no array, and the bytes after it
unfoldable pub element_at : List ℕ → Result (ElementType × List ℕ) DescriptorFault
element_at [] = Err Unfinished
element_at (b ∷ bs) =
    if b == 76 then class_at bs >>= (λ x. Ok (Class x.0, x.1))
    else if is_left_out b then Err LeftOut
    else base_at (base_of_letter b) bs

abbrev pub with_dimensions : ℕ → Result (ElementType × List ℕ) DescriptorFault → Result (FieldType × List ℕ) DescriptorFault
with_dimensions n read = read >>= λ x. Ok (record { dimensions = n; element = x.0 }, x.1)

-- after n [ of a type: the type and the bytes after it
unfoldable pub array_at : ℕ → List ℕ → Result (FieldType × List ℕ) DescriptorFault
array_at n [] = Err Unfinished
array_at n (b ∷ bs) =
    if b == 91 then (if n == 255 then Err TooManyDimensions else array_at (n + 1) bs)
    else with_dimensions n (element_at (b ∷ bs))

-- a type, and the bytes after it
abbrev pub field_at : List ℕ → Result (FieldType × List ℕ) DescriptorFault
field_at bytes = array_at 0 bytes

-- nothing follows the end
abbrev pub ended : {A : Type 0} → A → List ℕ → Result A DescriptorFault
ended x [] = Ok x
ended x (_ ∷ _) = Err BytesLeftOver

-- The field type that the bytes spell, all of them, or the first fault.
unfoldable pub field_of_text : List ℕ → Result FieldType DescriptorFault
field_of_text [] = Err Empty
field_of_text (b ∷ bs) = field_at (b ∷ bs) >>= λ x. ended x.0 x.1

abbrev pub with_front : List FieldType → Result (List FieldType × List ℕ) DescriptorFault → Result (List FieldType × List ℕ) DescriptorFault
with_front front read = read >>= λ x. Ok (front ++ x.0, x.1)

-- parameters up to the ) and the bytes after it, where room says how many more may come
unfoldable pub parameters_at : ℕ → List ℕ → Result (List FieldType × List ℕ) DescriptorFault
parameters_at room [] = Err Unfinished
parameters_at zero (b ∷ bs) = if b == 41 then Ok ([], bs) else field_at (b ∷ bs) >>= λ _. Err TooManyParameters
parameters_at (suc room) (b ∷ bs) = if b == 41 then Ok ([], bs) else field_at (b ∷ bs) >>= λ x. with_front (x.0 ∷ []) (parameters_at room x.1)

-- V or a type, and the bytes after it
unfoldable pub result_at : List ℕ → Result (Option FieldType × List ℕ) DescriptorFault
result_at [] = Err Unfinished
result_at (b ∷ bs) = if b == 86 then Ok (None, bs) else field_at (b ∷ bs) >>= λ x. Ok (Some x.0, x.1)

-- after the (
unfoldable pub signature_at : List ℕ → Result Signature DescriptorFault
signature_at bytes = parameters_at 255 bytes >>= λ p. result_at p.1 >>= λ r. ended (record { parameters = p.0; result = r.0 }) r.1

-- The method type that the bytes spell, all of them, or the first fault.
unfoldable pub method_of_text : List ℕ → Result Signature DescriptorFault
method_of_text [] = Err Empty
method_of_text (b ∷ bs) = if b == 40 then signature_at bs else Err UnknownLetter
