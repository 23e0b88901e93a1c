-- What the methods of java/io/PrintStream print is UTF-8.
use Rattle.std.proofs.Common.{◌≡◌, ℕ, zero, suc, ◌%◌, ◌/◌, ◌-◌, ◌<◌, true, false, Bool, List, [], ◌∷◌, ◌++◌, Option, Some, None, ℤ, pos, negsuc, eqb, nat_lt, refl, subst, arith, w32}
use Rattle.std.proofs.lemmas.Bool.{and_parts, cond_both, ltb-true}
use Rattle.std.proofs.lemmas.List.Elements.{All-nil, All-cons, All-append, All-head, All-tail, All-push}
use Rattle.std.proofs.lemmas.Str.{IsUtf8-append, IsUtf8-encode, IsUtf8-from_ascii, IsUtf8-from_is_utf8, is_utf8-from_IsUtf8}
use Rattle.std.proofs.lemmas.Str.Ascii.{IsAscii-nil, IsAscii-cons}
use Rattle.std.specs.Char.{IsScalar, encode_utf8}
use Rattle.std.specs.Fmt.{decimal, digit_glyph, digits, digits_onto, signed_decimal}
use Rattle.std.specs.Int.{cast_unsigned}
use Rattle.std.specs.List.{All, flat_map, list_all}
use Rattle.std.specs.Option.{unwrap_or}
use Rattle.std.specs.Ordering.{int_eq}
use Rattle.std.specs.Prelude.{codes, slice_get}
use Rattle.std.specs.Str.{IsAscii, is_utf8}
use Rattle.frames.specs.declared.cell.Cell.{Cell}
use Rattle.frames.specs.declared.cell.Cell.TheVariants.{Int, Null, Reference}
use Rattle.descriptors.specs.declared.field.FieldType.{FieldType}
use Rattle.jasmin_text.specs.declared.class_text.ClassParts.{ClassParts}
use Rattle.jasmin_text.specs.declared.class_text.Code.{Code}
use Rattle.jasmin_text.specs.declared.class_text.Constant.{Constant}
use Rattle.jasmin_text.specs.declared.class_text.Constant.TheVariants as constant
use Rattle.jasmin_text.specs.declared.class_text.Field.{Field}
use Rattle.jasmin_text.specs.declared.class_text.Method.{Method}
use Rattle.jasmin_text.specs.declared.instruction.Instruction.{Instruction}
use Rattle.jasmin_text.specs.declared.instruction.Instruction.TheVariants as instruction
use Rattle.jasmin_text.specs.Spellable.{is_code, is_constant, is_field, is_instruction, is_method, is_optional_code, is_spellable, is_value_of, IsSpellable}
use Rattle.hierarchy.specs.declared.built_in_method.BuiltInMethod.{BuiltInMethod}
use Rattle.hierarchy.specs.declared.built_in_method.BuiltInMethod.TheVariants.{Init, InitWithText, Print, PrintLine, PrintLineAlone}
use Rattle.hierarchy.specs.declared.built_in_method.Printed.{Printed}
use Rattle.hierarchy.specs.declared.built_in_method.Printed.TheVariants as printed
use Rattle.hierarchy.specs.declared.class.Class.{Class}
use Rattle.hierarchy.specs.LinkedProgram.{LinkedProgram}
use Rattle.hierarchy.specs.LinkedTexts.{IsLinked}
use Rattle.hierarchy.specs.Objects.{text_at}
use Rattle.hierarchy.specs.Quoted.{note_all, quoted_in, quoted_texts, text_of as texts_of_constant, texts_of_code, texts_of_field, texts_of_instruction, texts_of_method, texts_of_value}
use Rattle.hierarchy.specs.SpellableClass.{IsSpellableClass}
use Rattle.hierarchy.proofs.ProvedByLinking.{linked_spellable}
use Rattle.interpreter.specs.Printing.{character_of, text_of, text_by}

abbrev IsText : List ℕ → Type 0
IsText bytes = is_utf8 bytes ≡ true

-- bytes below 128 are a text
ascii_is_text : (bytes : List ℕ) → IsAscii bytes → IsText bytes
ascii_is_text bytes h = is_utf8-from_IsUtf8 bytes (IsUtf8-from_ascii bytes h)

tested_ascii : (bytes : List ℕ) → list_all (λ b. nat_lt b 128) bytes ≡ true → IsAscii bytes
tested_ascii [] h = IsAscii-nil
tested_ascii (b ∷ bytes) h = let parts = and_parts _ _ h in IsAscii-cons b bytes (ltb-true b 128 parts.0) (tested_ascii bytes parts.1)

-- a literal is a text where each of its bytes is seen to be below 128
literal_is_text : (bytes : List ℕ) → list_all (λ b. nat_lt b 128) bytes ≡ true → IsText bytes
literal_is_text bytes h = ascii_is_text bytes (tested_ascii bytes h)

-- two texts joined are a text
joined_is_text : (front back : List ℕ) → IsText front → IsText back → IsText (front ++ back)
joined_is_text front back f b = is_utf8-from_IsUtf8 (front ++ back) (IsUtf8-append front back (IsUtf8-from_is_utf8 front f) (IsUtf8-from_is_utf8 back b))

no_text : IsText []
no_text = literal_is_text [] refl

-- ---- the quoted texts of a linked program

-- what the members quote is UTF-8 where each member that passes quotes such texts
quoted_of_each : {X : Type 0} (passes : X → Bool) (quotes : X → List (List ℕ)) → ((x : X) → passes x ≡ true → All IsText (quotes x)) → (xs : List X) → list_all passes xs ≡ true → All IsText (flat_map quotes xs)
quoted_of_each passes quotes each [] h = All-nil IsText
quoted_of_each passes quotes each (x ∷ xs) h =
    let parts = and_parts _ _ h in
    All-append IsText (quotes x) (flat_map quotes xs) (each x parts.0) (quoted_of_each passes quotes each xs parts.1)

quoted_of_constant : (c : Constant) → is_constant c ≡ true → All IsText (texts_of_constant c)
quoted_of_constant (constant.Int n) h = All-nil IsText
quoted_of_constant (constant.Text text) h = All-cons IsText text [] (and_parts _ _ h).0 (All-nil IsText)

quoted_of_value : (t : FieldType) (value : Option Constant) → is_value_of t value ≡ true → All IsText (texts_of_value value)
quoted_of_value t None h = All-nil IsText
quoted_of_value t (Some (constant.Int n)) h = All-nil IsText
quoted_of_value t (Some (constant.Text text)) h = quoted_of_constant (constant.Text text) (and_parts _ _ h).1

quoted_of_field : (f : Field) → is_field f ≡ true → All IsText (texts_of_field f)
unfolding is_field
quoted_of_field f h = cond_both f.access.is_static _ _ (All IsText) (λ _. quoted_of_value f.field_type f.value (and_parts _ _ h).1) (λ _. All-nil IsText)

quoted_of_instruction : (count : ℕ) (i : Instruction ℕ) → is_instruction count i ≡ true → All IsText (texts_of_instruction i)
unfolding is_instruction
quoted_of_instruction count (instruction.Constant c) h = quoted_of_constant c h
quoted_of_instruction count i h = All-nil IsText

quoted_of_code : (is_abstract : Bool) (code : Option Code) → is_optional_code is_abstract code ≡ true → All IsText (texts_of_code code)
unfolding is_code
quoted_of_code is_abstract None h = All-nil IsText
quoted_of_code is_abstract (Some c) h = quoted_of_each (is_instruction _) texts_of_instruction (quoted_of_instruction _) c.instructions (and_parts _ _ (and_parts _ _ h).1).1

quoted_of_method : (m : Method) → is_method m ≡ true → All IsText (texts_of_method m)
unfolding is_method
quoted_of_method m h = quoted_of_code m.access.is_abstract m.code (and_parts _ _ h).1

-- what a class text quotes that a file can spell
quoted_of_parts : (c : ClassParts) → IsSpellable c → All IsText (flat_map texts_of_field c.fields ++ flat_map texts_of_method c.methods)
unfolding is_spellable
quoted_of_parts c h =
    let parts = and_parts _ _ h in
    All-append IsText _ _ (quoted_of_each is_field texts_of_field quoted_of_field c.fields (and_parts _ _ parts.0).1) (quoted_of_each is_method texts_of_method quoted_of_method c.methods parts.1)

quoted_of_classes : (classes : List Class) → All IsSpellableClass classes → All IsText (flat_map quoted_in classes)
quoted_of_classes [] h = All-nil IsText
quoted_of_classes (c ∷ classes) h =
    let s = All-head IsSpellableClass c classes h in
    let own = subst (λ (z : Class). All IsText (quoted_in z)) s.same (quoted_of_parts s.text s.spellable) in
    All-append IsText (quoted_in c) (flat_map quoted_in classes) own (quoted_of_classes classes (All-tail IsSpellableClass c classes h))

-- noting texts that are UTF-8 keeps all of them so
noted : (texts more : List (List ℕ)) → All IsText texts → All IsText more → All IsText (note_all texts more)
noted texts [] h k = h
noted texts (t ∷ more) h k =
    noted (note_all texts (t ∷ [])) more
    (cond_both _ _ _ (All IsText) (λ _. h) (λ _. All-push IsText texts t h (All-head IsText t more k)))
    (All-tail IsText t more k)

quoted_are_texts : (p : LinkedProgram) → IsLinked p → All IsText (quoted_texts p.classes)
quoted_are_texts p h = noted [] (flat_map quoted_in p.classes) (All-nil IsText) (quoted_of_classes p.classes (linked_spellable p h))

-- a place of such texts has one, or nothing
got_is_text : (texts : List (List ℕ)) (k : ℕ) → All IsText texts → IsText (unwrap_or (slice_get texts k) [])
got_is_text [] k h = no_text
got_is_text (t ∷ texts) zero h = All-head IsText t texts h
got_is_text (t ∷ texts) (suc k) h = got_is_text texts k (All-tail IsText t texts h)

-- what a reference refers to
quoted_is_text : (p : LinkedProgram) → IsLinked p → (r : ℕ) → IsText (unwrap_or (text_at p r) [])
quoted_is_text p h r = cond_both (nat_lt r 3) _ _ (λ o. IsText (unwrap_or o [])) (λ _. no_text) (λ _. got_is_text (quoted_texts p.classes) (r - 3) (quoted_are_texts p h))

-- ---- numbers and characters

digits_ascii : (k n : ℕ) (last : List ℕ) → IsAscii last → IsAscii (digits_onto k 10 false n last)
digits_ascii zero n last h = h
digits_ascii (suc k) n last h =
    let small : digit_glyph false (n % 10) < 128 = grind arith in
    let more = IsAscii-cons (digit_glyph false (n % 10)) last small h in
    cond_both (eqb (n / 10) 0) _ _ IsAscii (λ _. more) (λ _. digits_ascii k (n / 10) (digit_glyph false (n % 10) ∷ last) more)

decimal_ascii : (n : ℕ) → IsAscii (decimal n)
unfolding digits
decimal_ascii n = digits_ascii 64 n [] IsAscii-nil

number_is_text : (n : ℤ) → IsText (signed_decimal n)
number_is_text (pos n) = ascii_is_text (decimal n) (decimal_ascii n)
number_is_text (negsuc n) = ascii_is_text (45 ∷ decimal (suc n)) (IsAscii-cons 45 (decimal (suc n)) (omega arith) (decimal_ascii (suc n)))

encoded_is_text : (n : ℕ) → IsScalar n → IsText (encode_utf8 n)
encoded_is_text n h = is_utf8-from_IsUtf8 (encode_utf8 n) (IsUtf8-encode n h)

scalar_below : (n : ℕ) → nat_lt n 55296 ≡ true → IsScalar n
scalar_below n h = grind arith

scalar_above : (n : ℕ) → n < 65536 → nat_lt n 57344 ≡ false → IsScalar n
scalar_above n less h = grind arith

-- the character of 16 bits, or a question mark
character_is_text : (n : ℕ) → n < 65536 → IsText (character_of n)
character_is_text n less =
    cond_both (nat_lt n 55296) _ _ IsText (λ h. encoded_is_text n (scalar_below n h)) (λ _.
    cond_both (nat_lt n 57344) _ _ IsText (λ _. literal_is_text (codes "?") refl) (λ h. encoded_is_text n (scalar_above n less h)))

-- ---- what is printed

value_is_text : (p : LinkedProgram) → IsLinked p → (k : Printed) (v : Option Cell) → IsText (text_of p k v)
value_is_text p h printed.Int (Some (Int n)) = number_is_text n
value_is_text p h printed.Char (Some (Int n)) = character_is_text (cast_unsigned w32 n % 65536) (omega arith)
value_is_text p h printed.Boolean (Some (Int n)) = cond_both (int_eq n (pos 0)) _ _ IsText (λ _. literal_is_text (codes "false") refl) (λ _. literal_is_text (codes "true") refl)
value_is_text p h printed.Text (Some Null) = literal_is_text (codes "null") refl
value_is_text p h printed.Text (Some (Reference r)) = quoted_is_text p h r
value_is_text p h k v = no_text

-- what a method prints of a linked program is UTF-8
pub printed_is_utf8 : (p : LinkedProgram) → IsLinked p → (m : BuiltInMethod) (v : Option Cell) → is_utf8 (text_by p m v) ≡ true
printed_is_utf8 p h (Print k) v = value_is_text p h k v
printed_is_utf8 p h (PrintLine k) v = joined_is_text (text_of p k v) (10 ∷ []) (value_is_text p h k v) (literal_is_text (10 ∷ []) refl)
printed_is_utf8 p h PrintLineAlone v = literal_is_text (10 ∷ []) refl
printed_is_utf8 p h Init v = no_text
printed_is_utf8 p h InitWithText v = no_text
