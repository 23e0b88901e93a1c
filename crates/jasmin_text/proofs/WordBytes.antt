-- A name, a descriptor or a number is one word.
use Rattle.std.proofs.Common.{◌≡◌, ℕ, zero, suc, ◌<◌, ◌^◌, Bool, true, false, not, ◌&&◌, ◌||◌, cond, eqb, List, [], ◌∷◌, ◌++◌, length, replicate, Option, Some, None, refl, sym, subst, arith, ◌∙◌}
use Rattle.std.specs.Prelude.{nat_le, codes}
use Rattle.std.specs.List.{list_all, flat_map}
use Rattle.std.specs.Char.{digit_value}
use Rattle.std.specs.Fmt.{decimal}
use Rattle.std.specs.Str.Parse.{AllDigits}
use Rattle.std.proofs.lemmas.Bool.{and_from, and_parts, eqb-true}
use Rattle.std.proofs.lemmas.Fmt.{decimal_is_IsNumeral}
use Rattle.std.proofs.lemmas.List.Folds.{list_all-append}
use Rattle.std.proofs.lemmas.Slice.Eq.{bytes_eq-Decides}
use Rattle.std.specs.Str.{bytes_eq}
use Rattle.descriptors.specs.ClassName.{is_name_byte, segments, is_segment, is_class_name}
use Rattle.sequence.specs.Parts.{with_byte, is_some_byte}
use Rattle.descriptors.specs.Letters.{letter_of}
use Rattle.descriptors.specs.Signature.{Signature}
use Rattle.descriptors.specs.Spelling.{element_spelling, field_spelling, result_spelling, method_spelling}
use Rattle.descriptors.specs.declared.base.BaseType.{BaseType}
use Rattle.descriptors.specs.declared.base.BaseType.TheVariants.{Boolean}
use Rattle.descriptors.specs.declared.field.ElementType.{ElementType}
use Rattle.descriptors.specs.declared.field.ElementType.TheVariants.{Base, Class}
use Rattle.descriptors.specs.declared.field.FieldType.{FieldType}
use Rattle.jasmin_words.specs.Spelling.{is_word_byte}
use Rattle.jasmin_words.specs.Names.{is_name_byte as is_member_byte, is_member_name}
use Rattle.jasmin_text.specs.Spellable.{is_element_type, is_type, is_result_type, is_method_type}
use Rattle.jasmin_text.proofs.Conditions.{nine, all_weaker}

abbrev pub IsWordText : List ℕ → Type 0
IsWordText w = list_all is_word_byte w ≡ true

pub joined_words : (xs ys : List ℕ) → IsWordText xs → IsWordText ys → IsWordText (xs ++ ys)
joined_words xs ys h k = list_all-append is_word_byte xs ys ∙ and_from (list_all is_word_byte xs) (list_all is_word_byte ys) h k

pub byte_word : (b : ℕ) (w : List ℕ) → is_word_byte b ≡ true → IsWordText w → IsWordText (b ∷ w)
byte_word b w h k = and_from (is_word_byte b) (list_all is_word_byte w) h k

-- ---- names of classes

name_byte : (b : ℕ) → is_name_byte b ≡ true → is_word_byte b ≡ true
name_byte b h = grind arith

pub in_segments : (ss : List (List ℕ)) → list_all is_segment ss ≡ true → list_all (list_all is_name_byte) ss ≡ true
in_segments ss h = all_weaker is_segment (list_all is_name_byte) ss (λ s e. (and_parts (is_some_byte s) (list_all is_name_byte s) e).1) h

pub split_byte : (b : ℕ) (ss : List (List ℕ)) → list_all (list_all is_name_byte) (with_byte b ss) ≡ true → (is_name_byte b ≡ true) × (list_all (list_all is_name_byte) ss ≡ true)
split_byte b [] h = ((and_parts (is_name_byte b) true (and_parts (is_name_byte b && true) true h).0).0, refl)
split_byte b (s ∷ ss) h =
    let p = and_parts (list_all is_name_byte (b ∷ s)) (list_all (list_all is_name_byte) ss) h in
    let q = and_parts (is_name_byte b) (list_all is_name_byte s) p.0 in
    (q.0, and_from (list_all is_name_byte s) (list_all (list_all is_name_byte) ss) q.1 p.1)

segments_word : (name : List ℕ) → list_all (list_all is_name_byte) (segments name) ≡ true → IsWordText name
segments_word [] h = refl
segments_word (b ∷ bs) h =
    let go : (t : Bool) → eqb b 47 ≡ t → list_all (list_all is_name_byte) (cond t ([] ∷ segments bs) (with_byte b (segments bs))) ≡ true → IsWordText (b ∷ bs) = λ t. elim t as (λ t. eqb b 47 ≡ t → list_all (list_all is_name_byte) (cond t ([] ∷ segments bs) (with_byte b (segments bs))) ≡ true → IsWordText (b ∷ bs)) [
      | true ↦ λ e k. subst (λ (z : ℕ). IsWordText (z ∷ bs)) (sym (eqb-true b 47 e)) (segments_word bs k)
      | false ↦ λ e k. let p = split_byte b (segments bs) k in byte_word b bs (name_byte b p.0) (segments_word bs p.1)
    ] in
    go (eqb b 47) refl h

pub class_name_word : (name : List ℕ) → is_class_name name ≡ true → IsWordText name
unfolding is_class_name
class_name_word name h = segments_word name (in_segments (segments name) h)

-- ---- names of members

member_byte : (b : ℕ) → is_member_byte b ≡ true → is_word_byte b ≡ true
member_byte b h = (nine (is_word_byte b) (not (eqb b 46)) (not (eqb b 59)) (not (eqb b 91)) (not (eqb b 47)) (not (eqb b 40)) (not (eqb b 41)) (not (eqb b 60)) (not (eqb b 62)) h).0

pub one_of : (a b c : Bool) (P : Type 0) → (a || b || c) ≡ true → (a ≡ true → P) → (b ≡ true → P) → (c ≡ true → P) → P
one_of true b c P h x y z = x refl
one_of false true c P h x y z = y refl
one_of false false true P h x y z = z refl
one_of false false false P h x y z = absurd cc

pub member_name_word : (name : List ℕ) → is_member_name name ≡ true → IsWordText name
unfolding is_member_name
member_name_word name h =
    one_of (bytes_eq name (codes "<init>")) (bytes_eq name (codes "<clinit>")) (is_some_byte name && list_all is_member_byte name) (IsWordText name) h
    (λ e. subst IsWordText (sym ((bytes_eq-Decides name (codes "<init>")).0 e)) refl)
    (λ e. subst IsWordText (sym ((bytes_eq-Decides name (codes "<clinit>")).0 e)) refl)
    (λ e. all_weaker is_member_byte is_word_byte name member_byte (and_parts (is_some_byte name) (list_all is_member_byte name) e).1)

-- ---- descriptors

letter_word : (b : BaseType) → IsWordText (letter_of b ∷ [])
letter_word Boolean = refl
letter_word b = refl

element_word : (t : ElementType) → is_element_type t ≡ true → IsWordText (element_spelling t)
element_word (Base b) h = letter_word b
element_word (Class name) h = byte_word 76 (name ++ 59 ∷ []) refl (joined_words name (59 ∷ []) (class_name_word name h) refl)

brackets_word : (n : ℕ) → IsWordText (replicate n 91)
brackets_word zero = refl
brackets_word (suc n) = byte_word 91 (replicate n 91) refl (brackets_word n)

pub field_word : (t : FieldType) → is_element_type t.element ≡ true → IsWordText (field_spelling t)
field_word t h = joined_words (replicate t.dimensions 91) (element_spelling t.element) (brackets_word t.dimensions) (element_word t.element h)

parameters_word : (ts : List FieldType) → list_all is_type ts ≡ true → IsWordText (flat_map field_spelling ts)
parameters_word [] h = refl
parameters_word (t ∷ ts) h =
    let p = and_parts (is_type t) (list_all is_type ts) h in
    joined_words (field_spelling t) (flat_map field_spelling ts) (field_word t (and_parts (nat_le t.dimensions 255) (is_element_type t.element) p.0).1) (parameters_word ts p.1)

result_word : (r : Option FieldType) → is_result_type r ≡ true → IsWordText (result_spelling r)
result_word None h = refl
result_word (Some t) h = field_word t (and_parts (nat_le t.dimensions 255) (is_element_type t.element) h).1

pub method_word : (m : Signature) → is_method_type m ≡ true → IsWordText (method_spelling m)
unfolding is_method_type
method_word m h =
    let p = and_parts (nat_le (length m.parameters) 255 && list_all is_type m.parameters) (is_result_type m.result) h in
    let q = and_parts (nat_le (length m.parameters) 255) (list_all is_type m.parameters) p.0 in
    byte_word 40 (flat_map field_spelling m.parameters ++ 41 ∷ result_spelling m.result) refl
    (joined_words (flat_map field_spelling m.parameters) (41 ∷ result_spelling m.result) (parameters_word m.parameters q.1) (byte_word 41 (result_spelling m.result) refl (result_word m.result p.1)))

-- ---- numbers

digit_word : (c : ℕ) → digit_value c < 10 → is_word_byte c ≡ true
digit_word c h = grind arith

digits_word : (ds : List ℕ) → AllDigits 10 ds → IsWordText ds
digits_word [] h = refl
digits_word (d ∷ ds) h = byte_word d ds (digit_word d h.0) (digits_word ds h.1)

pub decimal_word : (n : ℕ) → n < 2 ^ 64 → IsWordText (decimal n)
decimal_word n h = digits_word (decimal n) (decimal_is_IsNumeral n h).0.1
