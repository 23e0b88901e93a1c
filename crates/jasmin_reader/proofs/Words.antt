-- What single words represent, both ways: integers, descriptors, members, words of tables.
use Rattle.std.proofs.Common.{◌≡◌, ℕ, inl, inr, ℤ, pos, negsuc, int_le, Bool, true, false, not, eqb, nat_le, List, [], ◌∷◌, length, Option, Some, None, IfSome, Result, Ok, Err, refl, sym, ap, ◌∙◌, arith, codes, eqb-true, lt-ltb, leb-true, le-leb}
use Rattle.std.specs.List.{list_all, AllByRecursion}
use Rattle.std.proofs.lemmas.Bool.{and_from, cases_Bool, not-false, false_from_ne_true, and_parts, not-true, cond-false}
use Rattle.std.proofs.lemmas.Slice.Eq.{bytes_eq-Decides}
use Rattle.std.specs.Str.{bytes_eq}
use Rattle.descriptors.specs.Signature.{Signature}
use Rattle.descriptors.specs.Spelling.{IsElementType, IsFieldType, IsMethodType}
use Rattle.descriptors.specs.Reading.{field_of_text, method_of_text}
use Rattle.descriptors.specs.declared.field.ElementType.{ElementType}
use Rattle.descriptors.specs.declared.field.ElementType.TheVariants as element
use Rattle.descriptors.specs.declared.field.FieldType.{FieldType}
use Rattle.descriptors.proofs.FieldLaws.{field_found}
use Rattle.jasmin_words.specs.declared.fault.FaultKind.{FaultKind}
use Rattle.jasmin_words.specs.declared.fault.FaultKind.TheVariants as fault
use Rattle.jasmin_words.specs.Integers.{magnitude_of, integer_of, IsInteger}
use Rattle.jasmin_words.specs.Lexing.{fits}
use Rattle.jasmin_words.specs.Names.{is_label}
use Rattle.jasmin_words.proofs.Numbers.{integer_is}
use Rattle.sequence.proofs.Results.{in_at, bind_ok, some_ok, given, test_passed, not_refused}
use Rattle.jasmin_text.specs.Forms.{form_at, forms, directive_at, directives}
use Rattle.jasmin_text.proofs.Integers.{integer_int as word_int}
use Rattle.jasmin_text.specs.Grammar.{IsIntIn, IsNumberIn, IsMethodWord, short_low}
use Rattle.jasmin_text.specs.MemberWords.{member_in, before_type, type_part}
use Rattle.jasmin_text.specs.Spellable.{is_int, is_short, is_type, is_element_type, is_result_type, is_field_type, is_method_type}
use Rattle.jasmin_text.specs.Tables.{find_row, access_of, access_words, member_access_of}
use Rattle.jasmin_text.specs.declared.form.Form.{Form}
use Rattle.jasmin_text.specs.declared.instruction.MethodReference.{MethodReference}
use Rattle.jasmin_text.proofs.MemberWords.{lacks}
use Rattle.jasmin_reader.specs.Places.{both}
use Rattle.jasmin_reader.specs.Operands.{integer_in, int_in, number_between, number_in, by_descriptor, type_in, signature_in, typed_in, method_in, begins_with}

-- ---- integers

pub integer_ok : (w : List ℕ) (n : ℤ) → integer_in w ≡ Ok n → integer_of w ≡ Some n
integer_ok w n e = some_ok (integer_of w) fault.BadOperand n e

pub int_ok : (low high : ℤ) (w : List ℕ) (n : ℤ) → int_in low high w ≡ Ok n → IsIntIn low high w n
unfolding int_in
int_ok low high w n e =
    let one = bind_ok (integer_in w) _ n e in
    let two = test_passed _ one.0 _ n one.2 in
    let three = and_parts _ _ two.0 in
    rw (← two.1) (record { value = integer_ok w one.0 one.1; from = three.0; to = three.1 })

pub int_read : (low high : ℤ) (w : List ℕ) (n : ℤ) → IsIntIn low high w n → int_in low high w ≡ Ok n
unfolding int_in
int_read low high w n h = rw (h.value, h.from, h.to) refl

between_ok : (low high : ℕ) (above : FaultKind) (z : ℤ) (n : ℕ) → number_between low high above z ≡ Ok n → (z ≡ pos n) × (nat_le low n ≡ true) × (nat_le n high ≡ true)
between_ok low high above (pos m) n e =
    let from = not_refused (not (nat_le low m)) _ _ n e in
    let to = test_passed (nat_le m high) m above n from.1 in
    rw (← to.1) (refl, not-false (nat_le low m) from.0, to.0)
between_ok low high above (negsuc m) n e = absurd cc

pub number_ok : (low high : ℕ) (above : FaultKind) (w : List ℕ) (n : ℕ) → number_in low high above w ≡ Ok n → IsNumberIn low high w n
unfolding number_in
number_ok low high above w n e =
    let one = bind_ok (integer_in w) _ n e in
    let two = between_ok low high above one.0 n one.2 in
    record { value = cc (integer_ok w one.0 one.1, two.0); from = two.1; to = two.2 }

pub number_read : (low high : ℕ) (above : FaultKind) (w : List ℕ) (n : ℕ) → IsNumberIn low high w n → number_in low high above w ≡ Ok n
unfolding number_in
number_read low high above w n h = rw (h.value, h.from, h.to) refl

-- an integer that is read can be spelled
pub integer_int : (w : List ℕ) (z : ℤ) → integer_of w ≡ Some z → is_int z ≡ true
integer_int w z e = word_int w z (in_at (IsInteger w) (integer_of w) z (integer_is w) e)

pub short_within : (z : ℤ) → int_le short_low z ≡ true → int_le z (pos 32767) ≡ true → is_short z ≡ true
short_within (pos n) low high = lt-ltb n 32768 (let h = leb-true n 32767 high in omega arith)
short_within (negsuc n) low high = lt-ltb n 32768 (let h = leb-true n 32767 low in omega arith)

-- ---- descriptors

described : {A : Type 0} (r : Result A _) (x : A) → by_descriptor r ≡ Ok x → r ≡ Ok x
described (Ok y) x e = cc
described (Err f) x e = absurd cc

pub type_ok : (w : List ℕ) (t : FieldType) → type_in w ≡ Ok t → field_of_text w ≡ Ok t
unfolding type_in
type_ok w t e = described (field_of_text w) t e

pub type_read : (w : List ℕ) (t : FieldType) → field_of_text w ≡ Ok t → type_in w ≡ Ok t
unfolding type_in
type_read w t d = rw d refl

element_good : (e : ElementType) → IsElementType e → is_element_type e ≡ true
element_good (element.Base b) h = refl
element_good (element.Class name) h = h

type_good : (t : FieldType) → IsFieldType t → is_type t ≡ true
type_good t h = and_from _ _ (le-leb t.dimensions 255 h.dimensions) (element_good t.element h.element)

types_good : (ts : List FieldType) → AllByRecursion IsFieldType ts → list_all is_type ts ≡ true
types_good [] h = refl
types_good (t ∷ ts) h = and_from _ _ (type_good t h.0) (types_good ts h.1)

result_good : (o : Option FieldType) → IfSome o IsFieldType → is_result_type o ≡ true
result_good None h = refl
result_good (Some t) h = type_good t h

pub descriptor_good : (w : List ℕ) (t : FieldType) → field_of_text w ≡ Ok t → fits w ≡ true → is_field_type t ≡ true
unfolding is_field_type
descriptor_good w t d short = let found = field_found w t d in and_from _ _ (type_good t found.1) (ap fits (sym found.0) ∙ short)

pub signature_good : (m : Signature) → IsMethodType m → is_method_type m ≡ true
unfolding is_method_type
signature_good m h = and_from _ _ (and_from _ _ (le-leb (length m.parameters) 255 h.limit) (types_good m.parameters h.parameters)) (result_good m.result h.result)

-- ---- members

both_ok : {A B : Type 0} (x : Result A FaultKind) (y : Result B FaultKind) (z : A × B) → both x y ≡ Ok z → (x ≡ Ok z.0) × (y ≡ Ok z.1)
both_ok (Ok a) (Ok b) z e = (cc, cc)
both_ok (Err j) (Err k) z e = absurd cc
both_ok x y z e = absurd cc

pub typed_ok : {A : Type 0} (read : List ℕ → Result A FaultKind) (w : List ℕ) (x : A × Signature) → typed_in read w ≡ Ok x → (read (before_type w) ≡ Ok x.0) × (method_of_text (type_part w) ≡ Ok x.1)
unfolding typed_in signature_in
typed_ok read w x e = let one = both_ok (read (before_type w)) (signature_in (type_part w)) x e in (one.0, described (method_of_text (type_part w)) x.1 one.1)

pub typed_read : {A : Type 0} (read : List ℕ → Result A FaultKind) (w : List ℕ) (x : A) (m : Signature) → read (before_type w) ≡ Ok x → method_of_text (type_part w) ≡ Ok m → typed_in read w ≡ Ok (x, m)
unfolding typed_in signature_in
typed_read read w x m h k = rw (h, k) refl

pub method_ok : (w : List ℕ) (r : MethodReference) → method_in w ≡ Ok r → IsMethodWord w r.class r.name r.method_type
method_ok w r e =
    let one = bind_ok (typed_in member_in w) _ r e in
    let t = typed_ok member_in w one.0 one.1 in
    given (λ (r : MethodReference). IsMethodWord w r.class r.name r.method_type) one.2 (record { member = t.0; method_type = t.1 })

pub method_read : (w class name : List ℕ) (type : Signature) → IsMethodWord w class name type → method_in w ≡ Ok (record { class = class; name = name; method_type = type })
method_read w class name type m = rw (typed_read member_in w (class, name) type m.member m.method_type) refl

-- ---- words of tables

abbrev pub AllRows : {X : Type 0} → (List ℕ → X → Type 0) → List (List ℕ × X) → Type 0
AllRows P [] = Unit {0}
AllRows P (r ∷ rows) = P r.0 r.1 × AllRows P rows

-- what holds of each row holds of the word that was found and of what is beside it
pub find_ok : {X : Type 0} (P : List ℕ → X → Type 0) (w : List ℕ) (rows : List (List ℕ × X)) (x : X) → AllRows P rows → find_row w rows ≡ Some x → P w x
find_ok P w [] x all e = absurd cc
find_ok P w (r ∷ rows) x all e = elim (cases_Bool (bytes_eq w r.0)) [
  | inl y ↦ let value : r.1 ≡ x = (let found = rw y at e in cc) in rw ((bytes_eq-Decides w r.0).0 y, ← value) all.0
  | inr y ↦ find_ok P w rows x all.1 (rw y at e)
]

find_none : {X : Type 0} (test : List ℕ → Bool) (w : List ℕ) → test w ≡ false → (rows : List (List ℕ × X)) → list_all (λ (r : List ℕ × X). test r.0) rows ≡ true → find_row w rows ≡ None
find_none test w h [] k = refl
find_none test w h (r ∷ rows) k =
    let p = and_parts (test r.0) _ k in
    cond-false (bytes_eq w r.0) _ _ (false_from_ne_true _ (λ s. cc (ap test ((bytes_eq-Decides w r.0).0 s), h, p.0))) ∙ find_none test w h rows p.1

-- ---- words that a table lacks

-- directives begin with a dot, and no other word does
pub no_directive_at : (w : List ℕ) → begins_with 46 w ≡ false → directive_at w ≡ None
unfolding directive_at directives
no_directive_at w h = find_none (begins_with 46) w h directives refl

pub form_has_no_dot : (w : List ℕ) (f : Form) → form_at w ≡ Some f → begins_with 46 w ≡ false
unfolding form_at forms
form_has_no_dot w f e = false_from_ne_true _ (λ h. let none = find_none (λ v. not (begins_with 46 v)) w (ap not h) forms refl in cc)

pub label_has_no_dot : (w : List ℕ) → is_label w ≡ true → begins_with 46 w ≡ false
label_has_no_dot [] h = refl
label_has_no_dot (b ∷ bs) h = not-true (eqb b 46) (and_parts _ _ h).0

-- a word with a ( is no access word of fields and methods
pub access_lacks : (w : List ℕ) → lacks 40 w ≡ false → member_access_of w ≡ None
unfolding member_access_of access_of access_words
access_lacks w h = find_none (lacks 40) w h ((codes "interface", _) ∷ access_words) refl

pub integer_has_no_dot : (w : List ℕ) (n : ℤ) → integer_of w ≡ Some n → begins_with 46 w ≡ false
unfolding integer_of magnitude_of
integer_has_no_dot [] n e = refl
integer_has_no_dot (b ∷ bs) n e = false_from_ne_true (eqb b 46) (λ h. cc (none bs, ap (λ (c : ℕ). integer_of (c ∷ bs)) (eqb-true b 46 h), e))
  where
    none : (bs : List ℕ) → integer_of (46 ∷ bs) ≡ None
    none [] = refl
    none (c ∷ cs) = refl

pub integer_not_default : (w : List ℕ) (n : ℤ) → integer_of w ≡ Some n → bytes_eq w (codes "default") ≡ false
unfolding integer_of magnitude_of
integer_not_default w n e = false_from_ne_true _ (λ h. let none : integer_of (codes "default") ≡ None = refl in cc (none, ap integer_of ((bytes_eq-Decides w (codes "default")).0 h), e))
