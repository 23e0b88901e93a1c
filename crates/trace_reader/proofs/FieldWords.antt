-- Static fields and values are words of a line, and are read again.
use Rattle.std.proofs.Common.{◌≡◌, ℕ, zero, suc, inl, inr, ◌+◌, ◌<◌, Bool, true, false, not, ◌&&◌, eqb, List, [], ◌∷◌, ◌++◌, length, take, Option, Some, None, Ok, slice_get, refl, sym, ap, subst, ◌∙◌, append_assoc, arith}
use Rattle.std.proofs.lemmas.Bool.{cases_Bool, and_parts, leb-true}
use Rattle.std.proofs.lemmas.Option.{slice_get_within}
use Rattle.std.proofs.lemmas.List.{length-map, length-append}
use Rattle.std.specs.List.{list_all, list_any}
use Rattle.std.specs.Prelude.{nat_le, filter}
use Rattle.std.proofs.lemmas.Slice.Eq.{bytes_eq-Decides}
use Rattle.std.specs.Str.{bytes_eq}
use Rattle.descriptors.specs.Reading.{field_of_text}
use Rattle.descriptors.specs.Spelling.{field_spelling, IsElementType, IsFieldType}
use Rattle.descriptors.specs.declared.base.BaseType.{BaseType}
use Rattle.descriptors.specs.declared.field.ElementType.{ElementType}
use Rattle.descriptors.specs.declared.field.ElementType.TheVariants as element
use Rattle.descriptors.specs.declared.field.FieldType.{FieldType}
use Rattle.descriptors.proofs.FieldLaws.{field_only}
use Rattle.jasmin_text.specs.declared.class_text.Field.{Field}
use Rattle.jasmin_text.specs.Spellable.{is_element_type, is_type, is_field_type, is_value_of, is_field}
use Rattle.jasmin_text.specs.Tables.{is_member_word}
use Rattle.jasmin_text.proofs.WordBytes.{member_name_word, field_word}
use Rattle.jasmin_words.specs.Lexing.{fits}
use Rattle.jasmin_words.specs.Names.{is_member_name}
use Rattle.jasmin_words.specs.Spelling.{is_word_byte}
use Rattle.sequence.proofs.Results.{Holds, cond_holds, HoldsIn, cond_in, map_in, in_at, weaker}
use Rattle.hierarchy.specs.declared.class.Class.{Class}
use Rattle.hierarchy.specs.declared.class.ClassId.{ClassId}
use Rattle.hierarchy.specs.LinkedProgram.{LinkedProgram, class_at}
use Rattle.hierarchy.specs.LinkedTexts.{IsLinked}
use Rattle.hierarchy.specs.OwnNames.{fields_in, fields_of}
use Rattle.hierarchy.specs.StaticFields.{is_static_field}
use Rattle.hierarchy.proofs.DistinctMembers.{own_fields}
use Rattle.statics.specs.Statics.{base_in, static_field, static_fields_in, static_fields, statics_of}
use Rattle.init_core.specs.declared.event.TheConstants.{FIELD_PLACES}
use Rattle.init_core.proofs.States.{few_statics}
use Rattle.trace.specs.TraceText.{field_in_trace}
use Rattle.trace_reader.specs.Fields.{field_from, known_field, field_at}
use Rattle.trace_reader.proofs.ClassWords.{words_at, at_place}
use Rattle.trace_reader.proofs.LineWords.{IsLineWord, unbroken_word, unbroken_joined}

-- ---- the field that a word names

-- the j-th of these is spelled so
pub record IsFieldAt (fs : List Field) (word : List ℕ) (x : ℕ × Option BaseType) (before : ℕ) : Type 0 where
  pub place : ℕ
  pub field : Field
  pub counted : x.0 ≡ before + place
  pub there : slice_get fs place ≡ Some field
  pub spelled : word ≡ field_in_trace (Some field)
  pub base : x.1 ≡ base_in field.field_type

from_found : (before : ℕ) (fs : List Field) (word : List ℕ) → HoldsIn (λ x. IsFieldAt fs word x before) (field_from before fs word)
from_found before [] word = tt
from_found before (f ∷ fs) word =
    cond_in (λ x. IsFieldAt (f ∷ fs) word x before) (bytes_eq (field_in_trace (Some f)) word) _ _
    (λ e. record { place = 0; field = f; counted = omega arith; there = refl; spelled = sym ((bytes_eq-Decides (field_in_trace (Some f)) word).0 e); base = refl })
    (λ _. map_in (λ x. IsFieldAt fs word x (before + 1)) (λ x. IsFieldAt (f ∷ fs) word x before) (field_from (before + 1) fs word) (λ x h. later x h) (from_found (before + 1) fs word))
  where
    later : (x : ℕ × Option BaseType) → IsFieldAt fs word x (before + 1) → IsFieldAt (f ∷ fs) word x before
    later x h = record { place = suc h.place; field = h.field; counted = omega (arith, h.counted); there = h.there; spelled = h.spelled; base = h.base }

from_some : (before : ℕ) (fs : List Field) (word : List ℕ) (place : ℕ) (f : Field) → slice_get fs place ≡ Some f → word ≡ field_in_trace (Some f) → (x : ℕ × Option BaseType) × (field_from before fs word ≡ Some x)
from_some before [] word place f e is = absurd cc
from_some before (g ∷ fs) word zero f e is =
    let same : bytes_eq (field_in_trace (Some g)) word ≡ true = let k : g ≡ f = cc in rw (k, is) ((bytes_eq-Decides (field_in_trace (Some f)) (field_in_trace (Some f))).1 refl) in
    ((before, base_in g.field_type), rw same refl)
from_some before (g ∷ fs) word (suc place) f e is = elim (cases_Bool (bytes_eq (field_in_trace (Some g)) word)) [
  | inl same ↦ ((before, base_in g.field_type), rw same refl)
  | inr other ↦ let later = from_some (before + 1) fs word place f e is in (later.0, rw other later.1)
]

-- ---- one field has one word

separated : (a b s t : List ℕ) → list_all is_word_byte a ≡ true → list_all is_word_byte b ≡ true → a ++ 58 ∷ s ≡ b ++ 58 ∷ t → (a ≡ b) × (s ≡ t)
separated [] [] s t p q e = (refl, cc)
separated [] (y ∷ b) s t p q e = absurd (let same : y ≡ 58 = cc in let r = and_parts (is_word_byte y) (list_all is_word_byte b) q in let wrong = rw same at r.0 in cc)
separated (x ∷ a) [] s t p q e = absurd (let same : x ≡ 58 = cc in let r = and_parts (is_word_byte x) (list_all is_word_byte a) p in let wrong = rw same at r.0 in cc)
separated (x ∷ a) (y ∷ b) s t p q e =
    let same : x ≡ y = cc in
    let rest : a ++ 58 ∷ s ≡ b ++ 58 ∷ t = cc in
    let r = separated a b s t (and_parts (is_word_byte x) (list_all is_word_byte a) p).1 (and_parts (is_word_byte y) (list_all is_word_byte b) q).1 rest in
    (let front : a ≡ b = r.0 in cc, r.1)

pub record IsGoodField (f : Field) : Type 0 where
  pub name : list_all is_word_byte f.name ≡ true
  pub type : IsFieldType f.field_type
  pub spelled : list_all is_word_byte (field_spelling f.field_type) ≡ true

good_field : (f : Field) → is_field f ≡ true → IsGoodField f
unfolding is_field is_field_type
good_field f h =
    let a = is_member_name f.name in
    let b = fits f.name in
    let d = not (is_member_word f.name) in
    let t = is_field_type f.field_type in
    let one = and_parts (a && b && d && t) (is_value_of f.field_type f.value) h in
    let two = and_parts (a && b && d) t one.0 in
    let three = and_parts (a && b) d two.0 in
    let name = (and_parts a b three.0).0 in
    let type = (and_parts (is_type f.field_type) (fits (field_spelling f.field_type)) two.1).0 in
    let parts = and_parts (nat_le f.field_type.dimensions 255) (is_element_type f.field_type.element) type in
    record {
      name = member_name_word f.name name;
      type = record { dimensions = leb-true f.field_type.dimensions 255 parts.0; element = known f.field_type.element parts.1 };
      spelled = field_word f.field_type parts.1;
    }
  where
    known : (e : ElementType) → is_element_type e ≡ true → IsElementType e
    known (element.Base b) h = tt
    known (element.Class name) h = h

one_type : (t u : FieldType) → IsFieldType t → IsFieldType u → field_spelling t ≡ field_spelling u → t ≡ u
one_type t u h k e = let a = field_only t h in let b = field_only u k in let c = ap field_of_text e in cc

one_field : (f g : Field) → IsGoodField f → IsGoodField g → field_in_trace (Some f) ≡ field_in_trace (Some g) → (f.name ≡ g.name) × (f.field_type ≡ g.field_type)
one_field f g h k e =
    let r = separated f.name g.name (field_spelling f.field_type) (field_spelling g.field_type) h.name k.name (sym (append_assoc f.name (58 ∷ []) (field_spelling f.field_type)) ∙ e ∙ append_assoc g.name (58 ∷ []) (field_spelling g.field_type)) in
    (r.0, one_type f.field_type g.field_type h.type k.type r.1)

-- ---- static fields among all

record IsAmong {X : Type 0} (q : X → Bool) (xs : List X) (place : ℕ) (x : X) : Type 0 where
  at : ℕ
  there : slice_get xs at ≡ Some x
  counted : length (filter q (take at xs)) ≡ place

unfiltered : {X : Type 0} (q : X → Bool) (xs : List X) (place : ℕ) (x : X) → slice_get (filter q xs) place ≡ Some x → IsAmong q xs place x
unfiltered q [] place x e = absurd cc
unfiltered q (y ∷ ys) place x e = elim (cases_Bool (q y)) [ inl t ↦ kept_one t place (λ k. unfiltered q ys k x) (rw t at e) | inr f ↦ left_one f (unfiltered q ys place x (rw f at e)) ]
  where
    kept_one : q y ≡ true → (place : ℕ) → ((k : ℕ) → slice_get (filter q ys) k ≡ Some x → IsAmong q ys k x) → slice_get (y ∷ filter q ys) place ≡ Some x → IsAmong q (y ∷ ys) place x
    kept_one t zero next e = record { at = 0; there = e; counted = refl }
    kept_one t (suc k) next e = let h = next k e in record { at = suc h.at; there = h.there; counted = rw t (let c = h.counted in omega arith) }

    left_one : q y ≡ false → IsAmong q ys place x → IsAmong q (y ∷ ys) place x
    left_one f h = record { at = suc h.at; there = h.there; counted = rw f h.counted }

abbrev IsGoodIn : List Field → Type 0
IsGoodIn fs = (i : ℕ) (f : Field) → slice_get fs i ≡ Some f → IsGoodField f

-- two static fields of a class with one word are one field
one_place : (fs : List Field) → IsGoodIn fs → ((i j : ℕ) (f g : Field) → slice_get fs i ≡ Some f → slice_get fs j ≡ Some g → f.name ≡ g.name → f.field_type ≡ g.field_type → i ≡ j)
    → (k l : ℕ) (f g : Field) → slice_get (filter is_static_field fs) k ≡ Some f → slice_get (filter is_static_field fs) l ≡ Some g → field_in_trace (Some f) ≡ field_in_trace (Some g) → k ≡ l
one_place fs good own k l f g e d same =
    let a = unfiltered is_static_field fs k f e in
    let b = unfiltered is_static_field fs l g d in
    let r = one_field f g (good a.at f a.there) (good b.at g b.there) same in
    let at : a.at ≡ b.at = own a.at b.at f g a.there b.there r.0 r.1 in
    sym a.counted ∙ ap (λ (n : ℕ). length (filter is_static_field (take n fs))) at ∙ b.counted

good_fields : (p : LinkedProgram) → IsLinked p → (c : ClassId) → IsGoodIn (fields_of p c)
good_fields p h c = at (class_at p c) refl
  where
    at : (o : Option Class) → class_at p c ≡ o → IsGoodIn (fields_in o)
    at None e i f g = absurd cc
    at (Some class) e i f g = good_field f (at_place is_field class.fields i f (words_at p h c class e).fields g)

static_is_filtered : (o : Option Class) → static_fields_in o ≡ filter is_static_field (fields_in o)
static_is_filtered None = refl
static_is_filtered (Some class) = refl

pub static_good : (p : LinkedProgram) → IsLinked p → (c : ClassId) (place : ℕ) (f : Field) → slice_get (static_fields p c) place ≡ Some f → IsGoodField f
static_good p h c place f e =
    let a = unfiltered is_static_field (fields_of p c) place f (ap (λ fs. slice_get fs place) (sym (static_is_filtered (class_at p c))) ∙ e) in
    good_fields p h c a.at f a.there

-- ---- reading a field

pub field_found : (p : LinkedProgram) (c : ClassId) (word : List ℕ) → Holds (λ x. IsFieldAt (static_fields p c) word x 0) (field_at p c word)
unfolding field_at
field_found p c word = at (field_from 0 (static_fields p c) word) (from_found 0 (static_fields p c) word)
  where
    at : (o : Option (ℕ × Option BaseType)) → HoldsIn (λ x. IsFieldAt (static_fields p c) word x 0) o → Holds (λ x. IsFieldAt (static_fields p c) word x 0) (known_field o word)
    at (Some x) h = h
    at None h = cond_holds (λ x. IsFieldAt (static_fields p c) word x 0) (list_any (λ b. eqb b 58) word) _ _ (λ _. tt) (λ _. tt)

pub field_small : (p : LinkedProgram) → IsLinked p → (c : ClassId) (word : List ℕ) → Holds (λ x. x.0 < FIELD_PLACES) (field_at p c word)
field_small p h c word = weaker (λ x. IsFieldAt (static_fields p c) word x 0) (λ x. x.0 < FIELD_PLACES) (field_at p c word) small (field_found p c word)
  where
    small : (x : ℕ × Option BaseType) → IsFieldAt (static_fields p c) word x 0 → x.0 < FIELD_PLACES
    small x f =
        let k = slice_get_within (static_fields p c) f.place f.field f.there in
        let few = few_statics p h c in
        let same : length (statics_of p c) ≡ length (static_fields p c) = length-map (static_fields p c) (static_field p) in
        omega (arith, f.counted, k, few, same)

pair_is : (x : ℕ × Option BaseType) (n : ℕ) (b : Option BaseType) → x.0 ≡ n → x.1 ≡ b → x ≡ (n, b)
pair_is x n b e f = subst (λ (m : ℕ). x ≡ (m, b)) e (subst (λ (c : Option BaseType). x ≡ (x.0, c)) f refl)

pub field_again : (p : LinkedProgram) → IsLinked p → (c : ClassId) (place : ℕ) (f : Field) → slice_get (static_fields p c) place ≡ Some f → field_at p c (field_in_trace (Some f)) ≡ Ok (place, base_in f.field_type)
unfolding field_at
field_again p h c place f e =
    let word = field_in_trace (Some f) in
    let some = from_some 0 (static_fields p c) word place f e refl in
    let is : IsFieldAt (static_fields p c) word some.0 0 = in_at (λ x. IsFieldAt (static_fields p c) word x 0) (field_from 0 (static_fields p c) word) some.0 (from_found 0 (static_fields p c) word) some.1 in
    let all = static_is_filtered (class_at p c) in
    let same : is.place ≡ place =
    one_place (fields_of p c) (good_fields p h c) (own_fields p h c) is.place place is.field f
    (ap (λ fs. slice_get fs is.place) (sym all) ∙ is.there) (ap (λ fs. slice_get fs place) (sym all) ∙ e) (sym is.spelled) in
    let at : is.field ≡ f = let a = is.there in let b = ap (slice_get (static_fields p c)) same in cc in
    let number : some.0.0 ≡ place = omega (arith, is.counted, same) in
    let base : some.0.1 ≡ base_in f.field_type = is.base ∙ ap (λ (g : Field). base_in g.field_type) at in
    rw some.1 (ap (λ (x : ℕ × Option BaseType). Ok x) (pair_is some.0 place (base_in f.field_type) number base))

pub field_line : (f : Field) → IsGoodField f → IsLineWord (field_in_trace (Some f))
field_line f h = record {
  some = let a = length-append (f.name ++ 58 ∷ []) (field_spelling f.field_type) in let b = length-append f.name (58 ∷ []) in omega (arith, a, b);
  whole = unbroken_joined (f.name ++ 58 ∷ []) (field_spelling f.field_type) (unbroken_joined f.name (58 ∷ []) (unbroken_word f.name h.name) refl) (unbroken_word (field_spelling f.field_type) h.spelled);
}
