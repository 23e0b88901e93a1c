-- What is read as a type is spelled so, and what is spelled so is read.
use Rattle.std.proofs.Common.{◌≡◌, ℕ, zero, suc, ◌+◌, ◌≤◌, Bool, true, false, cond, eqb, inl, inr, List, [], ◌∷◌, ◌++◌, length, take, drop, Option, Some, None, Result, Ok, Err, refl, sym, ap, subst, ◌∙◌, append_assoc, arith}
use Rattle.std.specs.Prelude.{replicate, IfOk}
use Rattle.std.proofs.lemmas.Bool.{eqb-true, eqb-false}
use Rattle.std.proofs.lemmas.List.{append-nil, take-append-drop, take_at, drop_at}
use Rattle.sequence.specs.declared.refusal.Refusal.{Refusal}
use Rattle.sequence.specs.Gives.{◌>>=◌, Gives}
use Rattle.sequence.proofs.Results.{bind_ok, given, test_passed}
use Rattle.descriptors.specs.declared.base.BaseType.{BaseType}
use Rattle.descriptors.specs.declared.base.BaseType.TheVariants.{Boolean, Byte, Char, Short, Int}
use Rattle.descriptors.specs.declared.fault.DescriptorFault.{DescriptorFault}
use Rattle.descriptors.specs.declared.fault.DescriptorFault.TheVariants.{Unfinished}
use Rattle.descriptors.specs.declared.field.ElementType.{ElementType}
use Rattle.descriptors.specs.declared.field.ElementType.TheVariants.{Base, Class}
use Rattle.descriptors.specs.declared.field.FieldType.{FieldType}
use Rattle.descriptors.specs.ClassName.{is_class_name, IsClassName}
use Rattle.descriptors.specs.Letters.{letter_of, base_of_letter, is_left_out}
use Rattle.descriptors.specs.Spelling.{element_spelling, field_spelling, IsElementType, IsFieldType}
use Rattle.descriptors.specs.Reading.{name_len, closed_name, class_at, base_at, element_at, with_dimensions, array_at, field_at, ended, field_of_text}
use Rattle.descriptors.proofs.ClassNames.{name_len-closed}
use Rattle.descriptors.proofs.Steps.{chosen}
use Rattle.descriptors.proofs.Parameters.{ne-eqb}

-- ---- class names

-- nothing, or a ; and more
abbrev BeginsClosed : List ℕ → Type 0
BeginsClosed [] = Unit {0}
BeginsClosed (b ∷ bs) = b ≡ 59

name_ends : (bytes : List ℕ) → BeginsClosed (drop (name_len bytes) bytes)
name_ends [] = tt
name_ends (b ∷ bs) = at (eqb b 59) (eqb-true b 59) (name_ends bs)
  where
    at : (t : Bool) → (t ≡ true → b ≡ 59) → BeginsClosed (drop (name_len bs) bs) → BeginsClosed (drop (cond t 0 (1 + name_len bs)) (b ∷ bs))
    at true e h = e refl
    at false e h = let k : 1 + name_len bs ≡ suc (name_len bs) = omega arith in subst (λ (n : ℕ). BeginsClosed (drop n (b ∷ bs))) (sym k) h

abbrev TakesName : List ℕ → List ℕ × List ℕ → Type 0
TakesName bytes x = (bytes ≡ x.0 ++ 59 ∷ x.1) × IsClassName x.0

closed_takes : (name behind : List ℕ) (x : List ℕ × List ℕ) → BeginsClosed behind → closed_name name behind ≡ Ok x → TakesName (name ++ behind) x
closed_takes name [] x begins e = absurd cc
closed_takes name (b ∷ rest) x begins e =
    let g = test_passed (is_class_name name) (name, rest) Unfinished x e in
    subst (TakesName (name ++ b ∷ rest)) g.1 (ap (λ (c : ℕ). name ++ c ∷ rest) begins, g.0)

class_takes : (bytes : List ℕ) (x : List ℕ × List ℕ) → class_at bytes ≡ Ok x → TakesName bytes x
unfolding class_at
class_takes bytes x e =
    subst (λ (s : List ℕ). TakesName s x) (take-append-drop (name_len bytes) bytes) (closed_takes (take (name_len bytes) bytes) (drop (name_len bytes) bytes) x (name_ends bytes) e)

class_again : (name rest : List ℕ) → IsClassName name → class_at (name ++ 59 ∷ rest) ≡ Ok (name, rest)
unfolding class_at
class_again name rest h =
    rw (name_len-closed name rest h, take_at name (59 ∷ rest) (length name) refl, drop_at name (59 ∷ rest) (length name) refl, h) refl

-- ---- elements

base_letter : (c : ℕ) (base : BaseType) → base_of_letter c ≡ Some base → c ≡ letter_of base
base_letter c base e =
    elim (chosen (eqb c 90) _ _ _ e) [
      | inl (t, is) ↦ eqb-true c 90 t ∙ ap letter (is)
      | inr (_, e) ↦ elim (chosen (eqb c 66) _ _ _ e) [
        | inl (t, is) ↦ eqb-true c 66 t ∙ ap letter (is)
        | inr (_, e) ↦ elim (chosen (eqb c 67) _ _ _ e) [
          | inl (t, is) ↦ eqb-true c 67 t ∙ ap letter (is)
          | inr (_, e) ↦ elim (chosen (eqb c 83) _ _ _ e) [
            | inl (t, is) ↦ eqb-true c 83 t ∙ ap letter (is)
            | inr (_, e) ↦ elim (chosen (eqb c 73) _ _ _ e) [ inl (t, is) ↦ eqb-true c 73 t ∙ ap letter (is) | inr (_, e) ↦ absurd cc ]
          ]
        ]
      ]
    ]
  where
    letter : Option BaseType → ℕ
    letter None = 0
    letter (Some base) = letter_of base

abbrev TakesElement : List ℕ → ElementType × List ℕ → Type 0
TakesElement bytes x = (bytes ≡ element_spelling x.0 ++ x.1) × IsElementType x.0

base_takes : (c : ℕ) (rest : List ℕ) (o : Option BaseType) (x : ElementType × List ℕ) → base_of_letter c ≡ o → base_at o rest ≡ Ok x → TakesElement (c ∷ rest) x
base_takes c rest None x is e = absurd cc
base_takes c rest (Some base) x is e = given (TakesElement (c ∷ rest)) e (ap (λ (b : ℕ). b ∷ rest) (base_letter c base is), tt)

named_takes : (bs : List ℕ) (x : ElementType × List ℕ) → (class_at bs >>= (λ y. Ok (Class y.0, y.1))) ≡ Ok x → TakesElement (76 ∷ bs) x
named_takes bs x e =
    let a = bind_ok (class_at bs) (λ y. Ok (Class y.0, y.1)) x e in
    let t = class_takes bs a.0 a.1 in
    let whole : 76 ∷ bs ≡ 76 ∷ ((a.0.0 ++ 59 ∷ []) ++ a.0.1) = ap (λ (s : List ℕ). 76 ∷ s) (t.0 ∙ sym (append_assoc a.0.0 (59 ∷ []) a.0.1)) in
    given (TakesElement (76 ∷ bs)) a.2 (whole, t.1)

element_takes : (bytes : List ℕ) (x : ElementType × List ℕ) → element_at bytes ≡ Ok x → TakesElement bytes x
unfolding element_at
element_takes [] x e = absurd cc
element_takes (b ∷ bs) x e =
    elim (chosen (eqb b 76) _ _ _ e) [
      | inl (t, e) ↦ subst (λ (c : ℕ). TakesElement (c ∷ bs) x) (sym (eqb-true b 76 t)) (named_takes bs x e)
      | inr (_, e) ↦ elim (chosen (is_left_out b) _ _ _ e) [ inl (_, e) ↦ absurd cc | inr (_, e) ↦ base_takes b bs (base_of_letter b) x refl e ]
    ]

element_again : (element : ElementType) (rest : List ℕ) → IsElementType element → element_at (element_spelling element ++ rest) ≡ Ok (element, rest)
unfolding element_at
element_again (Base Boolean) rest h = refl
element_again (Base Byte) rest h = refl
element_again (Base Char) rest h = refl
element_again (Base Short) rest h = refl
element_again (Base Int) rest h = refl
element_again (Class name) rest h = rw (append_assoc name (59 ∷ []) rest, class_again name rest h) refl

-- ---- dimensions

brackets-more : (n : ℕ) (rest : List ℕ) → replicate (n + 1) 91 ++ rest ≡ replicate n 91 ++ 91 ∷ rest
brackets-more n rest = rw (n_more n) (shifted n rest)
  where
    n_more : (n : ℕ) → n + 1 ≡ suc n
    n_more n = omega arith

    shifted : (n : ℕ) (rest : List ℕ) → replicate (suc n) 91 ++ rest ≡ replicate n 91 ++ 91 ∷ rest
    shifted zero rest = refl
    shifted (suc n) rest = ap (λ (s : List ℕ). 91 ∷ s) (shifted n rest)

abbrev pub TakesField : List ℕ → FieldType × List ℕ → Type 0
TakesField bytes x = (bytes ≡ field_spelling x.0 ++ x.1) × IsFieldType x.0

dimensions_take : (n : ℕ) (bytes : List ℕ) (x : FieldType × List ℕ) → n ≤ 255 → with_dimensions n (element_at bytes) ≡ Ok x → TakesField (replicate n 91 ++ bytes) x
dimensions_take n bytes x le e =
    let a = bind_ok (element_at bytes) (λ y. Ok (record { dimensions = n; element = y.0 }, y.1)) x e in
    let t = element_takes bytes a.0 a.1 in
    let made : FieldType × List ℕ = (record { dimensions = n; element = a.0.0 }, a.0.1) in
    let whole : replicate n 91 ++ bytes ≡ (replicate n 91 ++ element_spelling a.0.0) ++ a.0.1 = ap (λ (s : List ℕ). replicate n 91 ++ s) t.0 ∙ sym (append_assoc (replicate n 91) (element_spelling a.0.0) a.0.1) in
    given (TakesField (replicate n 91 ++ bytes)) a.2 (whole, record { dimensions = le; element = t.1 })

array_takes : (n : ℕ) (bytes : List ℕ) (x : FieldType × List ℕ) → n ≤ 255 → array_at n bytes ≡ Ok x → TakesField (replicate n 91 ++ bytes) x
unfolding array_at
array_takes n [] x le e = absurd cc
array_takes n (b ∷ bs) x le e =
    elim (chosen (eqb b 91) _ _ _ e) [
      | inl (t, e) ↦ elim (chosen (eqb n 255) _ _ _ e) [
        | inl (_, e) ↦ absurd cc
        | inr (below, e) ↦
            let less : n ≡ 255 → ⊥ = eqb-false n 255 below in
            let rest = array_takes (n + 1) bs x (omega arith) e in
            subst (λ (s : List ℕ). TakesField s x) (brackets-more n bs ∙ ap (λ (c : ℕ). replicate n 91 ++ c ∷ bs) (sym (eqb-true b 91 t))) rest
      ]
      | inr (_, e) ↦ dimensions_take n (b ∷ bs) x le e
    ]

-- the first byte of an element is no [
abbrev BeginsElement : List ℕ → Type 0
BeginsElement [] = ⊥
BeginsElement (b ∷ bs) = eqb b 91 ≡ false

element_begins : (element : ElementType) (rest : List ℕ) → BeginsElement (element_spelling element ++ rest)
element_begins (Base Boolean) rest = refl
element_begins (Base Byte) rest = refl
element_begins (Base Char) rest = refl
element_begins (Base Short) rest = refl
element_begins (Base Int) rest = refl
element_begins (Class name) rest = refl

array_at-element : (n : ℕ) (bytes : List ℕ) → BeginsElement bytes → array_at n bytes ≡ with_dimensions n (element_at bytes)
unfolding array_at
array_at-element n [] h = absurd h
array_at-element n (b ∷ bs) h = rw h refl

array_at-bracket : (n : ℕ) (bs : List ℕ) → (n ≡ 255 → ⊥) → array_at n (91 ∷ bs) ≡ array_at (n + 1) bs
unfolding array_at
array_at-bracket n bs h = rw (ne-eqb n 255 h) refl

array_again : (k n : ℕ) (element : ElementType) (rest : List ℕ) → n + k ≤ 255 → IsElementType element → array_at n (replicate k 91 ++ (element_spelling element ++ rest)) ≡ Ok (record { dimensions = n + k; element = element }, rest)
array_again zero n element rest le h =
    let k : n ≡ n + 0 = omega arith in
    array_at-element n (element_spelling element ++ rest) (element_begins element rest) ∙ ap (with_dimensions n) (element_again element rest h) ∙ ap (λ (m : ℕ). Ok (record { dimensions = m; element = element }, rest)) k
array_again (suc k) n element rest le h =
    let j : n + 1 + k ≡ n + suc k = omega arith in
    array_at-bracket n (replicate k 91 ++ (element_spelling element ++ rest)) (λ e. omega arith) ∙ array_again k (n + 1) element rest (omega arith) h ∙ ap (λ (m : ℕ). Ok (record { dimensions = m; element = element }, rest)) j

-- ---- types

pub field_takes : (bytes : List ℕ) (x : FieldType × List ℕ) → field_at bytes ≡ Ok x → TakesField bytes x
field_takes bytes x e = array_takes 0 bytes x (omega arith) e

pub field_again : (t : FieldType) (rest : List ℕ) → IsFieldType t → field_at (field_spelling t ++ rest) ≡ Ok (t, rest)
field_again t rest h =
    let limit : 0 + t.dimensions ≤ 255 = omega (arith, h.dimensions) in
    let k : 0 + t.dimensions ≡ t.dimensions = omega arith in
    ap field_at (append_assoc (replicate t.dimensions 91) (element_spelling t.element) rest) ∙ array_again t.dimensions 0 t.element rest limit h.element ∙ ap (λ (m : ℕ). Ok (record { dimensions = m; element = t.element }, rest)) k

-- a type's text has a first byte, which is neither ) nor V
pub record Begins (text : List ℕ) : Type 0 where
  pub first : ℕ
  pub others : List ℕ
  pub parts : text ≡ first ∷ others
  pub no_end : eqb first 41 ≡ false
  pub no_void : eqb first 86 ≡ false

element_first : (element : ElementType) → Begins (element_spelling element)
element_first (Base Boolean) = record { first = 90; others = []; parts = refl; no_end = refl; no_void = refl }
element_first (Base Byte) = record { first = 66; others = []; parts = refl; no_end = refl; no_void = refl }
element_first (Base Char) = record { first = 67; others = []; parts = refl; no_end = refl; no_void = refl }
element_first (Base Short) = record { first = 83; others = []; parts = refl; no_end = refl; no_void = refl }
element_first (Base Int) = record { first = 73; others = []; parts = refl; no_end = refl; no_void = refl }
element_first (Class name) = record { first = 76; others = name ++ 59 ∷ []; parts = refl; no_end = refl; no_void = refl }

array_first : (n : ℕ) (element : ElementType) → Begins (replicate n 91 ++ element_spelling element)
array_first zero element = element_first element
array_first (suc n) element = record { first = 91; others = replicate n 91 ++ element_spelling element; parts = refl; no_end = refl; no_void = refl }

pub field_first : (t : FieldType) → Begins (field_spelling t)
field_first t = array_first t.dimensions t.element

-- ---- whole texts

pub ended_ok : {A : Type 0} (x : A) (rest : List ℕ) (y : A) → ended x rest ≡ Ok y → (rest ≡ []) × (x ≡ y)
ended_ok x [] y e = (refl, cc)
ended_ok x (b ∷ bs) y e = absurd cc

field_text-cons : (s : List ℕ) (first : ℕ) (others : List ℕ) → s ≡ first ∷ others → field_of_text s ≡ (field_at s >>= λ x. ended x.0 x.1)
unfolding field_of_text
field_text-cons s first others e = ap field_of_text e ∙ ap (λ (s : List ℕ). field_at s >>= λ x. ended x.0 x.1) (sym e)

pub field_found : (bytes : List ℕ) (t : FieldType) → field_of_text bytes ≡ Ok t → (bytes ≡ field_spelling t) × IsFieldType t
unfolding field_of_text
field_found [] t e = absurd cc
field_found (b ∷ bs) t e =
    let a = bind_ok (field_at (b ∷ bs)) (λ x. ended x.0 x.1) t e in
    let taken = field_takes (b ∷ bs) a.0 a.1 in
    let end = ended_ok a.0.0 a.0.1 t a.2 in
    subst (λ (u : FieldType). (b ∷ bs ≡ field_spelling u) × IsFieldType u) end.1 (taken.0 ∙ ap (λ (r : List ℕ). field_spelling a.0.0 ++ r) end.0 ∙ append-nil (field_spelling a.0.0), taken.1)

pub field_only : (t : FieldType) → IsFieldType t → field_of_text (field_spelling t) ≡ Ok t
field_only t h =
    let begins = field_first t in
    let again : field_at (field_spelling t) ≡ Ok (t, []) = ap field_at (sym (append-nil (field_spelling t))) ∙ field_again t [] h in
    field_text-cons (field_spelling t) begins.first begins.others begins.parts ∙ ap (λ (r : Result (FieldType × List ℕ) DescriptorFault). r >>= λ x. ended x.0 x.1) again

-- what a reader of a whole text gave, as the public clauses say it
pub is_found : (bytes : List ℕ) (r : Result FieldType (Refusal DescriptorFault)) → Gives (λ x. x) r (field_of_text bytes) → IfOk r (λ t. IsFieldType t × (bytes ≡ field_spelling t))
is_found bytes (Ok t) read = let found = field_found bytes t read in (found.1, found.0)
is_found bytes (Err e) read = tt

pub is_only : (bytes : List ℕ) (r : Result FieldType (Refusal DescriptorFault)) → Gives (λ x. x) r (field_of_text bytes) → (t : FieldType) → IsFieldType t → bytes ≡ field_spelling t → Gives (λ x. x) r (Ok t)
is_only bytes r read t h e = subst (Gives (λ x. x) r) (ap field_of_text e ∙ field_only t h) read
