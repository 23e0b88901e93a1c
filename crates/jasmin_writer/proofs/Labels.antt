-- The labels of places: each place has its own, and a place that is named is found by its label.
use Rattle.std.proofs.Common.{◌≡◌, ℕ, ◌+◌, ◌<◌, ◌≤◌, Bool, true, false, cond, List, [], ◌∷◌, ◌++◌, length, Some, None, inl, inr, refl, sym, subst, ap, ◌∙◌, arith}
use Rattle.std.specs.Fmt.{decimal}
use Rattle.std.specs.Str.Parse.{digits_value}
use Rattle.std.proofs.lemmas.Bool.{cases_eq, false_from_ne_true}
use Rattle.std.proofs.lemmas.List.{append-nil}
use Rattle.std.proofs.lemmas.Fmt.{decimal_is_IsNumeral}
use Rattle.std.proofs.lemmas.Slice.Eq.{bytes_eq-Decides}
use Rattle.std.specs.Str.{bytes_eq}
use Rattle.jasmin_writer.specs.Canonical.{label_text, is_named}
use Rattle.jasmin_text.specs.Grammar.{place_of}
use Rattle.jasmin_text.specs.declared.instruction.Instruction.{Instruction}

-- ---- a label for each place

own_label : (p q : ℕ) → p < 65536 → q < 65536 → label_text p ≡ label_text q → p ≡ q
unfolding label_text
own_label p q h k e =
    let d : decimal p ≡ decimal q = cc in
    sym (decimal_is_IsNumeral p (omega arith)).1 ∙ ap (digits_value 10) d ∙ (decimal_is_IsNumeral q (omega arith)).1

other_label : (p q : ℕ) → p < 65536 → q < 65536 → (p ≡ q → ⊥) → bytes_eq (label_text p) (label_text q) ≡ false
other_label p q h k n = false_from_ne_true (bytes_eq (label_text p) (label_text q)) (λ e. n (own_label p q h k ((bytes_eq-Decides (label_text p) (label_text q)).0 e)))

-- ---- the labels of a body

abbrev pub labels_if : Bool → ℕ → List (List ℕ × ℕ)
labels_if true place = (label_text place, place) ∷ []
labels_if false place = []

-- the labels from a place on
abbrev pub labels_from : List ℕ → ℕ → List (Instruction ℕ) → List (List ℕ × ℕ)
labels_from places place [] = labels_if (is_named places place) place ++ []
labels_from places place (i ∷ is) = labels_if (is_named places place) place ++ labels_from places (place + 1) is

passed : (b : Bool) (place p : ℕ) (rest : List (List ℕ × ℕ)) → p < 65536 → place < 65536 → (p ≡ place → ⊥) → place_of (labels_if b place ++ rest) (label_text p) ≡ place_of rest (label_text p)
passed true place p rest h k n = rw (other_label p place h k n) refl
passed false place p rest h k n = refl

here : (b : Bool) (place : ℕ) (rest : List (List ℕ × ℕ)) → b ≡ true → place_of (labels_if b place ++ rest) (label_text place) ≡ Some place
here true place rest e = rw ((bytes_eq-Decides (label_text place) (label_text place)).1 refl) refl
here false place rest e = absurd cc

abbrev Finds : List ℕ → ℕ → List (Instruction ℕ) → ℕ → Type 0
Finds places place is p = place_of (labels_from places place is) (label_text p) ≡ Some p

pub found : (places : List ℕ) (place : ℕ) (is : List (Instruction ℕ)) (p : ℕ) → is_named places p ≡ true → place ≤ p → p ≤ place + length is → place + length is < 65536 → place_of (labels_from places place is) (label_text p) ≡ Some p
found places place [] p n low high fit =
    let same : p ≡ place = omega arith in
    subst (Finds places place []) (sym same) (here (is_named places place) place [] (subst (λ (q : ℕ). is_named places q ≡ true) same n))
found places place (i ∷ is) p n low high fit = elim (cases_eq p place) as (λ _. Finds places place (i ∷ is) p) [
  | inl same ↦ subst (Finds places place (i ∷ is)) (sym same) (here (is_named places place) place (labels_from places (place + 1) is) (subst (λ (q : ℕ). is_named places q ≡ true) same n))
  | inr other ↦
      let low_then : place + 1 ≤ p = omega arith in
      passed (is_named places place) place p (labels_from places (place + 1) is) (omega arith) (omega arith) other ∙ found places (place + 1) is p n low_then (omega arith) (omega arith)
]

-- the labels of places from this one on aren't there yet
abbrev pub IsNewFrom : ℕ → List (List ℕ × ℕ) → Type 0
IsNewFrom place labels = (p : ℕ) → place ≤ p → p < 65536 → place_of labels (label_text p) ≡ None

behind : (labels : List (List ℕ × ℕ)) (place p : ℕ) → p < 65536 → place < 65536 → (p ≡ place → ⊥) → place_of labels (label_text p) ≡ None → place_of (labels ++ (label_text place, place) ∷ []) (label_text p) ≡ None
behind [] place p h k n e = rw (other_label p place h k n) refl
behind (l ∷ labels) place p h k n e = by (bytes_eq (label_text p) l.0) (behind labels place p h k n) e
  where
    by : (t : Bool) → (place_of labels (label_text p) ≡ None → place_of (labels ++ (label_text place, place) ∷ []) (label_text p) ≡ None)
        → cond t (Some l.1) (place_of labels (label_text p)) ≡ None → cond t (Some l.1) (place_of (labels ++ (label_text place, place) ∷ []) (label_text p)) ≡ None
    by true rest e = absurd cc
    by false rest e = rest e

pub new_behind : (b : Bool) (place : ℕ) (labels : List (List ℕ × ℕ)) → place < 65536 → IsNewFrom place labels → IsNewFrom (place + 1) (labels ++ labels_if b place)
new_behind true place labels less new p low high = behind labels place p high less (λ e. omega arith) (new p (omega arith) high)
new_behind false place labels less new p low high = subst (λ (l : List (List ℕ × ℕ)). place_of l (label_text p) ≡ None) (sym (append-nil labels)) (new p (omega arith) high)
