-- Sets of classes: each once, with a mark at its number.
use Rattle.std.proofs.Common.{◌≡◌, ℕ, zero, suc, ◌<◌, ◌≤◌, Bool, true, false, inl, inr, Option, Some, None, List, [], ◌∷◌, ◌++◌, length, slice_get, slice_index_or, slice_set, refl, sym, ap, subst, ◌∙◌, arith, append-nil, append_assoc}
use Rattle.std.specs.Prelude.{◌||◌, if◌then◌else◌, IfSome}
use Rattle.std.proofs.lemmas.Bool.{cases_Bool, eqb-true, eq-eqb, true≢false}
use Rattle.std.proofs.lemmas.List.{map-append}
use Rattle.std.proofs.lemmas.List.Folds.{list_any-append}
use Rattle.std.specs.List.{AllByRecursion, IsDistinct, list_any}
use Rattle.std.specs.Cmp.{nat_eq_equiv}
use Rattle.hierarchy.specs.declared.class.ClassId.{ClassId}
use Rattle.hierarchy.specs.ClassLists.{Among, first, later, is_among, add_new, add_all, distinct, same_class}
use Rattle.hierarchy.specs.ClassNumbers.{ids}
use Rattle.hierarchy.specs.LinkedProgram.{id}
use Rattle.hierarchy.proofs.ClassMembership.{same_class-true, true_from_among}
use Rattle.hierarchy.proofs.Positions.{Some_same}
use Rattle.hierarchy.proofs.Searches.{among_get}

none_pushed : (y : ClassId) (xs : List ClassId) (x : ClassId) → AllByRecursion (λ z. same_class y z ≡ false) xs → same_class y x ≡ false → AllByRecursion (λ z. same_class y z ≡ false) (xs ++ x ∷ [])
none_pushed y [] x a e = (e, tt)
none_pushed y (z ∷ xs) x a e = (a.0, none_pushed y xs x a.1 e)

pub distinct_pushed : (xs : List ClassId) (x : ClassId) → IsDistinct same_class xs → list_any (same_class x) xs ≡ false → IsDistinct same_class (xs ++ x ∷ [])
unfolding IsDistinct
distinct_pushed [] x d e = (tt, tt)
distinct_pushed (y ∷ ys) x d e = elim (cases_Bool (same_class x y)) [
  | inl t ↦ let q = rw t at e in cc
  | inr f ↦ (none_pushed y ys x d.0 (nat_eq_equiv.symm y.number x.number ∙ f), distinct_pushed ys x d.1 (rw f at e))
]

add_new-distinct : (xs : List ClassId) (x : ClassId) → IsDistinct same_class xs → IsDistinct same_class (add_new xs x)
add_new-distinct xs x d = elim (cases_Bool (list_any (same_class x) xs)) [ inl e ↦ rw e d | inr e ↦ rw e (distinct_pushed xs x d e) ]

pub add_all-distinct : (xs ys : List ClassId) → IsDistinct same_class xs → IsDistinct same_class (add_all xs ys)
add_all-distinct xs [] d = d
add_all-distinct xs (y ∷ ys) d = add_all-distinct (add_new xs y) ys (add_new-distinct xs y d)

abbrev is_marked : List Bool → ℕ → Bool
is_marked marks n = slice_index_or marks n false

set_there : (marks : List Bool) (i : ℕ) → i < length marks → is_marked (slice_set marks i true) i ≡ true
set_there [] i h = absurd (omega (arith, h))
set_there (m ∷ marks) zero h = refl
set_there (m ∷ marks) (suc i) h = set_there marks i (omega (arith, h))

set_elsewhere : (marks : List Bool) (i n : ℕ) → (n ≡ i → ⊥) → is_marked (slice_set marks i true) n ≡ is_marked marks n
set_elsewhere [] i n h = refl
set_elsewhere (m ∷ marks) zero zero h = absurd (h refl)
set_elsewhere (m ∷ marks) zero (suc n) h = refl
set_elsewhere (m ∷ marks) (suc i) zero h = refl
set_elsewhere (m ∷ marks) (suc i) (suc n) h = set_elsewhere marks i n (λ e. h (ap suc e))

or_true : (b : Bool) → b || (true || false) ≡ true
or_true true = refl
or_true false = refl

or_none : (b : Bool) → b || (false || false) ≡ b
or_none true = refl
or_none false = refl

pub added : (numbers next : List ℕ) (n : ℕ) (now : List ClassId) (c : ClassId) → next ≡ numbers ++ n ∷ [] → n ≡ c.number → ids numbers ≡ now → is_among c now ≡ false → ids next ≡ add_new now c
added numbers next n now c pushed same view absent =
    ap ids pushed ∙ map-append id numbers (n ∷ []) ∙ ap (λ m. ids numbers ++ id m ∷ []) same ∙ ap (λ xs. xs ++ c ∷ []) view ∙ sym (ap (λ t. if t then now else now ++ c ∷ []) absent)

-- one class more, with its mark
pub marked_more : (marks : List Bool) (xs : List ClassId) (x : ClassId) → ((n : ℕ) → is_marked marks n ≡ is_among (id n) xs) → x.number < length marks → (n : ℕ) → is_marked (slice_set marks x.number true) n ≡ is_among (id n) (xs ++ x ∷ [])
marked_more marks xs x m h n =
    rw (list_any-append (same_class (id n)) xs (x ∷ []))
    (elim (cases_Bool (same_class (id n) x)) [
      | inl e ↦ rw e (let same : n ≡ x.number = eqb-true n x.number e in ap (is_marked (slice_set marks x.number true)) same ∙ set_there marks x.number h ∙ sym (or_true (is_among (id n) xs)))
      | inr e ↦ rw e (set_elsewhere marks x.number n (λ q. true≢false (sym (eq-eqb n x.number q) ∙ e)) ∙ m n ∙ sym (or_none (is_among (id n) xs)))
    ])

pub none_distinct : IsDistinct same_class []
unfolding IsDistinct
none_distinct = tt

pub distinct-once : (xs : List ClassId) → IsDistinct same_class (distinct xs)
distinct-once xs = add_all-distinct [] xs none_distinct

-- the class at a place is in the list
pub stands_there : (xs : List ClassId) (k : ℕ) (o : Option ClassId) → o ≡ slice_get xs k → IfSome o (λ c. Among c xs)
stands_there xs k None e = tt
stands_there xs k (Some c) e = among_get xs k c e

all_at : (P : ClassId → Type 0) {x : ClassId} {xs : List ClassId} → AllByRecursion P xs → Among x xs → P x
all_at P a first = a.0
all_at P a (later m) = all_at P a.1 m

-- adding a list without repeats appends it, where none of it is there
add_all-apart : (xs ys : List ClassId) → IsDistinct same_class ys → ((y : ClassId) → Among y ys → is_among y xs ≡ false) → add_all xs ys ≡ xs ++ ys
unfolding IsDistinct
add_all-apart xs [] d h = sym (append-nil xs)
add_all-apart xs (y ∷ ys) d h =
    ap (λ z. add_all z ys) pushed ∙ add_all-apart (xs ++ y ∷ []) ys d.1 lacks ∙ append_assoc xs (y ∷ []) ys
  where
    pushed : add_new xs y ≡ xs ++ y ∷ []
    pushed = rw (h y first) refl

    lacks : (z : ClassId) → Among z ys → is_among z (xs ++ y ∷ []) ≡ false
    lacks z m = let other : same_class z y ≡ false = nat_eq_equiv.symm z.number y.number ∙ all_at (λ x. same_class y x ≡ false) d.0 m in list_any-append (same_class z) xs (y ∷ []) ∙ rw (h z (later m), other) refl

pub none_apart : (xs ys : List ClassId) → None ≡ slice_get xs 0 → IsDistinct same_class ys → add_all xs ys ≡ xs ++ ys
none_apart [] ys e d = add_all-apart [] ys d (λ y m. refl)
none_apart (x ∷ xs) ys e d = absurd cc

pub one_apart : (xs ys : List ClassId) (x : ClassId) → length xs ≤ 1 → Some x ≡ slice_get xs 0 → IsDistinct same_class ys → is_among x ys ≡ false → add_all xs ys ≡ xs ++ ys
one_apart [] ys x few e d n = absurd cc
one_apart (z ∷ []) ys x few e d n = add_all-apart (z ∷ []) ys d lacks
  where
    lacks : (y : ClassId) → Among y ys → is_among y (z ∷ []) ≡ false
    lacks y m = elim (cases_Bool (same_class y z)) [
      | inl same ↦ absurd (true≢false (sym (true_from_among (subst (λ w. Among w ys) (same_class-true y z same ∙ sym (Some_same e)) m)) ∙ n))
      | inr other ↦ rw other refl
    ]
one_apart (z ∷ w ∷ xs) ys x few e d n = absurd (omega (arith, few))

or_before : (a b : Bool) → a || (b || false) ≡ b || a
or_before true true = refl
or_before true false = refl
or_before false true = refl
or_before false false = refl

-- one class before the others, with its mark
pub marked_before : (marks : List Bool) (xs ys : List ClassId) (x : ClassId) → length xs ≤ 1 → Some x ≡ slice_get xs 0 → ((n : ℕ) → is_marked marks n ≡ is_among (id n) ys) → x.number < length marks → (n : ℕ) → is_marked (slice_set marks x.number true) n ≡ is_among (id n) (xs ++ ys)
marked_before marks [] ys x few e m h n = absurd cc
marked_before marks (y ∷ []) ys x few e m h n =
    marked_more marks ys x m h n ∙ list_any-append (same_class (id n)) ys (x ∷ []) ∙ or_before (is_among (id n) ys) (same_class (id n) x) ∙ ap (λ z. is_among (id n) (z ∷ ys)) (Some_same e)
marked_before marks (y ∷ z ∷ xs) ys x few e m h n = absurd (omega (arith, few))

pub marked_alone : (marks : List Bool) (xs ys : List ClassId) → None ≡ slice_get xs 0 → ((n : ℕ) → is_marked marks n ≡ is_among (id n) ys) → (n : ℕ) → is_marked marks n ≡ is_among (id n) (xs ++ ys)
marked_alone marks [] ys e m = m
marked_alone marks (x ∷ xs) ys e m = absurd cc
