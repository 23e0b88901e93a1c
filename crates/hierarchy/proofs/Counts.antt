-- How many different classes there are below a number.
use Rattle.std.proofs.Common.{◌≡◌, ℕ, ◌+◌, ◌<◌, ◌≤◌, ◌⊎◌, refl, true, false, eqb, inl, inr, List, [], ◌∷◌, length, sym, arith}
use Rattle.std.proofs.lemmas.Bool.{cases_Bool, eqb-true}
use Rattle.std.proofs.lemmas.List.{length-map}
use Rattle.std.proofs.lemmas.Map.Made.{length-le_from_is_member}
use Rattle.std.proofs.lemmas.Map.Steps.{length-le_from_distinct_below}
use Rattle.std.specs.Cmp.{nat_eq_equiv, IsEquivalence}
use Rattle.std.specs.Prelude.{map}
use Rattle.std.specs.List.{list_any, IsDistinct, AllByRecursion}
use Rattle.hierarchy.specs.declared.class.ClassId.{ClassId}
use Rattle.hierarchy.specs.ClassLists.{Among, first, later, same_class}
use Rattle.hierarchy.proofs.ClassMembership.{same_class-refl, among_from_true, true_from_among}

abbrev numbers : List ClassId → List ℕ
numbers cs = map (λ c. c.number) cs

none_same : (c : ClassId) (cs : List ClassId) → AllByRecursion (λ d. same_class c d ≡ false) cs → AllByRecursion (λ n. eqb c.number n ≡ false) (numbers cs)
none_same c [] h = tt
none_same c (d ∷ cs) h = (h.0, none_same c cs h.1)

distinct_numbers : (cs : List ClassId) → IsDistinct same_class cs → IsDistinct eqb (numbers cs)
unfolding IsDistinct
distinct_numbers [] h = tt
distinct_numbers (c ∷ cs) h = (none_same c cs h.0, distinct_numbers cs h.1)

number_among : (n : ℕ) (cs : List ClassId) → list_any (eqb n) (numbers cs) ≡ true → (c : ClassId) × Among c cs × (c.number ≡ n)
number_among n [] e = absurd cc
number_among n (c ∷ cs) e =
    elim (cases_Bool (eqb n c.number)) [
      | inl t ↦ (c, first, sym (eqb-true n c.number t))
      | inr f ↦ let r = number_among n cs (rw f at e) in (r.0, later r.1, r.2)
    ]

-- no more different classes than numbers
pub length-in_range : (cs : List ClassId) (n : ℕ) → IsDistinct same_class cs → ((c : ClassId) → Among c cs → c.number < n) → length cs ≤ n
length-in_range cs n u h =
    let l : length (numbers cs) ≤ n = length-le_from_distinct_below (numbers cs) n (distinct_numbers cs u) (λ q e. below q (number_among q cs e)) in
    rw length-map at l
  where
    below : (q : ℕ) → (c : ClassId) × Among c cs × (c.number ≡ q) → q < n
    below q r = let k = h r.0 r.1 in omega (arith, k, r.2)

same_class_equiv : IsEquivalence same_class
same_class_equiv = record {
  refl = same_class-refl;
  symm = λ c d. nat_eq_equiv.symm c.number d.number;
  congr = λ c d e. nat_eq_equiv.congr c.number d.number e.number;
}

none_equal : (x : ClassId) (xs : List ClassId) → list_any (same_class x) xs ≡ false → AllByRecursion (λ y. same_class x y ≡ false) xs
none_equal x [] e = tt
none_equal x (y ∷ ys) e = elim (cases_Bool (same_class x y)) [ inl t ↦ let q = rw t at e in cc | inr f ↦ (f, none_equal x ys (rw f at e)) ]

once_more : (x : ClassId) (xs : List ClassId) → list_any (same_class x) xs ≡ false → IsDistinct same_class xs → IsDistinct same_class (x ∷ xs)
unfolding IsDistinct
once_more x xs e d = (none_equal x xs e, d)

-- a list that lacks x and lies with x within another is shorter
pub length-below : (x : ClassId) (xs ys : List ClassId) → list_any (same_class x) xs ≡ false → IsDistinct same_class xs → ((q : ClassId) → Among q (x ∷ xs) → Among q ys) → length xs < length ys
length-below x xs ys e d h =
    length-le_from_is_member same_class_equiv (x ∷ xs) ys (once_more x xs e d) (λ q m. true_from_among (h q (among_from_true q (x ∷ xs) m)))

-- where a list is longer by one than a list within it that lacks x, it has no other member
pub all_counted : (x : ClassId) (xs ys : List ClassId) → list_any (same_class x) xs ≡ false → IsDistinct same_class xs → Among x ys → ((q : ClassId) → Among q xs → Among q ys) → length xs + 1 ≡ length ys → (y : ClassId) → Among y ys → (y ≡ x) ⊎ Among y xs
all_counted x xs ys e d m h l y k = elim (cases_Bool (list_any (same_class y) (x ∷ xs))) [
  | inl t ↦ either (among_from_true y (x ∷ xs) t)
  | inr f ↦ let b = length-below y (x ∷ xs) ys f (once_more x xs e d) within in absurd (omega (arith, b, l))
]
  where
    either : {z : ClassId} → Among z (x ∷ xs) → (z ≡ x) ⊎ Among z xs
    either first = inl refl
    either (later q) = inr q

    within : (q : ClassId) → Among q (y ∷ x ∷ xs) → Among q ys
    within q first = k
    within q (later first) = m
    within q (later (later r)) = h q r
