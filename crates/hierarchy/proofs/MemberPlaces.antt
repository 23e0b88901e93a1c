-- Places sorted by the keys of the members there: a member declared twice, and a search by halves.
use Rattle.std.proofs.Common.{◌≡◌, ℕ, zero, suc, ◌+◌, ◌<◌, ◌≤◌, Bool, true, false, inl, inr, Some, None, List, [], ◌∷◌, ◌++◌, length, refl, sym, ap, ◌∙◌, arith, slice_get, slice_index_or, length-append}
use Rattle.std.specs.Prelude.{⊤, ◌||◌, ◌==◌, nat_eq}
use Rattle.std.specs.Bool.{Decides}
use Rattle.std.specs.List.{list_any, All, Contains, IsDistinct, AllAdjacentBelow}
use Rattle.std.specs.List.Sorted.{IsPermutation, IsSortedBy, IsStrictlySortedBy, IsNonDecreasingBy, IsPartitionPoint}
use Rattle.std.specs.Ordering.{is_lt, is_gt, ordering_index, ordering_reverse}
use Rattle.std.specs.declared.cmp.Ordering.{Ordering}
use Rattle.std.specs.declared.cmp.Ordering.TheVariants.{Less, Equal, Greater}
use Rattle.std.proofs.lemmas.Bool.{cases_Bool, cases_order, eqb-true, eq-eqb, true≢false}
use Rattle.std.proofs.lemmas.Cmp.{tied_itself, nat_eq_equiv}
use Rattle.std.proofs.lemmas.List.{get_or_default}
use Rattle.std.proofs.lemmas.List.Sorted.{Contains-permutation, All-permutation, searchable_from_sorted}
use Rattle.std.proofs.lemmas.Map.Keys.{Less-from_sorted, sorted_from_all_adjacent, apart_from_distinct, IsDistinct-push, IsDistinct-IsPermutation}
use Rattle.std.proofs.lemmas.Option.{slice_get_within}
use Rattle.hierarchy.specs.Members.{repeats, first_from}
use Rattle.hierarchy.specs.MemberOrder.{key_cmp, key_in, key_at, place_cmp, AreSortedPlaces}
use Rattle.hierarchy.specs.MemberPlaces.{places_below}
use Rattle.hierarchy.proofs.MemberOrder.{key_total, place_total, one_key}
use Rattle.hierarchy.proofs.DistinctMembers.{not_repeated}
use Rattle.hierarchy.proofs.Positions.{Some_same}

pub next_places : (n : ℕ) → places_below (n + 1) ≡ places_below n ++ n ∷ []
next_places n = let more : n + 1 ≡ suc n = omega arith in ap places_below more

or_none : (a b : Bool) → a ≡ false → b ≡ false → a || b ≡ false
or_none a b e f = rw (e, f) refl

is_less : (o : Ordering) → is_lt o ≡ true → o ≡ Less
is_less Less e = refl
is_less Equal e = absurd cc
is_less Greater e = absurd cc

not_same : (m n : ℕ) → (n < m) → nat_eq m n ≡ false
not_same m n l = elim (cases_Bool (m == n)) [ inl t ↦ absurd (omega (arith, l, eqb-true m n t)) | inr f ↦ f ]

there : {X : Type 0} (xs : List X) (k : ℕ) → k < length xs → (x : X) × (slice_get xs k ≡ Some x)
there [] k l = absurd (omega (arith, l))
there (x ∷ xs) zero l = (x, refl)
there (x ∷ xs) (suc k) l = there xs k (omega (arith, l))

abbrev AllBelow : ℕ → List ℕ → Type 0
AllBelow m [] = ⊤
AllBelow m (x ∷ xs) = (x < m) × AllBelow m xs

-- ---- all places below a number

below-all : (n k : ℕ) → k < n → Contains (places_below n) k
below-all zero k l = absurd (omega (arith, l))
below-all (suc n) k l =
    elim (cases_order k n) [
      | inl e ↦ (length (places_below n), omega (arith, length-append (places_below n) (n ∷ [])), at_end (places_below n) k ∙ sym e)
      | inr (inl b) ↦ left (below-all n k b)
      | inr (inr b) ↦ absurd (omega (arith, b, l))
    ]
  where
    at_end : (xs : List ℕ) (d : ℕ) → slice_index_or (xs ++ n ∷ []) (length xs) d ≡ n
    at_end [] d = refl
    at_end (x ∷ xs) d = at_end xs d

    front : (xs ys : List ℕ) (i d : ℕ) → i < length xs → slice_index_or (xs ++ ys) i d ≡ slice_index_or xs i d
    front [] ys i d l = absurd (omega (arith, l))
    front (x ∷ xs) ys zero d l = refl
    front (x ∷ xs) ys (suc i) d l = front xs ys i d (omega (arith, l))

    left : Contains (places_below n) k → Contains (places_below n ++ n ∷ []) k
    left h = (h.0, omega (arith, h.1, length-append (places_below n) (n ∷ [])), front (places_below n) (n ∷ []) h.0 k h.1 ∙ h.2)

below-within : (n : ℕ) → AllBelow n (places_below n)
below-within n = from n n (omega arith)
  where
    both : (m : ℕ) (xs ys : List ℕ) → AllBelow m xs → AllBelow m ys → AllBelow m (xs ++ ys)
    both m [] ys h g = g
    both m (x ∷ xs) ys h g = (h.0, both m xs ys h.1 g)

    from : (m n : ℕ) → n ≤ m → AllBelow m (places_below n)
    from m zero l = tt
    from m (suc n) l = both m (places_below n) (n ∷ []) (from m n (omega (arith, l))) (omega (arith, l), tt)

none_is : (n m : ℕ) (xs : List ℕ) → AllBelow m xs → m ≤ n → list_any (nat_eq n) xs ≡ false
none_is n m [] h l = refl
none_is n m (x ∷ xs) h l = or_none _ _ (not_same n x (omega (arith, h.0, l))) (none_is n m xs h.1 l)

below-distinct : (n : ℕ) → IsDistinct nat_eq (places_below n)
unfolding IsDistinct
below-distinct zero = tt
below-distinct (suc n) = IsDistinct-push nat_eq_equiv (places_below n) n (below-distinct n) (none_is n n (places_below n) (below-within n) (omega arith))

all_below : (m : ℕ) (xs : List ℕ) → AllBelow m xs → All (λ k. k < m) xs
all_below m (x ∷ xs) h zero d l = h.0
all_below m (x ∷ xs) h (suc k) d l = all_below m xs h.1 k d (omega (arith, l))
all_below m [] h k d l = absurd (omega (arith, l))

-- ---- keys by places

key_is : {X : Type 0} (key : X → List (List ℕ)) (xs : List X) (k : ℕ) (x : X) → slice_get xs k ≡ Some x → key_at key xs k ≡ key x
key_is key xs k x e = ap (key_in key) e

module _ {X : Type 0} (key : X → List (List ℕ)) (xs : List X) (places : List ℕ) where
  apart : IsStrictlySortedBy (place_cmp key xs) places → (a b d : ℕ) → a < b → b < length places → key_at key xs (slice_index_or places a d) ≡ key_at key xs (slice_index_or places b d) → ⊥
  apart s a b d l within e =
      let less = Less-from_sorted (place_cmp key xs) places a b d s l within in
      let tied : place_cmp key xs (slice_index_or places a d) (slice_index_or places b d) ≡ Equal = ap (key_cmp (key_at key xs (slice_index_or places a d))) (sym e) ∙ tied_itself key_total (key_at key xs (slice_index_or places a d)) in
      not_both _ less tied
    where
      not_both : (o : Ordering) → o ≡ Less → o ≡ Equal → ⊥
      not_both o l e = absurd (true≢false (ap is_lt (sym l ∙ e)))

  -- members with equal keys are one
  pub one_member : AreSortedPlaces key xs places → (j k : ℕ) → j < length xs → k < length xs → key_at key xs j ≡ key_at key xs k → j ≡ k
  one_member h j k jl kl e =
      let a = h.all j jl in
      let b = h.all k kl in
      elim (cases_order a.0 b.0) [
        | inl s ↦ sym a.2 ∙ get_or_default places a.0 j k a.1 ∙ ap (λ i. slice_index_or places i k) s ∙ b.2
        | inr (inl l) ↦ absurd (apart h.sorted a.0 b.0 j l b.1 (ap (key_at key xs) a.2 ∙ e ∙ sym (ap (key_at key xs) (get_or_default places b.0 j k b.1 ∙ b.2))))
        | inr (inr l) ↦ absurd (apart h.sorted b.0 a.0 j l a.1 (ap (key_at key xs) (get_or_default places b.0 j k b.1 ∙ b.2) ∙ sym e ∙ sym (ap (key_at key xs) a.2)))
      ]

  rises : IsStrictlySortedBy (place_cmp key xs) places → IsSortedBy (λ j k. is_lt (place_cmp key xs j k)) places
  rises s k d low high = reversed _ _ (Less-from_sorted (place_cmp key xs) places k (k + 1) d s (omega arith) high) ((place_total key xs).antisymm _ _)
    where
      reversed : (o p : Ordering) → o ≡ Less → p ≡ ordering_reverse o → is_lt p ≡ false
      reversed o p e r = ap is_lt (r ∙ ap ordering_reverse e)

-- ---- a member declared twice

any_false : {X : Type 0} (q : X → Bool) (xs : List X) → ((j : ℕ) (y : X) → slice_get xs j ≡ Some y → q y ≡ false) → list_any q xs ≡ false
any_false q [] h = refl
any_false q (x ∷ xs) h = or_none _ _ (h 0 x refl) (any_false q xs (λ j y e. h (suc j) y e))

none_repeated : {X : Type 0} (same : X → X → Bool) (xs : List X) → ((i j : ℕ) (x y : X) → i < j → slice_get xs i ≡ Some x → slice_get xs j ≡ Some y → same x y ≡ false) → repeats same xs ≡ false
none_repeated same [] h = refl
none_repeated same (x ∷ xs) h = or_none _ _ (any_false (same x) xs (λ j y e. h 0 (suc j) x y (omega arith) refl e)) (none_repeated same xs (λ i j y z l e f. h (suc i) (suc j) y z (omega (arith, l)) e f))

module _ {X : Type 0} (key : X → List (List ℕ)) (same : X → X → Bool) (tells : (x y : X) → Decides (same x y) (key x ≡ key y)) (xs : List X) where
  none_twice : (places : List ℕ) → AreSortedPlaces key xs places → repeats same xs ≡ false
  none_twice places h = none_repeated same xs (λ i j x y l e f.
      elim (cases_Bool (same x y)) [
        | inl t ↦ absurd (omega (arith, l, one_member key xs places h i j (slice_get_within xs i x e) (slice_get_within xs j y f) (key_is key xs i x e ∙ (tells x y).0 t ∙ sym (key_is key xs j y f))))
        | inr n ↦ n
      ])

  -- two places of members with equal keys
  twice : (j k : ℕ) → j < length xs → k < length xs → (j ≡ k → ⊥) → key_at key xs j ≡ key_at key xs k → repeats same xs ≡ true
  twice j k jl kl differ e =
      elim (cases_Bool (repeats same xs)) [
        | inl t ↦ t
        | inr n ↦
            let x = there xs j jl in
            let y = there xs k kl in
            let one : key x.0 ≡ key y.0 = sym (key_is key xs j x.0 x.1) ∙ e ∙ key_is key xs k y.0 y.1 in
            elim (cases_order j k) [
              | inl s ↦ absurd (differ s)
              | inr (inl l) ↦ absurd (true≢false (sym ((tells x.0 y.0).1 one) ∙ not_repeated same xs j k x.0 y.0 n x.1 y.1 l))
              | inr (inr l) ↦ absurd (true≢false (sym ((tells y.0 x.0).1 (sym one)) ∙ not_repeated same xs k j y.0 x.0 n y.1 x.1 l))
            ]
      ]

  module _ (places : List ℕ) (moved : IsPermutation (places_below (length xs)) places) where
    -- where each is below the next, no member is declared twice
    pub sorted_places : AllAdjacentBelow (λ j k. true ≡ is_lt (place_cmp key xs j k)) places (length places) → AreSortedPlaces key xs places × (repeats same xs ≡ false)
    sorted_places up =
        let h : AreSortedPlaces key xs places = record {
          sorted = sorted_from_all_adjacent (place_total key xs) places 0 (λ k l. is_less _ (sym (up k 0 l)));
          all = λ k l. Contains-permutation (places_below (length xs)) places k moved (below-all (length xs) k l);
        } in
        (h, none_twice places h)

    -- where one isn't, its member is declared twice
    pub twice_declared : IsSortedBy (λ j k. is_lt (place_cmp key xs j k)) places → (k : ℕ) → k + 1 < length places → ((d : ℕ) → false ≡ is_lt (place_cmp key xs (slice_index_or places k d) (slice_index_or places (k + 1) d))) → repeats same xs ≡ true
    twice_declared up k l not_less =
        let within : All (λ p. p < length xs) places = All-permutation (λ p. p < length xs) (places_below (length xs)) places moved (all_below (length xs) (places_below (length xs)) (below-within (length xs))) in
        let distinct : IsDistinct nat_eq places = IsDistinct-IsPermutation nat_eq nat_eq_equiv.symm (places_below (length xs)) places moved (below-distinct (length xs)) in
        let i = slice_index_or places k 0 in
        let j = slice_index_or places (k + 1) 0 in
        twice i j (within k 0 (omega (arith, l))) (within (k + 1) 0 l)
        (λ e. true≢false (sym (eq-eqb i j e) ∙ apart_from_distinct nat_eq places k (k + 1) 0 distinct (omega arith) l))
        (one_key (key_at key xs i) (key_at key xs j) (neither _ _ (sym (not_less 0)) (up k 0 (omega arith) l) ((place_total key xs).antisymm j i)))
      where
        neither : (o p : Ordering) → is_lt o ≡ false → is_lt p ≡ false → p ≡ ordering_reverse o → o ≡ Equal
        neither Less p a b r = absurd cc
        neither Equal p a b r = refl
        neither Greater p a b r = absurd (true≢false (sym (ap is_lt r) ∙ b))

-- ---- a search by halves

first_is : {X D : Type 0} (is : X → Bool) (made : ℕ → X → D) (n k : ℕ) (xs : List X) (x : X) → slice_get xs k ≡ Some x → is x ≡ true → ((j : ℕ) (y : X) → j < k → slice_get xs j ≡ Some y → is y ≡ false) → first_from is made n xs ≡ Some (made (n + k) x)
first_is is made n k [] x e t h = absurd cc
first_is is made n zero (y ∷ ys) x e t h =
    let s : y ≡ x = Some_same e in
    let p : is y ≡ true = ap is s ∙ t in
    let z : n ≡ n + 0 = omega arith in
    rw p (ap (λ m. Some (made m y)) z ∙ ap (λ w. Some (made (n + 0) w)) s)
first_is is made n (suc k) (y ∷ ys) x e t h =
    let z : n + 1 + k ≡ n + suc k = omega arith in
    rw (h 0 y (omega arith) refl) (first_is is made (n + 1) k ys x e t (λ j w l f. h (suc j) w (omega (arith, l)) f) ∙ ap (λ m. Some (made m x)) z)

none_is_found : {X D : Type 0} (is : X → Bool) (made : ℕ → X → D) (n : ℕ) (xs : List X) → ((j : ℕ) (y : X) → slice_get xs j ≡ Some y → is y ≡ false) → first_from is made n xs ≡ None
none_is_found is made n [] h = refl
none_is_found is made n (x ∷ xs) h = rw (h 0 x refl) (none_is_found is made (n + 1) xs (λ j y e. h (suc j) y e))

module _ {X : Type 0} (key : X → List (List ℕ)) (xs : List X) (places : List ℕ) (h : AreSortedPlaces key xs places) (wanted : List (List ℕ)) (is : X → Bool) (tells : (x : X) → Decides (is x) (key x ≡ wanted)) where
  -- the premise of the search
  pub searchable : IsNonDecreasingBy (λ k. ordering_index (key_cmp (key_at key xs k) wanted)) places
  searchable = searchable_from_sorted key_total (key_at key xs) places wanted (rises key xs places h.sorted)

  pub found_first : {D : Type 0} (made : ℕ → X → D) (k : ℕ) (x : X) → slice_get xs k ≡ Some x → key_cmp (key_at key xs k) wanted ≡ Equal → first_from is made 0 xs ≡ Some (made k x)
  found_first made k x e q =
      let same : key_at key xs k ≡ wanted = one_key (key_at key xs k) wanted q in
      let passes : is x ≡ true = (tells x).1 (sym (key_is key xs k x e) ∙ same) in
      let z : 0 + k ≡ k = omega arith in
      first_is is made 0 k xs x e passes (λ j y l f.
      elim (cases_Bool (is y)) [
        | inl t ↦ absurd (omega (arith, l, one_member key xs places h j k (slice_get_within xs j y f) (slice_get_within xs k x e) (key_is key xs j y f ∙ (tells y).0 t ∙ sym same)))
        | inr n ↦ n
      ]) ∙ ap (λ m. Some (made m x)) z

  pub found_none : {D : Type 0} (made : ℕ → X → D) (i : ℕ) → IsPartitionPoint (λ k. key_cmp (key_at key xs k) wanted ≡ Less) (λ k. key_cmp (key_at key xs k) wanted ≡ Greater) places i → first_from is made 0 xs ≡ None
  found_none made i parts = none_is_found is made 0 xs (λ j y f.
      elim (cases_Bool (is y)) [
        | inl t ↦
            let a = h.all j (slice_get_within xs j y f) in
            let equal : key_cmp (key_at key xs (slice_index_or places a.0 j)) wanted ≡ Equal =
            ap (λ k. key_cmp (key_at key xs k) wanted) a.2 ∙ ap (λ z. key_cmp z wanted) (key_is key xs j y f ∙ (tells y).0 t) ∙ tied_itself key_total wanted in
            elim (cases_order a.0 i) [
              | inl s ↦ absurd (not_greater _ equal (parts.1 a.0 j (omega (arith, s)) a.1))
              | inr (inl l) ↦ absurd (not_less _ equal (parts.0 a.0 j (omega arith) l))
              | inr (inr l) ↦ absurd (not_greater _ equal (parts.1 a.0 j (omega (arith, l)) a.1))
            ]
        | inr n ↦ n
      ])
    where
      not_less : (o : Ordering) → o ≡ Equal → o ≡ Less → ⊥
      not_less o e l = absurd (true≢false (ap is_lt (sym l ∙ e)))

      not_greater : (o : Ordering) → o ≡ Equal → o ≡ Greater → ⊥
      not_greater o e g = absurd (true≢false (ap is_gt (sym g ∙ e)))

-- the member at a place that is found is there
pub not_beyond : {X : Type 0} (key : X → List (List ℕ)) (xs : List X) (k : ℕ) (name : List ℕ) (rest : List (List ℕ)) → slice_get xs k ≡ None → key_cmp (key_at key xs k) (name ∷ rest) ≡ Equal → ⊥
not_beyond key xs k name rest e q = absurd (true≢false (ap is_lt (ap (λ o. key_cmp (key_in key o) (name ∷ rest)) (sym e) ∙ q)))
