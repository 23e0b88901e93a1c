-- Lists by their indices.
use Rattle.std.proofs.Common.{◌≡◌, ℕ, suc, ◌<◌, List, [], ◌∷◌, ◌++◌, length, get_or, Some, refl, sym, ap, ◌∙◌, ⊎_elim, arith, length-append}
use Rattle.std.specs.List.{slice_get}
use Rattle.std.proofs.lemmas.Bool.{cases_lt}
use Rattle.std.proofs.lemmas.List.{get_or_append_left, get_or_at}
use Rattle.std.proofs.lemmas.Option.{slice_get-get_or}
use Rattle.event_rows.specs.Rows.{first}

module _ {X : Type 0} where
  pub length_first : (n : ℕ) (f : ℕ → X) → length (first n f) ≡ n
  length_first Prim.Native.Nat.zero f = refl
  length_first (suc n) f = let there = length_first n f in let joined = length-append (first n f) (f n ∷ []) in omega arith

  pub first_same : (n : ℕ) (f g : ℕ → X) → ((i : ℕ) → i < n → f i ≡ g i) → first n f ≡ first n g
  first_same Prim.Native.Nat.zero f g h = refl
  first_same (suc n) f g h =
      let there = first_same n f g (λ i low. h i (omega arith)) in
      let here = h n (omega arith) in
      cc

  pub at_first : (n : ℕ) (f : ℕ → X) (i : ℕ) (d : X) → i < n → get_or (first n f) i d ≡ f i
  at_first Prim.Native.Nat.zero f i d h = absurd (omega arith)
  at_first (suc n) f i d h =
      let long = length_first n f in
      ⊎_elim
      (λ low. get_or_append_left (first n f) (f n ∷ []) d i (omega arith) ∙ at_first n f i d low)
      (λ high. let same : i ≡ n = omega arith in get_or_at (first n f) (f n) [] d i (omega arith) ∙ ap f (sym same))
      (cases_lt i n)

  pub got_first : (n : ℕ) (f : ℕ → X) (i : ℕ) → i < n → slice_get (first n f) i ≡ Some (f i)
  got_first n f i h =
      let long = length_first n f in
      slice_get-get_or (first n f) i (f i) (omega arith) ∙ ap Some (at_first n f i (f i) h)
