-- The first element that passes a test.
use Rattle.std.proofs.Common.{◌≡◌, ℕ, zero, suc, ◌+◌, Bool, true, false, cond, ◌&&◌, not, inl, inr, Some, None, List, [], ◌∷◌, length, take, slice_get, refl, ap, ◌∙◌, subst, arith}
use Rattle.std.proofs.lemmas.Bool.{cases_Bool, or_parts}
use Rattle.std.proofs.lemmas.Iterator.Adapters.{position_from-zero}
use Rattle.std.specs.List.{filter, list_any, position, position_from}
use Rattle.std.specs.Str.{bytes_eq}
use Rattle.hierarchy.specs.BuiltIn.{place_from}

pub Some_same : {X : Type 0} {x y : X} → Some x ≡ Some y → x ≡ y
Some_same e = cc

pub any-at : {X : Type 0} (q : X → Bool) (xs : List X) (i : ℕ) (x : X) → list_any q xs ≡ false → slice_get xs i ≡ Some x → q x ≡ false
any-at q [] i x n e = absurd cc
any-at q (y ∷ ys) zero x n e = subst (λ z. q z ≡ false) (Some_same e) (or_parts (q y) (list_any q ys) n).0
any-at q (y ∷ ys) (suc i) x n e = any-at q ys i x (or_parts (q y) (list_any q ys) n).1 e

-- what passes, where none before it does, is found
first_passing : {X : Type 0} (q : X → Bool) (k : ℕ) (xs : List X) (i : ℕ) (x : X) → slice_get xs i ≡ Some x → q x ≡ true → list_any q (take i xs) ≡ false → position_from q k xs ≡ Some (k + i)
first_passing q k [] i x e t n = absurd cc
first_passing q k (y ∷ ys) zero x e t n =
    let s : y ≡ x = Some_same e in
    let h : q y ≡ true = ap q s ∙ t in
    let z : k ≡ k + 0 = omega arith in
    rw h (ap Some z)
first_passing q k (y ∷ ys) (suc i) x e t n =
    let r = or_parts (q y) (list_any q (take i ys)) n in
    let z : k + 1 + i ≡ k + suc i = omega arith in
    rw r.0 (first_passing q (k + 1) ys i x e t r.1 ∙ ap Some z)

pub first_place : {X : Type 0} (q : X → Bool) (xs : List X) (i : ℕ) (x : X) → slice_get xs i ≡ Some x → q x ≡ true → list_any q (take i xs) ≡ false → position_from q 0 xs ≡ Some i
first_place q xs i x e t n = let z : 0 + i ≡ i = omega arith in first_passing q 0 xs i x e t n ∙ ap Some z

-- what is found passes
pub record Passes {X : Type 0} (q : X → Bool) (k : ℕ) (xs : List X) (n : ℕ) : Type 0 where
  pub place : ℕ
  pub at : X
  pub is : n ≡ k + place
  pub there : slice_get xs place ≡ Some at
  pub passes : q at ≡ true

pub found_passes : {X : Type 0} (q : X → Bool) (k : ℕ) (xs : List X) (n : ℕ) → position_from q k xs ≡ Some n → Passes q k xs n
found_passes q k [] n e = absurd cc
found_passes q k (y ∷ ys) n e =
    elim (cases_Bool (q y)) [
      | inl t ↦ let s : k ≡ n = Some_same (rw t at e) in record { place = 0; at = y; is = omega (arith, s); there = refl; passes = t }
      | inr f ↦ let r = found_passes q (k + 1) ys n (rw f at e) in record { place = suc r.place; at = r.at; is = omega (arith, r.is); there = r.there; passes = r.passes }
    ]

pub none_found : {X : Type 0} (q : X → Bool) (k : ℕ) (xs : List X) (i : ℕ) (x : X) → position_from q k xs ≡ None → slice_get xs i ≡ Some x → q x ≡ false
none_found q k [] i x n e = absurd cc
none_found q k (y ∷ ys) zero x n e =
    elim (cases_Bool (q y)) [ inl t ↦ let s = rw t at n in absurd cc | inr f ↦ subst (λ z. q z ≡ false) (Some_same e) f ]
none_found q k (y ∷ ys) (suc i) x n e =
    elim (cases_Bool (q y)) [ inl t ↦ let s = rw t at n in absurd cc | inr f ↦ none_found q (k + 1) ys i x (rw f at n) e ]

-- where none passes none is found
pub none_at : {X : Type 0} (q : X → Bool) (k : ℕ) (xs : List X) → list_any q xs ≡ false → position_from q k xs ≡ None
none_at q k [] e = refl
none_at q k (x ∷ xs) e =
    let p = or_parts (q x) (list_any q xs) e in
    rw p.0 (none_at q (k + 1) xs p.1)

pub position_by_steps : {X : Type 0} (q : X → Bool) (xs : List X) → position q xs ≡ position_from q 0 xs
position_by_steps q xs = position_from-zero q xs

pub place_by_steps : (k : ℕ) (names : List (List ℕ)) (name : List ℕ) → place_from k names name ≡ position_from (λ other. bytes_eq other name) k names
place_by_steps k [] name = refl
place_by_steps k (n ∷ ns) name = ap (cond (bytes_eq n name) (Some k)) (place_by_steps (k + 1) ns name)

-- whether no text occurs twice
abbrev pub are_different : List (List ℕ) → Bool
are_different [] = true
are_different (n ∷ ns) = not (list_any (bytes_eq n) ns) && are_different ns

-- what passes comes, among those that pass, after those that do before it
pub filtered_there : {X : Type 0} (q : X → Bool) (xs : List X) (place : ℕ) (x : X) → slice_get xs place ≡ Some x → q x ≡ true → slice_get (filter q xs) (length (filter q (take place xs))) ≡ Some x
filtered_there q [] place x e t = absurd cc
filtered_there q (y ∷ ys) zero x e t = let same : y ≡ x = cc in let own : q y ≡ true = ap q same ∙ t in rw own (ap Some same)
filtered_there q (y ∷ ys) (suc place) x e t =
    let r = filtered_there q ys place x e t in
    elim (cases_Bool (q y)) [ inl own ↦ rw own r | inr own ↦ rw own r ]
