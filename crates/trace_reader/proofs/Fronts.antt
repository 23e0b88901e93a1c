-- Bytes at the front of others.
use Rattle.std.proofs.Common.{◌≡◌, ℕ, inl, inr, eqb, suc, ap, Bool, false, List, [], ◌∷◌, ◌++◌, Some, None, refl, sym, ◌∙◌, ◌+◌, ◌-◌, ◌<◌, arith}
use Rattle.std.proofs.lemmas.Bool.{cases_Bool}
use Rattle.std.specs.Prelude.{replicate}
use Rattle.std.specs.Str.{bytes_eq}
use Rattle.trace_reader.specs.Prefixes.{behind}

swapped : (a b : ℕ) → eqb a b ≡ eqb b a
swapped a b = grind arith

pub some_behind : (xs ys bytes rest : List ℕ) → Some rest ≡ behind xs bytes → bytes_eq (xs ++ ys) bytes ≡ bytes_eq ys rest
some_behind [] ys bytes rest e = let same : bytes ≡ rest = cc in rw same refl
some_behind (x ∷ xs) ys [] rest e = absurd cc
some_behind (x ∷ xs) ys (b ∷ bs) rest e = elim (cases_Bool (eqb b x)) [
  | inl h ↦ rw (swapped x b, h) (some_behind xs ys bs rest (rw h at e))
  | inr h ↦ absurd (let d = rw h at e in cc)
]

pub none_behind : (xs ys bytes : List ℕ) → None ≡ behind xs bytes → bytes_eq (xs ++ ys) bytes ≡ false
none_behind [] ys bytes e = absurd cc
none_behind (x ∷ xs) ys [] e = refl
none_behind (x ∷ xs) ys (b ∷ bs) e = elim (cases_Bool (eqb b x)) [
  | inl h ↦ rw (swapped x b, h) (none_behind xs ys bs (rw h at e))
  | inr h ↦ rw (swapped x b, h) refl
]

pub some_joined : (xs ys bytes rest : List ℕ) (b : Bool) → Some rest ≡ behind xs bytes → b ≡ bytes_eq ys rest → b ≡ bytes_eq (xs ++ ys) bytes
some_joined xs ys bytes rest b e h = h ∙ sym (some_behind xs ys bytes rest e)

pub none_joined : (xs ys bytes : List ℕ) → None ≡ behind xs bytes → false ≡ bytes_eq (xs ++ ys) bytes
none_joined xs ys bytes e = sym (none_behind xs ys bytes e)

one_more : (n i : ℕ) → i < n → replicate {A = ℕ} (n - i) 91 ≡ 91 ∷ replicate (n - (i + 1)) 91
one_more n i less = let e : n - i ≡ suc (n - (i + 1)) = omega arith in ap (λ (k : ℕ). replicate {A = ℕ} k 91) e

-- a loop over dimensions
pub bracket : (n i : ℕ) (element rest after : List ℕ) (b : Bool) → i < n → Some after ≡ behind (91 ∷ []) rest
    → bytes_eq (replicate (n - i) 91 ++ element) rest ≡ b → bytes_eq (replicate (n - (i + 1)) 91 ++ element) after ≡ b
bracket n i element rest after b less e so_far =
    sym (some_behind (91 ∷ []) (replicate (n - (i + 1)) 91 ++ element) rest after e) ∙ ap (λ (z : List ℕ). bytes_eq (z ++ element) rest) (sym (one_more n i less)) ∙ so_far
