-- What holds of each item, its place known, holds still where one more is pushed.
use Rattle.std.proofs.Common.{ℕ, zero, suc, ◌<◌, List, [], ◌∷◌, ◌++◌, length, arith}
use Rattle.std.specs.Prelude.{slice_index_or}

pub each_more : {X : Type 0} (P : ℕ → X → Type 0) (xs : List X) (x : X) → ((n : ℕ) (d : X) → n < length xs → P n (slice_index_or xs n d)) →
    P (length xs) x → (n : ℕ) (d : X) → n < length (xs ++ x ∷ []) → P n (slice_index_or (xs ++ x ∷ []) n d)
each_more P [] x before here zero d l = here
each_more P [] x before here (suc n) d l = absurd (omega arith)
each_more P (y ∷ ys) x before here zero d l = before zero d (omega arith)
each_more P (y ∷ ys) x before here (suc n) d l =
    each_more (λ k. P (suc k)) ys x (λ k e i. before (suc k) e (omega arith)) here n d (omega arith)
