-- Constants given one after the other.
use Rattle.std.proofs.Common.{◌≡◌, ℕ, zero, suc, ◌<◌, List, [], ◌∷◌, length, refl, ap, arith, get_or, set}
use Rattle.hierarchy.specs.declared.value.Value.{Value}
use Rattle.statics.specs.declared.static_field.StaticField.{StaticField}
use Rattle.statics.specs.Statics.{with_constant, with_constants}

-- the first of these fields have got their constants
abbrev pub first_given : ℕ → List StaticField → List Value → List Value
first_given zero fs vs = vs
first_given (suc k) (f ∷ fs) (v ∷ vs) = with_constant f v ∷ first_given k fs vs
first_given (suc k) fs vs = vs

pub given_next : (fs : List StaticField) (vs : List Value) (k : ℕ) (f : StaticField) (v : Value) → length fs ≡ length vs → k < length vs → set (first_given k fs vs) k (with_constant (get_or fs k f) (get_or (first_given k fs vs) k v)) ≡ first_given (suc k) fs vs
given_next fs [] k f v s l = absurd (omega (arith, l))
given_next [] (w ∷ vs) k f v s l = absurd (omega (arith, s))
given_next (x ∷ fs) (w ∷ vs) zero f v s l = refl
given_next (x ∷ fs) (w ∷ vs) (suc k) f v s l = ap (λ z. with_constant x w ∷ z) (given_next fs vs k f v (omega (arith, s)) (omega (arith, l)))

-- when each has got its constant, all have
pub all_given : (fs : List StaticField) (vs : List Value) (n : ℕ) → n ≡ length vs → length fs ≡ length vs → first_given n fs vs ≡ with_constants fs vs
all_given [] [] n e s = rw e refl
all_given [] (v ∷ vs) n e s = absurd (omega (arith, s))
all_given (f ∷ fs) [] n e s = absurd (omega (arith, s))
all_given (f ∷ fs) (v ∷ vs) zero e s = absurd (omega (arith, e))
all_given (f ∷ fs) (v ∷ vs) (suc n) e s = ap (λ z. with_constant f v ∷ z) (all_given fs vs n (omega (arith, e)) (omega (arith, s)))
