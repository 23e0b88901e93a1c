-- Lists of which one element is changed, or that have one more at the end.
use Rattle.std.proofs.Common.{◌≡◌, ◌≢◌, ◌⊎◌, inl, inr, ℕ, zero, suc, ◌==◌, length, List, [], ◌∷◌, ◌++◌, Some, slice_get, set, true, false, refl, ap, append-nil}
use Rattle.std.proofs.lemmas.List.Elements.{filter-append}
use Rattle.hierarchy.specs.declared.class.ClassId.{ClassId}
use Rattle.init_core.specs.declared.event.Event.{Event}
use Rattle.init_core.specs.Interleaving.{of_thread, of_class, is_class}

pub get_set_same : {X : Type 0} (xs : List X) (i : ℕ) (x y : X) → slice_get xs i ≡ Some y → slice_get (set xs i x) i ≡ Some x
get_set_same [] i x y q = cc
get_set_same (z ∷ xs) zero x y q = refl
get_set_same (z ∷ xs) (suc i) x y q = get_set_same xs i x y q

pub get_set_other : {X : Type 0} (xs : List X) (i j : ℕ) (x : X) → i ≢ j → slice_get (set xs i x) j ≡ slice_get xs j
get_set_other [] i j x d = refl
get_set_other (z ∷ xs) zero zero x d = absurd (d refl)
get_set_other (z ∷ xs) zero (suc j) x d = refl
get_set_other (z ∷ xs) (suc i) zero x d = refl
get_set_other (z ∷ xs) (suc i) (suc j) x d = get_set_other xs i j x (λ e. d (ap suc e))

-- what is in a list that got one more was in it before, or is that one
pub get_more : {X : Type 0} (xs : List X) (n : ℕ) (x y : X) → slice_get (xs ++ x ∷ []) n ≡ Some y → (slice_get xs n ≡ Some y) ⊎ ((n ≡ length xs) × (x ≡ y))
get_more [] zero x y q = inr (refl, cc)
get_more [] (suc n) x y q = cc
get_more (z ∷ xs) zero x y q = inl q
get_more (z ∷ xs) (suc n) x y q = at (get_more xs n x y q)
  where
    at : (slice_get xs n ≡ Some y) ⊎ ((n ≡ length xs) × (x ≡ y)) → (slice_get (z ∷ xs) (suc n) ≡ Some y) ⊎ ((suc n ≡ length (z ∷ xs)) × (x ≡ y))
    at (inl h) = inl h
    at (inr h) = inr (ap suc h.0, h.1)

pub not_empty : {X : Type 0} (xs : List X) (x : X) → xs ++ x ∷ [] ≡ [] → ⊥
not_empty [] x q = cc
not_empty (y ∷ xs) x q = cc

module _ (h : List Event) (e : Event) where
  pub thread_same : (t : ℕ) → (e.thread == t) ≡ true → of_thread t (h ++ e ∷ []) ≡ of_thread t h ++ e ∷ []
  thread_same t q = rw (filter-append, q) refl

  pub thread_other : (t : ℕ) → (e.thread == t) ≡ false → of_thread t (h ++ e ∷ []) ≡ of_thread t h
  thread_other t q = rw (filter-append, q) (append-nil (of_thread t h))

  pub class_same : (c : ClassId) → is_class c e.class ≡ true → of_class c (h ++ e ∷ []) ≡ of_class c h ++ e ∷ []
  class_same c q = rw (filter-append, q) refl

  pub class_other : (c : ClassId) → is_class c e.class ≡ false → of_class c (h ++ e ∷ []) ≡ of_class c h
  class_other c q = rw (filter-append, q) (append-nil (of_class c h))
