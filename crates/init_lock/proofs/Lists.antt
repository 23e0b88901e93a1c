-- Lists that change at one place, and lists that are mapped.
use Rattle.std.proofs.Common.{◌≡◌, ◌≢◌, ℕ, suc, ◌+◌, ◌<◌, ◌⊎◌, inl, inr, ⊎_elim, List, [], ◌∷◌, ◌++◌, Bool, true, false, Option as Opt, Some, None, length, replicate, map, set, get_or, refl, sym, ap, ◌∙◌, arith, append-nil, length-append, get_or-set_other}
use mathlib.Core.Logic.{dite}
use mathlib.Core.Option.{some, some-injective, some-ne-none}
use native.Mathlib.Decide.{ℕ_discrete}
use lib.ListN.{get_elem?}
use Rattle.init_lock.specs.Rule.{element_at}
use Rattle.init_lock.specs.Steps.{modify}

pub length_snoc : {A : Type 0} (l : List A) (x : A) → length (l ++ x ∷ []) ≡ suc (length l)
length_snoc l x = omega (arith, length-append l (x ∷ []))

pub low_index : {A B : Type 0} (l : List A) (m : List B) (n : ℕ) → length l ≡ length m → n < length m → n < length l
low_index l m n e h = omega arith

pub none_some : {A : Type 0} {a : A} → None ≡ Some a → ⊥
none_some {A} {a} e = let h : Some a ≡ None = sym e in cc

pub not_true : (b : Bool) → b ≡ false → b ≢ true
not_true true f t = cc
not_true false f t = cc

abbrev or_this : {A : Type 0} → A → Opt A → A
or_this y (Some z) = z
or_this y None = y

pub said_is : {A : Type 0} (y z : A) → Some y ≡ Some z → y ≡ z
said_is y z e = ap (or_this y) e

module _ {A : Type 0} where
  pub at_modify : (l : List A) (i j : ℕ) (f : A → A) (b : A) → get_elem? (modify i f l) j ≡ some b → ((j ≡ i) × (a : A) × (get_elem? l i ≡ some a) × (f a ≡ b)) ⊎ ((j ≢ i) × (get_elem? l j ≡ some b))
  at_modify [] i j f b e = absurd (some-ne-none b (sym e))
  at_modify (x ∷ xs) Prim.Native.Nat.zero Prim.Native.Nat.zero f b e = inl (refl, x, refl, some-injective (f x) b e)
  at_modify (x ∷ xs) Prim.Native.Nat.zero (suc j) f b e = inr ((λ h. omega arith), e)
  at_modify (x ∷ xs) (suc i) Prim.Native.Nat.zero f b e = inr ((λ h. omega arith), e)
  at_modify (x ∷ xs) (suc i) (suc j) f b e = ⊎_elim (λ t. inl (ap suc t.0, t.1, t.2, t.3)) (λ t. let n = t.0 in inr ((λ h. n (omega arith)), t.1)) (at_modify xs i j f b e)

  pub length-modify : (l : List A) (i : ℕ) (f : A → A) → length (modify i f l) ≡ length l
  length-modify [] i f = refl
  length-modify (x ∷ xs) Prim.Native.Nat.zero f = refl
  length-modify (x ∷ xs) (suc i) f = ap suc (length-modify xs i f)

  -- the element at i of the changed list
  pub modified : (l : List A) (i : ℕ) (f : A → A) (b : A) → get_elem? (modify i f l) i ≡ some b → (a : A) × (get_elem? l i ≡ some a) × (f a ≡ b)
  modified l i f b e = ⊎_elim (λ t. (t.1, t.2, t.3)) (λ t. absurd (t.0 refl)) (at_modify l i i f b e)

  pub unmodified : (l : List A) (i j : ℕ) (f : A → A) (b : A) → j ≢ i → get_elem? (modify i f l) j ≡ some b → get_elem? l j ≡ some b
  unmodified l i j f b ne e = ⊎_elim (λ t. absurd (ne t.0)) (λ t. t.1) (at_modify l i j f b e)

  pub some_at : (l : List A) (n : ℕ) → n < length l → (a : A) × (get_elem? l n ≡ some a)
  some_at [] n h = absurd (omega arith)
  some_at (x ∷ xs) Prim.Native.Nat.zero h = (x, refl)
  some_at (x ∷ xs) (suc n) h = some_at xs n (omega arith)

  pub at_low : (l : List A) (n : ℕ) (a : A) → get_elem? l n ≡ some a → n < length l
  at_low [] n a e = absurd (some-ne-none a (sym e))
  at_low (x ∷ xs) Prim.Native.Nat.zero a e = omega arith
  at_low (x ∷ xs) (suc n) a e = let h = at_low xs n a e in omega arith

  pub modify_here : (l : List A) (n : ℕ) (f : A → A) (a : A) → get_elem? l n ≡ some a → get_elem? (modify n f l) n ≡ some (f a)
  modify_here [] n f a e = absurd (some-ne-none a (sym e))
  modify_here (x ∷ xs) Prim.Native.Nat.zero f a e = ap (λ (z : A). some (f z)) (some-injective x a e)
  modify_here (x ∷ xs) (suc n) f a e = modify_here xs n f a e

  pub modify_twice : (l : List A) (n : ℕ) (f g : A → A) → modify n g (modify n f l) ≡ modify n (λ x. g (f x)) l
  modify_twice [] n f g = refl
  modify_twice (x ∷ xs) Prim.Native.Nat.zero f g = refl
  modify_twice (x ∷ xs) (suc n) f g = ap (λ (z : List A). x ∷ z) (modify_twice xs n f g)

  pub got_or : (l : List A) (n : ℕ) (a d : A) → get_elem? l n ≡ some a → get_or l n d ≡ a
  got_or [] n a d e = absurd (some-ne-none a (sym e))
  got_or (x ∷ xs) Prim.Native.Nat.zero a d e = some-injective x a e
  got_or (x ∷ xs) (suc n) a d e = got_or xs n a d e

  -- the two ways to look up a place say the same
  pub element_there : (l : List A) (n : ℕ) (a : A) → element_at n l ≡ Some a → get_elem? l n ≡ some a
  element_there [] n a e = absurd (none_some e)
  element_there (x ∷ xs) Prim.Native.Nat.zero a e = ap some (said_is x a e)
  element_there (x ∷ xs) (suc n) a e = element_there xs n a e

  pub there_element : (l : List A) (n : ℕ) (a : A) → get_elem? l n ≡ some a → element_at n l ≡ Some a
  there_element [] n a e = absurd (some-ne-none a (sym e))
  there_element (x ∷ xs) Prim.Native.Nat.zero a e = ap Some (some-injective x a e)
  there_element (x ∷ xs) (suc n) a e = there_element xs n a e

module _ {A B : Type 0} where
  pub from_map : (f : A → B) (l : List A) (n : ℕ) (b : B) → get_elem? (map f l) n ≡ some b → (a : A) × (get_elem? l n ≡ some a) × (f a ≡ b)
  from_map f [] n b e = absurd (some-ne-none b (sym e))
  from_map f (x ∷ xs) Prim.Native.Nat.zero b e = (x, refl, some-injective (f x) b e)
  from_map f (x ∷ xs) (suc n) b e = from_map f xs n b e

  pub length_map : (f : A → B) (l : List A) → length (map f l) ≡ length l
  length_map f [] = refl
  length_map f (x ∷ xs) = ap suc (length_map f xs)

  pub map_snoc : (f : A → B) (l : List A) (x : A) → map f (l ++ x ∷ []) ≡ map f l ++ f x ∷ []
  map_snoc f [] x = refl
  map_snoc f (y ∷ ys) x = ap (λ (z : List B). f y ∷ z) (map_snoc f ys x)

false_here : (fs : List Bool) (i : ℕ) → get_or (set fs i false) i false ≡ false
false_here [] i = refl
false_here (x ∷ xs) Prim.Native.Nat.zero = refl
false_here (x ∷ xs) (suc i) = false_here xs i

pub cleared : (fs : List Bool) (i : ℕ) → ((k : ℕ) → k < i → get_or fs k false ≡ false) → (k : ℕ) → k < i + 1 → get_or (set fs i false) k false ≡ false
cleared fs i h k l = dite (ℕ_discrete k i) (λ same. ap (λ (z : ℕ). get_or (set fs i false) z false) same ∙ false_here fs i) (λ other. get_or-set_other fs i k false false other ∙ h k (omega arith))

zero_at : (n i : ℕ) → get_or {A = ℕ} (replicate n 0) i 0 ≡ 0
zero_at Prim.Native.Nat.zero i = refl
zero_at (suc n) Prim.Native.Nat.zero = refl
zero_at (suc n) (suc i) = zero_at n i

pub zeros : (n : ℕ) (xs : List ℕ) → xs ≡ replicate n 0 → (i : ℕ) → get_or xs i 0 ≡ 0
zeros n xs e i = ap (λ (z : List ℕ). get_or z i 0) e ∙ zero_at n i

-- nothing is left of a list of which so much was given
pub all_given : {A : Type 0} (given left all : List A) (n : ℕ) → given ++ left ≡ all → n ≡ length left → n ≡ 0 → given ≡ all
all_given given [] all n e l none = sym (append-nil given) ∙ e
all_given given (x ∷ xs) all n e l none = absurd (omega arith)
