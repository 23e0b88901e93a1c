-- Where no class of the files is on a cycle each way up ends, and the other way round.
use Rattle.std.proofs.Common.{◌≡◌, ℕ, zero, suc, ◌+◌, ◌-◌, ◌*◌, ◌<◌, ◌≤◌, true, false, ◌⊎◌, inl, inr, Option, Some, None, List, [], ◌∷◌, ◌++◌, length, refl, sym, ap, subst, ◌∙◌, arith, slice_get}
use Rattle.std.proofs.lemmas.Bool.{cases_lt}
use Rattle.hierarchy.specs.declared.class.ClassId.{ClassId}
use Rattle.hierarchy.specs.declared.built_in.BuiltIn.{BuiltIn}
use Rattle.hierarchy.specs.declared.built_in.TheConstants.{BUILT_IN_COUNT}
use Rattle.hierarchy.specs.BuiltIn.{number_of, superclass_of_built_in, built_ins}
use Rattle.hierarchy.specs.declared.class.Class.{Class}
use Rattle.hierarchy.specs.LinkedProgram.{built_in_after, id}
use Rattle.hierarchy.specs.ClassLists.{Among, first, later, Every, is_among}
use Rattle.hierarchy.specs.Hierarchy.{supers, supers_in, supers_of_built_in, built_in_list, Reaches, direct, further, IsCyclic, IsInRange, AreSupertypes, IsFirstCyclic, IsWithin, most_steps, height, IsAcyclic}
use Rattle.hierarchy.proofs.ClassMembership.{among_from_true, true_from_among, every_at, every_from}
use Rattle.hierarchy.proofs.Counts.{length-in_range, length-below}
use Rattle.hierarchy.proofs.BuiltIns.{number-small, at-number, superclass-falls}
use Rattle.hierarchy.proofs.Searches.{reaches_on, in_range}

-- a class that is on no cycle, with its supertypes
pub record IsClear (classes : List Class) (c : ClassId) : Type 0 where
  pub found : List ClassId
  pub are : AreSupertypes classes c found
  pub clear : is_among c found ≡ false

pub clear_not_cyclic : (classes : List Class) (c : ClassId) → IsClear classes c → IsCyclic classes c → ⊥
clear_not_cyclic classes c a r = let t = true_from_among (a.are.complete c r) in let f = a.clear in cc

size-bound : (classes : List Class) (c : ClassId) → IsInRange classes → (found : List ClassId) → AreSupertypes classes c found → length found ≤ length classes + BUILT_IN_COUNT
size-bound classes c r found a = length-in_range found (length classes + BUILT_IN_COUNT) a.once (λ q e. in_range classes r (a.sound q e))

-- a supertype has fewer supertypes
size-falls : (classes : List Class) (c d : ClassId) (a : IsClear classes c) (b : IsClear classes d) → Among d (supers classes c) → length b.found < length a.found
size-falls classes c d a b h = length-below d b.found a.found b.clear b.are.once (λ q m. a.are.complete q (above q m))
  where
    above : (q : ClassId) → Among q (d ∷ b.found) → Reaches classes c q
    above q first = direct h
    above q (later k) = reaches_on (direct h) (b.are.sound q k)

pub get-past : {X : Type 0} (xs : List X) (i : ℕ) → length xs ≤ i → slice_get xs i ≡ None
get-past [] i h = refl
get-past (x ∷ xs) zero h = absurd (omega (arith, h))
get-past (x ∷ xs) (suc i) h = get-past xs i (omega (arith, h))

-- past the files' classes there are the built-in ones
pub supers-past : (classes : List Class) (c : ClassId) → length classes ≤ c.number → supers classes c ≡ supers_of_built_in classes (slice_get built_ins (c.number - length classes))
supers-past classes c h = ap (λ o. supers_in classes o (slice_get built_ins (c.number - length classes))) (get-past classes c.number h)

pub supers-built_in : (classes : List Class) (b : BuiltIn) → supers classes (built_in_after classes b) ≡ built_in_list classes (superclass_of_built_in b)
supers-built_in classes b =
    let same : (length classes + number_of b) - length classes ≡ number_of b = omega arith in
    supers-past classes (built_in_after classes b) (omega arith) ∙ ap (λ k. supers_of_built_in classes (slice_get built_ins k)) same ∙ ap (supers_of_built_in classes) (at-number b)

list_within : (classes : List Class) (h : ℕ) (o : Option BuiltIn) → ((s : BuiltIn) → o ≡ Some s → IsWithin h classes (built_in_after classes s)) → Every (IsWithin h classes) (built_in_list classes o)
list_within classes h None f = tt
list_within classes h (Some s) f = (f s refl, tt)

built_in_within : (classes : List Class) (h : ℕ) (b : BuiltIn) → number_of b ≤ h → IsWithin (suc h) classes (built_in_after classes b)
built_in_within classes zero b k =
    subst (Every (IsWithin zero classes)) (sym (supers-built_in classes b)) (list_within classes zero (superclass_of_built_in b) (λ s e. absurd (omega (arith, superclass-falls b s e, k))))
built_in_within classes (suc h) b k =
    subst (Every (IsWithin (suc h) classes)) (sym (supers-built_in classes b)) (list_within classes (suc h) (superclass_of_built_in b) (λ s e. built_in_within classes h s (omega (arith, superclass-falls b s e, k))))

past_list : (classes : List Class) (h : ℕ) (o : Option BuiltIn) → BUILT_IN_COUNT ≤ suc h → Every (IsWithin (suc h) classes) (supers_of_built_in classes o)
past_list classes h None k = tt
past_list classes h (Some b) k = list_within classes (suc h) (superclass_of_built_in b) (λ s e. built_in_within classes h s (omega (arith, superclass-falls b s e, number-small b, k)))

-- the ways up from a class that isn't the files' end
pub past_within : (classes : List Class) (h : ℕ) (c : ClassId) → length classes ≤ c.number → BUILT_IN_COUNT ≤ suc h → IsWithin (suc (suc h)) classes c
past_within classes h c l k = subst (Every (IsWithin (suc h) classes)) (sym (supers-past classes c l)) (past_list classes h (slice_get built_ins (c.number - length classes)) k)

within_size : (classes : List Class) → ((n : ℕ) → n < length classes → IsClear classes (id n)) → (h : ℕ) (c : ClassId) (a : IsClear classes c) → length a.found + suc BUILT_IN_COUNT ≤ h → IsWithin (suc h) classes c
within_size classes all zero c a k = absurd (omega (arith, k))
within_size classes all (suc zero) c a k = absurd (omega (arith, k))
within_size classes all (suc (suc h)) c a k =
    every_from (IsWithin (suc (suc h)) classes) (supers classes c)
    (λ d m. elim (cases_lt d.number (length classes)) [
      | inl l ↦ let b : IsClear classes d = all d.number l in within_size classes all (suc h) d b (omega (arith, size-falls classes c d a b m, k))
      | inr l ↦ past_within classes h d l (omega (arith, k))
    ])

pub acyclic_all : (classes : List Class) → IsInRange classes → ((n : ℕ) → n < length classes → IsClear classes (id n)) → IsAcyclic classes
acyclic_all classes r all c =
    elim (cases_lt c.number (length classes)) [
      | inl l ↦ let a : IsClear classes c = all c.number l in within_size classes all (most_steps classes) c a (omega (arith, size-bound classes c r a.found a.are))
      | inr l ↦
          let e : suc (suc (length classes + 2 * BUILT_IN_COUNT)) ≡ height classes = omega arith in
          subst (λ h. IsWithin h classes c) e (past_within classes (length classes + 2 * BUILT_IN_COUNT) c l (omega arith))
    ]

-- a class from which each way up ends is on no cycle
pub within_not_cyclic : (classes : List Class) (h : ℕ) (c : ClassId) → IsWithin h classes c → Reaches classes c c → ⊥
within_not_cyclic classes zero c w r = w
within_not_cyclic classes (suc h) c w (direct m) = within_not_cyclic classes h c (every_at (IsWithin h classes) w m) (direct m)
within_not_cyclic classes (suc h) c w (further {d = d} m q) = within_not_cyclic classes h d (every_at (IsWithin h classes) w m) (reaches_on q (direct m))

-- where each way up ends, no class is on a cycle
pub not_cyclic : (classes : List Class) → IsAcyclic classes → (c : ClassId) → IsCyclic classes c → ⊥
not_cyclic classes a c r = within_not_cyclic classes (height classes) c (a c) r

pub get-within : {X : Type 0} (xs : List X) (k : ℕ) → k < length xs → (x : X) × (slice_get xs k ≡ Some x)
get-within [] k h = absurd (omega (arith, h))
get-within (x ∷ xs) zero h = (x, refl)
get-within (x ∷ xs) (suc k) h = get-within xs k (omega (arith, h))

pub get-pushed : {X : Type 0} (xs : List X) (x : X) (k : ℕ) (y : X) → slice_get (xs ++ x ∷ []) k ≡ Some y → (slice_get xs k ≡ Some y) ⊎ ((k ≡ length xs) × (y ≡ x))
get-pushed [] x zero y e = inr (refl, cc)
get-pushed [] x (suc k) y e = absurd cc
get-pushed (z ∷ xs) x zero y e = inl e
get-pushed (z ∷ xs) x (suc k) y e = elim (get-pushed xs x k y e) [ inl l ↦ inl l | inr r ↦ inr (ap suc r.0, r.1) ]

-- the first classes are on no cycle
abbrev pub AreClear : List Class → ℕ → Type 0
AreClear classes count = (n : ℕ) → n < count → IsClear classes (id n)

pub first_from_clear : (classes : List Class) (n : ℕ) (found : List ClassId) → n < length classes → AreClear classes n → AreSupertypes classes (id n) found → is_among (id n) found ≡ true → IsFirstCyclic classes n
first_from_clear classes n found h s a e = record {
  within = h;
  cyclic = a.sound (id n) (among_from_true (id n) found e);
  first = λ m l. clear_not_cyclic classes (id m) (s m l);
}

pub clear_more : (classes : List Class) (n : ℕ) (found : List ClassId) → AreClear classes n → AreSupertypes classes (id n) found → is_among (id n) found ≡ false → AreClear classes (n + 1)
clear_more classes n found s a f m h = elim (cases_lt m n) [
  | inl l ↦ s m l
  | inr l ↦ let same : n ≡ m = omega (arith, l, h) in subst (λ z. IsClear classes (id z)) same (record { found = found; are = a; clear = f })
]
