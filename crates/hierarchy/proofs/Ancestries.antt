-- Ancestries, where each way up ends.
use Rattle.std.proofs.Common.{◌≡◌, ℕ, zero, suc, ◌-◌, ◌<◌, arith, ◌⊎◌, inl, inr, true, Option, Some, None, List, ◌∷◌, length, slice_get, refl, sym, ap, subst}
use Rattle.std.specs.List.{flat_map}
use Rattle.std.specs.Option.{option_to_list}
use Rattle.hierarchy.specs.declared.class.Class.{Class}
use Rattle.hierarchy.specs.declared.class.ClassId.{ClassId}
use Rattle.hierarchy.specs.declared.built_in.BuiltIn.{BuiltIn}
use Rattle.hierarchy.specs.BuiltIn.{built_ins, superclass_of_built_in}
use Rattle.hierarchy.specs.LinkedProgram.{class_among}
use Rattle.hierarchy.specs.ClassLists.{Among, first, later, add_new, add_all, is_among}
use Rattle.hierarchy.specs.Hierarchy.{supers, supers_in, interfaces_of, Reaches, direct, further, IsWithin, most_steps, height, IsAcyclic}
use Rattle.hierarchy.specs.Ancestry.{ancestry_within, ancestry, superclass_in, superclass_alone, IsWholeAbove}
use Rattle.hierarchy.specs.Fields.{interfaces_first}
use Rattle.hierarchy.proofs.ClassMembership.{every_at, among_from_true, among_left, among_cases, add_new-keeps, add_new-cases, add_all-keeps, add_all-has, add_all-cases, add_all-there}
use Rattle.hierarchy.proofs.Enumerations.{flat_map-longer, flat_map-same, flat_map-has, flat_map-from, among_supers}
use Rattle.hierarchy.proofs.Acyclic.{not_cyclic}

-- what is directly above a class is one of its direct supertypes
abbrev pub IsUpward : List Class → (ClassId → List ClassId) → Type 0
IsUpward classes above = (c d : ClassId) → Among d (above c) → Among d (supers classes c)

cons_cases : {x y : ClassId} {ys : List ClassId} → Among x (y ∷ ys) → (x ≡ y) ⊎ Among x ys
cons_cases first = inl refl
cons_cases (later h) = inr h

pub superclass_upward : (classes : List Class) → IsUpward classes (superclass_alone classes)
superclass_upward classes c d = at (class_among classes c) (slice_get built_ins (c.number - length classes))
  where
    built : (b : BuiltIn) (o : Option BuiltIn) → superclass_of_built_in b ≡ o → Among d (option_to_list (superclass_in classes None (Some b))) → Among d (supers_in classes None (Some b))
    built b None e h = let n = rw e at h in elim n [ ]
    built b (Some s) e h = rw e (rw e at h)

    at : (o : Option Class) (b : Option BuiltIn) → Among d (option_to_list (superclass_in classes o b)) → Among d (supers_in classes o b)
    at (Some class) b h = among_left class.interfaces h
    at None None h = h
    at None (Some b) h = built b (superclass_of_built_in b) refl h

pub interfaces_first_upward : (classes : List Class) → IsUpward classes (interfaces_first classes)
interfaces_first_upward classes c d h =
    elim (among_cases (interfaces_of classes c) h) [ inl k ↦ among_supers classes c d k | inr k ↦ superclass_upward classes c d k ]

pub within_above : (classes : List Class) (above : ClassId → List ClassId) → IsUpward classes above → (d : ℕ) (c j : ClassId) → IsWithin (suc d) classes c → Among j (above c) → IsWithin d classes j
within_above classes above u d c j w m = every_at (IsWithin d classes) w (u c j m)

-- enough steps give one list
ancestry_within-same : (classes : List Class) (above : ClassId → List ClassId) → IsUpward classes above → (d e : ℕ) (c : ClassId) → IsWithin d classes c → IsWithin e classes c → ancestry_within d above c ≡ ancestry_within e above c
ancestry_within-same classes above u zero e c h k = absurd h
ancestry_within-same classes above u (suc d) zero c h k = absurd k
ancestry_within-same classes above u (suc d) (suc e) c h k =
    ap (λ r. c ∷ r)
    (flat_map-same (ancestry_within d above) (ancestry_within e above) (above c)
    (λ j m. ancestry_within-same classes above u d e j (within_above classes above u d c j h m) (within_above classes above u e c j k m)))

-- the law of an ancestry
pub ancestry-law : (classes : List Class) (above : ClassId → List ClassId) → IsUpward classes above → IsAcyclic classes → (c : ClassId) → ancestry classes above c ≡ c ∷ flat_map (ancestry classes above) (above c)
unfolding ancestry
ancestry-law classes above u a c =
    ap (λ r. c ∷ r)
    (flat_map-same (ancestry_within (most_steps classes) above) (ancestry_within (height classes) above) (above c)
    (λ j m. ancestry_within-same classes above u (most_steps classes) (height classes) j (within_above classes above u (most_steps classes) c j (a c) m) (a j)))

-- what is directly above has a shorter ancestry
pub ancestry-falls : (classes : List Class) (above : ClassId → List ClassId) → IsUpward classes above → IsAcyclic classes → (c x : ClassId) → Among x (above c) → length (ancestry classes above x) < length (ancestry classes above c)
ancestry-falls classes above u a c x m =
    let l = ap length (ancestry-law classes above u a c) in
    let b = flat_map-longer (ancestry classes above) m in
    omega (arith, l, b)

pub ancestry-self : (classes : List Class) (above : ClassId → List ClassId) → IsUpward classes above → IsAcyclic classes → (c : ClassId) → Among c (ancestry classes above c)
ancestry-self classes above u a c = rw (ancestry-law classes above u a c) first

-- what is above what is directly above c is above c
pub ancestry-above : (classes : List Class) (above : ClassId → List ClassId) → IsUpward classes above → IsAcyclic classes → (c x y : ClassId) → Among x (above c) → Among y (ancestry classes above x) → Among y (ancestry classes above c)
ancestry-above classes above u a c x y m h = rw (ancestry-law classes above u a c) (later (flat_map-has (ancestry classes above) m h))

pub ancestry_cases : (classes : List Class) (above : ClassId → List ClassId) → IsUpward classes above → IsAcyclic classes → (c y : ClassId) → Among y (ancestry classes above c) → (y ≡ c) ⊎ ((x : ClassId) × Among x (above c) × Among y (ancestry classes above x))
ancestry_cases classes above u a c y h =
    elim (cons_cases (rw (ancestry-law classes above u a c) at h)) [ inl e ↦ inl e | inr k ↦ inr (flat_map-from (ancestry classes above) (above c) k) ]

ancestry_within-whole : (classes : List Class) (above : ClassId → List ClassId) → IsUpward classes above → IsAcyclic classes → (d : ℕ) (c : ClassId) → IsWithin d classes c → (j : ClassId) → Among j (ancestry classes above c) → (k : ClassId) → Among k (ancestry classes above j) → Among k (ancestry classes above c)
ancestry_within-whole classes above u a zero c w j h k m = absurd w
ancestry_within-whole classes above u a (suc d) c w j h k m =
    elim (ancestry_cases classes above u a c j h) [
      | inl e ↦ subst (λ z. Among k (ancestry classes above z)) e m
      | inr r ↦ ancestry-above classes above u a c r.0 k r.1 (ancestry_within-whole classes above u a d r.0 (within_above classes above u d c r.0 w r.1) j r.2 k m)
    ]

-- the ancestry of each class of an ancestry is in it
pub ancestry-whole : (classes : List Class) (above : ClassId → List ClassId) → IsUpward classes above → IsAcyclic classes → (c j k : ClassId) → Among j (ancestry classes above c) → Among k (ancestry classes above j) → Among k (ancestry classes above c)
ancestry-whole classes above u a c j k h m = ancestry_within-whole classes above u a (height classes) c (a c) j h k m

ancestry_within-reaches : (classes : List Class) (above : ClassId → List ClassId) → IsUpward classes above → IsAcyclic classes → (d : ℕ) (c : ClassId) → IsWithin d classes c → (j : ClassId) → Among j (ancestry classes above c) → (j ≡ c) ⊎ Reaches classes c j
ancestry_within-reaches classes above u a zero c w j h = absurd w
ancestry_within-reaches classes above u a (suc d) c w j h =
    elim (ancestry_cases classes above u a c j h) [
      | inl e ↦ inl e
      | inr r ↦
          elim (ancestry_within-reaches classes above u a d r.0 (within_above classes above u d c r.0 w r.1) j r.2) [
            | inl e ↦ inr (direct (subst (λ z. Among z (supers classes c)) (sym e) (u c r.0 r.1)))
            | inr q ↦ inr (further (u c r.0 r.1) q)
          ]
    ]

-- what is in the ancestry of c is c or a supertype
pub ancestry-reaches : (classes : List Class) (above : ClassId → List ClassId) → IsUpward classes above → IsAcyclic classes → (c j : ClassId) → Among j (ancestry classes above c) → (j ≡ c) ⊎ Reaches classes c j
ancestry-reaches classes above u a c j h = ancestry_within-reaches classes above u a (height classes) c (a c) j h

-- a class isn't above what is above it
not_below : (classes : List Class) (above : ClassId → List ClassId) → IsUpward classes above → IsAcyclic classes → (c x : ClassId) → Among x (above c) → Among c (ancestry classes above x) → ⊥
not_below classes above u a c x m h =
    elim (ancestry-reaches classes above u a x c h) [
      | inl e ↦ not_cyclic classes a c (direct (subst (λ z. Among z (supers classes c)) (sym e) (u c x m)))
      | inr q ↦ not_cyclic classes a c (further (u c x m) q)
    ]

-- a class that was found needs no second walk
pub skipped_order : (classes : List Class) (above : ClassId → List ClassId) → IsUpward classes above → IsAcyclic classes → (xs : List ClassId) (c : ClassId) → IsWholeAbove classes above c xs → is_among c xs ≡ true → xs ≡ add_all xs (ancestry classes above c)
skipped_order classes above u a xs c w e =
    sym (add_all-there xs (ancestry classes above c) (w c (ancestry-self classes above u a c) (among_from_true c xs e)))

-- after c itself and some of those above it, the next may be walked
pub whole_next : (classes : List Class) (above : ClassId → List ClassId) → IsUpward classes above → IsAcyclic classes → (start now next done : List ClassId) (c x : ClassId) → IsWholeAbove classes above c start → Among x (above c) →
    next ≡ add_new start c → now ≡ add_all next (flat_map (ancestry classes above) done) → IsWholeAbove classes above x now
whole_next classes above u a start now next done c x w m s n = rw (n, s) (λ d h k e q.
    elim (add_all-cases (add_new start c) (flat_map (ancestry classes above) done) k) [
      | inl k1 ↦
          elim (add_new-cases start c k1) [
            | inl k2 ↦ add_all-keeps (add_new start c) (flat_map (ancestry classes above) done) (add_new-keeps start c (w d (ancestry-above classes above u a c x d m h) k2 e q))
            | inr same ↦ absurd (not_below classes above u a c x m (subst (λ z. Among z (ancestry classes above x)) same h))
          ]
      | inr k1 ↦
          let r = flat_map-from (ancestry classes above) done k1 in
          add_all-has (add_new start c) (flat_map-has (ancestry classes above) r.1 (ancestry-whole classes above u a r.0 d e r.2 q))
    ])

-- the walk over c and all above it
pub walked_order : (classes : List Class) (above : ClassId → List ClassId) → IsUpward classes above → IsAcyclic classes → (start now next : List ClassId) (c : ClassId) → next ≡ add_new start c → now ≡ add_all next (flat_map (ancestry classes above) (above c)) → now ≡ add_all start (ancestry classes above c)
walked_order classes above u a start now next c s n = rw (ancestry-law classes above u a c) (rw s at n)
