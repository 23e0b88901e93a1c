-- Enumerations of superinterfaces, where each way up ends.
use Rattle.std.proofs.Common.{◌≡◌, ℕ, zero, suc, ◌-◌, ◌≤◌, arith, length-append, inl, inr, Option, Some, None, List, [], ◌∷◌, ◌++◌, length, slice_get, refl, sym, ap, subst}
use Rattle.std.specs.List.{flat_map}
use Rattle.hierarchy.specs.declared.class.Class.{Class}
use Rattle.hierarchy.specs.declared.class.ClassId.{ClassId}
use Rattle.hierarchy.specs.declared.built_in.BuiltIn.{BuiltIn}
use Rattle.hierarchy.specs.BuiltIn.{built_ins}
use Rattle.hierarchy.specs.LinkedProgram.{class_among}
use Rattle.hierarchy.specs.ClassLists.{Among, first, later, add_all}
use Rattle.hierarchy.specs.Hierarchy.{interfaces_in, interfaces_of, supers, supers_in, IsWithin, most_steps, height, IsAcyclic}
use Rattle.hierarchy.specs.Superinterfaces.{enumeration_within, enumeration, IsClosed}
use Rattle.hierarchy.proofs.ClassMembership.{every_at, among_left, among_right, among_cases, add_all-keeps, add_all-has, add_all-cases}

pub flat_map-same : (f g : ClassId → List ClassId) (xs : List ClassId) → ((x : ClassId) → Among x xs → f x ≡ g x) → flat_map f xs ≡ flat_map g xs
flat_map-same f g [] h = refl
flat_map-same f g (x ∷ xs) h =
    rw (h x first) (ap (λ r. g x ++ r) (flat_map-same f g xs (λ y k. h y (later k))))

pub flat_map-has : (f : ClassId → List ClassId) {x y : ClassId} {xs : List ClassId} → Among x xs → Among y (f x) → Among y (flat_map f xs)
flat_map-has f (first {cs = xs}) h = among_left _ h
flat_map-has f (later {d = z} k) h = among_right (f z) (flat_map-has f k h)

pub flat_map-from : (f : ClassId → List ClassId) {y : ClassId} (xs : List ClassId) → Among y (flat_map f xs) → (x : ClassId) × Among x xs × Among y (f x)
flat_map-from f [] h = elim h [ ]
flat_map-from f (x ∷ xs) h =
    elim (among_cases (f x) h) [ inl k ↦ (x, first, k) | inr k ↦ let r = flat_map-from f xs k in (r.0, later r.1, r.2) ]

pub flat_map-longer : (f : ClassId → List ClassId) {x : ClassId} {xs : List ClassId} → Among x xs → length (f x) ≤ length (flat_map f xs)
flat_map-longer f (first {c = x} {cs = xs}) = omega (arith, length-append (f x) (flat_map f xs))
flat_map-longer f (later {d = y} {cs = xs} h) = let b = flat_map-longer f h in omega (arith, length-append (f y) (flat_map f xs), b)

-- a direct superinterface is a direct supertype
pub among_supers : (classes : List Class) (i j : ClassId) → Among j (interfaces_of classes i) → Among j (supers classes i)
among_supers classes i j h = at (class_among classes i) (slice_get built_ins (i.number - length classes)) h
  where
    at : (o : Option Class) (b : Option BuiltIn) → Among j (interfaces_in o) → Among j (supers_in classes o b)
    at (Some c) b h = later h
    at None b h = elim h [ ]

pub within_interface : (classes : List Class) (d : ℕ) (i j : ClassId) → IsWithin (suc d) classes i → Among j (interfaces_of classes i) → IsWithin d classes j
within_interface classes d i j h k = every_at (IsWithin d classes) h (among_supers classes i j k)

-- enough steps give one list
pub enumeration_within-same : (classes : List Class) (d e : ℕ) (i : ClassId) → IsWithin d classes i → IsWithin e classes i → enumeration_within d classes i ≡ enumeration_within e classes i
enumeration_within-same classes zero e i h k = absurd h
enumeration_within-same classes (suc d) zero i h k = absurd k
enumeration_within-same classes (suc d) (suc e) i h k =
    ap (λ r. r ++ i ∷ [])
    (flat_map-same (enumeration_within d classes) (enumeration_within e classes) (interfaces_of classes i)
    (λ j m. enumeration_within-same classes d e j (within_interface classes d i j h m) (within_interface classes e i j k m)))

-- the law of the enumeration
pub enumeration-law : (classes : List Class) (i : ClassId) → IsAcyclic classes → enumeration classes i ≡ flat_map (enumeration classes) (interfaces_of classes i) ++ i ∷ []
unfolding enumeration
enumeration-law classes i h =
    ap (λ r. r ++ i ∷ [])
    (flat_map-same (enumeration_within (most_steps classes) classes) (enumeration_within (height classes) classes) (interfaces_of classes i)
    (λ j m. enumeration_within-same classes (most_steps classes) (height classes) j (within_interface classes (most_steps classes) i j (h i) m) (h j)))

-- what an interface of an enumeration enumerates is in it
pub enumeration_within-whole : (classes : List Class) → IsAcyclic classes → (d : ℕ) (i : ClassId) → IsWithin d classes i → (j : ClassId) → Among j (enumeration classes i) → (k : ClassId) → Among k (enumeration classes j) → Among k (enumeration classes i)
enumeration_within-whole classes a zero i w j h k m = absurd w
enumeration_within-whole classes a (suc d) i w j h k m =
    let h2 : Among j (flat_map (enumeration classes) (interfaces_of classes i) ++ i ∷ []) = subst (λ r. Among j r) (enumeration-law classes i a) h in
    elim (among_cases (flat_map (enumeration classes) (interfaces_of classes i)) h2) [
      | inl s ↦
          let f = flat_map-from (enumeration classes) (interfaces_of classes i) s in
          subst (λ r. Among k r) (sym (enumeration-law classes i a))
          (among_left (i ∷ []) (flat_map-has (enumeration classes) f.1 (enumeration_within-whole classes a d f.0 (within_interface classes d i f.0 w f.1) j f.2 k m)))
      | inr s ↦ only s m
    ]
  where
    only : {z : ClassId} → Among z (i ∷ []) → Among k (enumeration classes z) → Among k (enumeration classes i)
    only first q = q
    only (later q) r = elim q [ ]

-- a closed list stays closed with a whole enumeration added
pub closed-add_all : (classes : List Class) → IsAcyclic classes → (xs : List ClassId) (i : ClassId) → IsClosed classes xs → IsClosed classes (add_all xs (enumeration classes i))
closed-add_all classes a xs i c j h k m =
    elim (add_all-cases xs (enumeration classes i) h) [
      | inl s ↦ add_all-keeps xs (enumeration classes i) (c j s k m)
      | inr s ↦ add_all-has xs (enumeration_within-whole classes a (height classes) i (a i) j s k m)
    ]
