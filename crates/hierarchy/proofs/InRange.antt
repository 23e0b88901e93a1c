-- Resolved supertypes are classes of the program.
use Rattle.std.proofs.Common.{◌≡◌, ℕ, zero, suc, ◌+◌, ◌-◌, ◌<◌, true, false, cond, eqb, Option, Some, None, Result, Ok, Err, List, [], ◌∷◌, length, slice_get, refl, sym, ap, subst, ◌∙◌, arith}
use Rattle.std.proofs.lemmas.List.{length-map}
use Rattle.jasmin_text.specs.declared.class_text.ClassParts.{ClassParts}
use Rattle.jasmin_text.specs.declared.class_text.ClassKind.{ClassKind}
use Rattle.jasmin_text.specs.declared.class_text.ClassKind.TheVariants as kind
use Rattle.hierarchy.specs.declared.class.Class.{Class}
use Rattle.hierarchy.specs.declared.class.ClassId.{ClassId}
use Rattle.hierarchy.specs.declared.built_in.BuiltIn.{BuiltIn}
use Rattle.hierarchy.specs.declared.fault.LinkFaultKind.{LinkFaultKind}
use Rattle.hierarchy.specs.declared.fault.LinkFaultKind.TheVariants.{UnknownSupertype, SuperclassKind}
use Rattle.hierarchy.specs.declared.supertype_names.Known.{Known}
use Rattle.hierarchy.specs.declared.supertype_names.Known.TheVariants as known_as
use Rattle.hierarchy.specs.declared.built_in.TheConstants.{BUILT_IN_COUNT}
use Rattle.hierarchy.specs.BuiltIn.{number_of, superclass_of_built_in, built_ins, built_in_named, may_be_superclass}
use Rattle.texts.specs.Texts.{place_of_text}
use Rattle.hierarchy.specs.LinkedProgram.{class_among, id, class_names}
use Rattle.hierarchy.specs.ClassLists.{Among, first, later}
use Rattle.hierarchy.specs.Hierarchy.{supers_in, supers_of_built_in, built_in_list, IsInRange}
use Rattle.hierarchy.specs.Supertypes.{known, known_at, known_file, known_built_in, superclass_id, built_in_superclass, interface_id, interface_ids, joined}
use Rattle.hierarchy.specs.Linking.{names_of, kinds_of, class_from, class_by, class_of, classes_from, classes_of}
use Rattle.std.specs.List.{All}
use Rattle.std.proofs.lemmas.List.Elements.{All-nil, All-cons, All-head, All-tail, All-same}
use Rattle.jasmin_text.specs.Spellable.{IsSpellable}
use Rattle.hierarchy.specs.SpellableClass.{IsSpellableClass}
use Rattle.hierarchy.proofs.BuiltIns.{number-small}

-- a file's class that is known has its place below their number
abbrev IsKnownWithin : ℕ → Known → Type 0
IsKnownWithin n known_as.Nothing = Unit {0}
IsKnownWithin n (known_as.File place k) = place < n
IsKnownWithin n (known_as.BuiltIn b) = Unit {0}

get-below : {X : Type 0} (xs : List X) (i : ℕ) (x : X) → slice_get xs i ≡ Some x → i < length xs
get-below [] i x e = absurd cc
get-below (y ∷ xs) zero x e = omega arith
get-below (y ∷ xs) (suc i) x e = let l = get-below xs i x e in omega (arith, l)

known_within : (names : List (List ℕ)) (kinds : List ClassKind) (name : List ℕ) → IsKnownWithin (length kinds) (known names kinds name)
known_within names kinds name = at (place_of_text name names)
  where
    file : (place : ℕ) (k : Option ClassKind) → slice_get kinds place ≡ k → IsKnownWithin (length kinds) (known_file place k)
    file place None e = tt
    file place (Some k) e = get-below kinds place k e

    there : (b : Option BuiltIn) → IsKnownWithin (length kinds) (known_built_in b)
    there None = tt
    there (Some b) = tt

    at : (o : Option ℕ) → IsKnownWithin (length kinds) (known_at kinds name o)
    at None = there (built_in_named name)
    at (Some place) = file place (slice_get kinds place) refl

abbrev Ok_is : {X E : Type 0} → Result X E → (X → Type 0) → Type 0
Ok_is (Ok x) P = P x
Ok_is (Err e) P = Unit {0}

superclass_within : (n : ℕ) (own : ClassKind) (k : Known) → IsKnownWithin n k → Ok_is (superclass_id n own k) (λ c. c.number < n + BUILT_IN_COUNT)
superclass_within n own known_as.Nothing w = tt
superclass_within n kind.Class (known_as.File place kind.Class) w = omega (arith, w)
superclass_within n kind.Class (known_as.File place kind.Interface) w = tt
superclass_within n kind.Interface (known_as.File place k) w = tt
superclass_within n kind.Class (known_as.BuiltIn b) w =
    elim (may_be_superclass b) as (λ t. Ok_is (cond t (built_in_superclass n kind.Class b) (Err UnknownSupertype)) (λ c. c.number < n + BUILT_IN_COUNT)) [ true ↦ omega (arith, number-small b) | false ↦ tt ]
superclass_within n kind.Interface (known_as.BuiltIn b) w =
    elim (may_be_superclass b) as (λ t. Ok_is (cond t (built_in_superclass n kind.Interface b) (Err UnknownSupertype)) (λ c. c.number < n + BUILT_IN_COUNT)) [
      | true ↦ elim (eqb (number_of b) 0) as (λ t. Ok_is (cond t (Ok (id (n + number_of b))) (Err SuperclassKind)) (λ c. c.number < n + BUILT_IN_COUNT)) [ true ↦ omega (arith, number-small b) | false ↦ tt ]
      | false ↦ tt
    ]

interface_within : (n : ℕ) (k : Known) → IsKnownWithin n k → Ok_is (interface_id k) (λ c. c.number < n + BUILT_IN_COUNT)
interface_within n known_as.Nothing w = tt
interface_within n (known_as.File place kind.Class) w = tt
interface_within n (known_as.File place kind.Interface) w = omega (arith, w)
interface_within n (known_as.BuiltIn b) w = tt

pub joined_ok : {X E : Type 0} (r : Result X E) (rest : Result (List X) E) (xs : List X) → joined r rest ≡ Ok xs → (x : X) × (ys : List X) × (r ≡ Ok x) × (rest ≡ Ok ys) × (xs ≡ x ∷ ys)
joined_ok (Err e) rest xs q = absurd cc
joined_ok (Ok x) (Err e) xs q = absurd cc
joined_ok (Ok x) (Ok ys) xs q = (x, ys, refl, refl, cc)

ok_at : {X E : Type 0} (P : X → Type 0) (r : Result X E) (x : X) → Ok_is r P → r ≡ Ok x → P x
ok_at P r x h e = subst (λ z. Ok_is z P) e h

-- the numbers of supertypes lie below n
abbrev AreBelow : ℕ → List ClassId → Type 0
AreBelow n cs = (d : ClassId) → Among d cs → d.number < n

below_cons : (n : ℕ) (c : ClassId) (cs : List ClassId) → c.number < n → AreBelow n cs → AreBelow n (c ∷ cs)
below_cons n c cs h k = at
  where
    at : (d : ClassId) → Among d (c ∷ cs) → d.number < n
    at d first = h
    at d (later m) = k d m

below_none : (n : ℕ) → AreBelow n []
below_none n d m = elim m [ ]

interfaces_below : (names : List (List ℕ)) (kinds : List ClassKind) (wanted : List (List ℕ)) (ids : List ClassId) → interface_ids names kinds wanted ≡ Ok ids → AreBelow (length kinds + BUILT_IN_COUNT) ids
interfaces_below names kinds [] ids e = let none : ids ≡ [] = cc in subst (AreBelow (length kinds + BUILT_IN_COUNT)) (sym none) (below_none (length kinds + BUILT_IN_COUNT))
interfaces_below names kinds (name ∷ wanted) ids e =
    let r = joined_ok (interface_id (known names kinds name)) (interface_ids names kinds wanted) ids e in
    subst (AreBelow (length kinds + BUILT_IN_COUNT)) (sym r.4)
    (below_cons (length kinds + BUILT_IN_COUNT) r.0 r.1
    (ok_at (λ c. c.number < length kinds + BUILT_IN_COUNT) (interface_id (known names kinds name)) r.0 (interface_within (length kinds) (known names kinds name) (known_within names kinds name)) r.2)
    (interfaces_below names kinds wanted r.1 r.3))

pub class_ok : (t : ClassParts) (s : Result ClassId LinkFaultKind) (is : Result (List ClassId) LinkFaultKind) (c : Class) → class_by t s is ≡ Ok c → (sid : ClassId) × (ids : List ClassId) × (s ≡ Ok sid) × (is ≡ Ok ids) × (c ≡ class_of t sid ids)
class_ok t (Err k) is c e = absurd cc
class_ok t (Ok sid) (Err k) c e = absurd cc
class_ok t (Ok sid) (Ok ids) c e = (sid, ids, refl, refl, cc)

class_below : (names : List (List ℕ)) (kinds : List ClassKind) (t : ClassParts) (c : Class) → class_from names kinds t ≡ Ok c → AreBelow (length kinds + BUILT_IN_COUNT) (c.superclass ∷ c.interfaces) × (c.name ≡ t.name)
class_below names kinds t c e =
    let r = class_ok t (superclass_id (length kinds) t.kind (known names kinds t.superclass)) (interface_ids names kinds t.interfaces) c e in (
      subst (λ (z : Class). AreBelow (length kinds + BUILT_IN_COUNT) (z.superclass ∷ z.interfaces)) (sym r.4)
          (below_cons (length kinds + BUILT_IN_COUNT) r.0 r.1
          (ok_at (λ d. d.number < length kinds + BUILT_IN_COUNT) (superclass_id (length kinds) t.kind (known names kinds t.superclass)) r.0 (superclass_within (length kinds) t.kind (known names kinds t.superclass) (known_within names kinds t.superclass)) r.2)
          (interfaces_below names kinds t.interfaces r.1 r.3)),
      ap (λ (z : Class). z.name) r.4,
    )

class_spellable : (names : List (List ℕ)) (kinds : List ClassKind) (t : ClassParts) (c : Class) → IsSpellable t → class_from names kinds t ≡ Ok c → IsSpellableClass c
class_spellable names kinds t c s e =
    let r = class_ok t (superclass_id (length kinds) t.kind (known names kinds t.superclass)) (interface_ids names kinds t.interfaces) c e in
    subst IsSpellableClass (sym r.4) (record { text = t; spellable = s; same = refl })

first_or : (n : ℕ) (x : Class) (xs : List Class) (c : Class) → AreBelow n (x.superclass ∷ x.interfaces) → ((k : ℕ) → slice_get xs k ≡ Some c → AreBelow n (c.superclass ∷ c.interfaces)) →
    (i : ℕ) → slice_get (x ∷ xs) i ≡ Some c → AreBelow n (c.superclass ∷ c.interfaces)
first_or n x xs c here there zero h = let same : x ≡ c = cc in subst (λ (z : Class). AreBelow n (z.superclass ∷ z.interfaces)) same here
first_or n x xs c here there (suc k) h = there k h

classes_below : (names : List (List ℕ)) (kinds : List ClassKind) (texts : List ClassParts) (classes : List Class) → classes_from names kinds texts ≡ Ok classes →
    (i : ℕ) (c : Class) → slice_get classes i ≡ Some c → AreBelow (length kinds + BUILT_IN_COUNT) (c.superclass ∷ c.interfaces)
classes_below names kinds [] classes e i c g = let none : classes ≡ [] = cc in let h = rw none at g in absurd cc
classes_below names kinds (t ∷ texts) classes e i c g =
    let r = joined_ok (class_from names kinds t) (classes_from names kinds texts) classes e in
    first_or (length kinds + BUILT_IN_COUNT) r.0 r.1 c (class_below names kinds t r.0 r.2).0 (λ k h. classes_below names kinds texts r.1 r.3 k c h) i (subst (λ z. slice_get z i ≡ Some c) r.4 g)

-- the classes come in the order of the texts
pub named_alike : (names : List (List ℕ)) (kinds : List ClassKind) (texts : List ClassParts) (classes : List Class) → classes_from names kinds texts ≡ Ok classes → class_names classes ≡ names_of texts
named_alike names kinds [] classes e = let none : classes ≡ [] = cc in rw none refl
named_alike names kinds (t ∷ texts) classes e =
    let r = joined_ok (class_from names kinds t) (classes_from names kinds texts) classes e in
    ap class_names r.4 ∙ ap (λ n. n ∷ class_names r.1) (class_below names kinds t r.0 r.2).1 ∙ ap (λ ns. t.name ∷ ns) (named_alike names kinds texts r.1 r.3)

-- classes of texts that a file can spell are such classes
pub spellable_all : (names : List (List ℕ)) (kinds : List ClassKind) (texts : List ClassParts) (classes : List Class) → All IsSpellable texts → classes_from names kinds texts ≡ Ok classes → All IsSpellableClass classes
spellable_all names kinds [] classes a e = let none : classes ≡ [] = cc in All-same IsSpellableClass _ _ none (All-nil IsSpellableClass)
spellable_all names kinds (t ∷ texts) classes a e =
    let r = joined_ok (class_from names kinds t) (classes_from names kinds texts) classes e in
    All-same IsSpellableClass _ _ r.4 (All-cons IsSpellableClass r.0 r.1 (class_spellable names kinds t r.0 (All-head IsSpellable t texts a) r.2) (spellable_all names kinds texts r.1 (All-tail IsSpellable t texts a) r.3))

pub as_many : (texts : List ClassParts) (classes : List Class) → classes_of texts ≡ Ok classes → length classes ≡ length texts
as_many texts classes e =
    let l = ap length (named_alike (names_of texts) (kinds_of texts) texts classes e) in
    simp length-map at l

only : {d c : ClassId} → Among d (c ∷ []) → d ≡ c
only first = refl
only (later k) = elim k [ ]

pub in_range_all : (texts : List ClassParts) (classes : List Class) → classes_of texts ≡ Ok classes → IsInRange classes
in_range_all texts classes e c d m = at (class_among classes c) (slice_get built_ins (c.number - length classes)) refl m
  where
    kinds_many : length (kinds_of texts) ≡ length classes
    kinds_many = simp length-map (sym (as_many texts classes e))

    above : (o : Option BuiltIn) → Among d (built_in_list classes o) → d.number < length classes + BUILT_IN_COUNT
    above None k = elim k [ ]
    above (Some s) k = let e : d.number ≡ length classes + number_of s = ap (λ (z : ClassId). z.number) (only k) in omega (arith, number-small s, e)

    built : (b : Option BuiltIn) → Among d (supers_of_built_in classes b) → d.number < length classes + BUILT_IN_COUNT
    built None k = elim k [ ]
    built (Some b) k = above (superclass_of_built_in b) k

    at : (o : Option Class) (b : Option BuiltIn) → class_among classes c ≡ o → Among d (supers_in classes o b) → d.number < length classes + BUILT_IN_COUNT
    at (Some class) b g k = subst (λ n. d.number < n + BUILT_IN_COUNT) kinds_many (classes_below (names_of texts) (kinds_of texts) texts classes e c.number class g d k)
    at None b g k = built b k
