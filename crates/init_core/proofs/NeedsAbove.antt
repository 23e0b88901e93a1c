-- What a class needs is above it in the hierarchy, and in a file.
use Rattle.std.proofs.Common.{◌≡◌, ◌⊎◌, ℕ, zero, suc, Bool, true, false, Option, Some, None, List, [], ◌∷◌, refl, sym, ap, ◌∙◌, subst, inl, inr}
use Rattle.std.specs.Prelude.{◌<◌, ◌++◌, length, filter}
use Rattle.std.specs.List.{AllByRecursion, flat_map}
use Rattle.std.proofs.lemmas.Bool.{cases_Bool, ltb-true}
use Rattle.std.proofs.lemmas.Option.{slice_get_within}
use Rattle.jasmin_text.specs.declared.class_text.ClassKind.{ClassKind}
use Rattle.jasmin_text.specs.declared.class_text.ClassKind.TheVariants as kind
use Rattle.hierarchy.specs.declared.class.Class.{Class}
use Rattle.hierarchy.specs.declared.class.ClassId.{ClassId}
use Rattle.hierarchy.specs.declared.edition.Edition.{Edition}
use Rattle.hierarchy.specs.declared.edition.Edition.TheVariants as edition
use Rattle.hierarchy.specs.LinkedProgram.{LinkedProgram, class_at}
use Rattle.hierarchy.specs.ClassLists.{Among, first, later}
use Rattle.hierarchy.specs.Hierarchy.{interfaces_of, supers, Reaches, direct, further, height}
use Rattle.hierarchy.specs.Superinterfaces.{enumeration_within, enumeration}
use Rattle.hierarchy.proofs.ClassMembership.{among_cases, add_all-cases}
use Rattle.hierarchy.proofs.Enumerations.{flat_map-from, among_supers}
use Rattle.init_core.specs.Needs.{needs, needs_in, needs_by, needs_of_class, interfaces_first, declares_default, declares_default_in, is_in_file}

only : {x y : ClassId} → Among x (y ∷ []) → x ≡ y
only first = refl
only (later k) = elim k [ ]

-- an interface of an enumeration is the enumerated one, or above it
enumerated : (classes : List Class) (depth : ℕ) (i : ClassId) {d : ClassId} → Among d (enumeration_within depth classes i) → (d ≡ i) ⊎ Reaches classes i d
enumerated classes zero i h = elim h [ ]
enumerated classes (suc depth) i h = elim (among_cases (flat_map (enumeration_within depth classes) (interfaces_of classes i)) h) [
  | inl k ↦ let f = flat_map-from (enumeration_within depth classes) (interfaces_of classes i) k in inr (above classes i f.0 (among_supers classes i f.0 f.1) (enumerated classes depth f.0 f.2))
  | inr k ↦ inl (only k)
] where
  above : (classes : List Class) (i j : ClassId) {d : ClassId} → Among j (supers classes i) → (d ≡ j) ⊎ Reaches classes j d → Reaches classes i d
  above classes i j m (inl e) = subst (λ x. Reaches classes i x) (sym e) (direct m)
  above classes i j m (inr r) = further m r

-- what passes is of the list, and passes
filtered : (q : ClassId → Bool) (cs : List ClassId) {d : ClassId} → Among d (filter q cs) → Among d cs × (q d ≡ true)
filtered q [] h = elim h [ ]
filtered q (c ∷ cs) {d} h = elim (cases_Bool (q c)) [
  | inl e ↦ elim (among_cases (c ∷ []) (subst (Among d) (passes e) h)) [ inl k ↦ (subst (λ x. Among x (c ∷ cs)) (sym (only k)) first, ap q (only k) ∙ e) | inr k ↦ let f = filtered q cs k in (later f.0, f.1) ]
  | inr e ↦ let f = filtered q cs (subst (Among d) (fails e) h) in (later f.0, f.1)
] where
  passes : q c ≡ true → filter q (c ∷ cs) ≡ c ∷ filter q cs
  passes e = rw e refl

  fails : q c ≡ false → filter q (c ∷ cs) ≡ filter q cs
  fails e = rw e refl

-- what comes first is a superinterface that declares a non-abstract, non-static method
comes_first : (e : Edition) (p : LinkedProgram) (interfaces : List ClassId) {d : ClassId} → Among d (interfaces_first e p interfaces) → Among d (flat_map (enumeration p.classes) interfaces) × (declares_default p d ≡ true)
comes_first edition.Seven p interfaces h = elim h [ ]
comes_first edition.Eight p interfaces h = filtered (declares_default p) (flat_map (enumeration p.classes) interfaces) h

-- the superclass in a file, or a superinterface that declares a non-abstract, non-static method
needed : (p : LinkedProgram) (superclass : ClassId) (interfaces : List ClassId) {d : ClassId} → Among d (needs_of_class p superclass interfaces) →
    ((d ≡ superclass) × (is_in_file p d ≡ true)) ⊎ (Among d (flat_map (enumeration p.classes) interfaces) × (declares_default p d ≡ true))
needed p superclass interfaces {d} h = elim (add_all-cases [] (filter (is_in_file p) (superclass ∷ []) ++ interfaces_first p.edition p interfaces) h) [
  | inl k ↦ elim k [ ]
  | inr k ↦ elim (among_cases (filter (is_in_file p) (superclass ∷ [])) k) [
    | inl m ↦ let f = filtered (is_in_file p) (superclass ∷ []) m in inl (only f.0, f.1)
    | inr m ↦ inr (comes_first p.edition p interfaces m)
  ]
]

module _ (p : LinkedProgram) (c : ClassId) where
  interface_above : {d : ClassId} (i : ClassId) → Among i (supers p.classes c) → Among d (enumeration p.classes i) → Reaches p.classes c d
  unfolding enumeration
  interface_above {d} i m h = elim (enumerated p.classes (height p.classes) i h) [ inl e ↦ subst (λ x. Reaches p.classes c x) (sym e) (direct m) | inr r ↦ further m r ]

  by_kind : (class : Class) (k : ClassKind) → ((d : ClassId) → Among d (class.superclass ∷ class.interfaces) → Among d (supers p.classes c)) → {d : ClassId} → Among d (needs_by p class k) → Reaches p.classes c d
  by_kind class kind.Interface up h = elim h [ ]
  by_kind class kind.Class up {d} h = elim (needed p class.superclass class.interfaces h) [
    | inl k ↦ direct (up d (subst (λ x. Among x (class.superclass ∷ class.interfaces)) (sym k.0) first))
    | inr k ↦ let f = flat_map-from (enumeration p.classes) class.interfaces k.0 in interface_above f.0 (up f.0 (later f.1)) f.2
  ]

  by_class : (o : Option Class) → class_at p c ≡ o → {d : ClassId} → Among d (needs_in p o) → Reaches p.classes c d
  by_class None e h = elim h [ ]
  by_class (Some class) e h = by_kind class class.kind (λ d k. rw e k) h

  -- each class that c needs is a supertype of c
  pub needs_above : {d : ClassId} → Among d (needs p c) → Reaches p.classes c d
  unfolding needs
  needs_above h = by_class (class_at p c) refl h

-- what declares a method of the files' classes is one of them
default_in : (p : LinkedProgram) (d : ClassId) (o : Option Class) → class_at p d ≡ o → declares_default_in o ≡ true → d.number < length p.classes
default_in p d None e q = cc
default_in p d (Some class) e q = slice_get_within p.classes d.number class e

kind_in : (p : LinkedProgram) (class : Class) (k : ClassKind) {d : ClassId} → Among d (needs_by p class k) → d.number < length p.classes
kind_in p class kind.Interface h = elim h [ ]
kind_in p class kind.Class {d} h = elim (needed p class.superclass class.interfaces h) [
  | inl k ↦ ltb-true _ _ k.1
  | inr k ↦ default_in p d (class_at p d) refl k.1
]

class_in : (p : LinkedProgram) (o : Option Class) {d : ClassId} → Among d (needs_in p o) → d.number < length p.classes
class_in p None h = elim h [ ]
class_in p (Some class) h = kind_in p class class.kind h

all_of : (Q : ClassId → Type 0) (ds : List ClassId) → ((d : ClassId) → Among d ds → Q d) → AllByRecursion Q ds
all_of Q [] h = tt
all_of Q (d ∷ ds) h = (h d first, all_of Q ds (λ x k. h x (later k)))

-- and is of the program's files
pub needs_in_files : (p : LinkedProgram) (c : ClassId) → AllByRecursion (λ d. d.number < length p.classes) (needs p c)
unfolding needs
needs_in_files p c = all_of _ (needs_in p (class_at p c)) (λ d k. class_in p (class_at p c) k)
