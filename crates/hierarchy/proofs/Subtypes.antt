-- Ways up, step by step.
use Rattle.std.proofs.Common.{◌≡◌, ◌↔◌, ◌-◌, ◌≤◌, Bool, true, false, ◌⊎◌, inl, inr, Some, None, List, [], ◌∷◌, length, slice_get, refl, sym, ap, subst, ◌∙◌}
use Rattle.hierarchy.specs.declared.class.ClassId.{ClassId}
use Rattle.hierarchy.specs.declared.built_in.BuiltIn.{BuiltIn}
use Rattle.hierarchy.specs.BuiltIn.{superclass_of_built_in, built_ins}
use Rattle.hierarchy.specs.declared.class.Class.{Class}
use Rattle.hierarchy.specs.LinkedProgram.{built_in_after}
use Rattle.hierarchy.specs.ClassLists.{Among, first, later, is_among, distinct}
use Rattle.hierarchy.specs.Fields.{field_order, interfaces_first}
use Rattle.hierarchy.specs.Hierarchy.{supers, supers_of_built_in, built_in_list, Reaches, direct, further, IsSubtype, IsAcyclic}
use Rattle.hierarchy.proofs.ClassMembership.{among_from_true, true_from_among, add_all-has, add_all-cases}
use Rattle.hierarchy.proofs.Ancestries.{interfaces_first_upward, ancestry-self, ancestry-above, ancestry-reaches}
use Rattle.hierarchy.proofs.FieldOrders.{above_from_supers}
use Rattle.hierarchy.proofs.Acyclic.{supers-built_in, supers-past}

step_up : {classes : List Class} {c d : ClassId} → Reaches classes c d → (e : ClassId) × Among e (supers classes c) × ((d ≡ e) ⊎ Reaches classes e d)
step_up (direct {d = d} h) = (d, h, inl refl)
step_up (further {d = d} h r) = (d, h, inr r)

only : {d c : ClassId} → Among d (c ∷ []) → d ≡ c
only first = refl
only (later k) = elim k [ ]

-- no way up from a class without supertypes
pub none_above : (classes : List Class) (c d : ClassId) → supers classes c ≡ [] → Reaches classes c d → ⊥
none_above classes c d e r = let s = step_up r in let m : Among s.0 [] = rw e at s.1 in elim m [ ]

-- a way up from a class with one supertype goes through that
pub through : (classes : List Class) (c s d : ClassId) → supers classes c ≡ s ∷ [] → Reaches classes c d → (d ≡ s) ⊎ Reaches classes s d
through classes c s d e r =
    let t = step_up r in
    let same : t.0 ≡ s = only (rw e at t.1) in
    elim t.2 [ inl q ↦ inl (q ∙ same) | inr q ↦ inr (subst (λ z. Reaches classes z d) same q) ]

pub through_back : (classes : List Class) (c s d : ClassId) → supers classes c ≡ s ∷ [] → (d ≡ s) ⊎ Reaches classes s d → Reaches classes c d
through_back classes c s d e (inl q) = direct (rw (e, q) first)
through_back classes c s d e (inr r) = further (rw e first) r

pub built_in_none : (classes : List Class) (b : BuiltIn) (d : ClassId) → superclass_of_built_in b ≡ None → Reaches classes (built_in_after classes b) d → ⊥
built_in_none classes b d e r = none_above classes (built_in_after classes b) d (supers-built_in classes b ∙ ap (built_in_list classes) e) r

pub supers-some : (classes : List Class) (b s : BuiltIn) → superclass_of_built_in b ≡ Some s → supers classes (built_in_after classes b) ≡ built_in_after classes s ∷ []
supers-some classes b s e = supers-built_in classes b ∙ ap (built_in_list classes) e

same_supers : (classes : List Class) (c e d : ClassId) → supers classes c ≡ supers classes e → Reaches classes c d → Reaches classes e d
same_supers classes c e d q r =
    let s = step_up r in
    elim s.2 [ inl t ↦ direct (rw t (rw q at s.1)) | inr t ↦ further (rw q at s.1) t ]

-- the steps up from a built-in class
pub below_none : (classes : List Class) (b : BuiltIn) (d : ClassId) → superclass_of_built_in b ≡ None → (false ≡ true) ↔ Reaches classes (built_in_after classes b) d
below_none classes b d e = (λ t. absurd cc, λ r. absurd (built_in_none classes b d e r))

pub below_here : (classes : List Class) (b s : BuiltIn) (d : ClassId) → superclass_of_built_in b ≡ Some s → d ≡ built_in_after classes s → (true ≡ true) ↔ Reaches classes (built_in_after classes b) d
below_here classes b s d e q = (λ t. through_back classes (built_in_after classes b) (built_in_after classes s) d (supers-some classes b s e) (inl q), λ r. refl)

pub below_further : (classes : List Class) (b s : BuiltIn) (d : ClassId) (t : Bool) → superclass_of_built_in b ≡ Some s → (d ≡ built_in_after classes s → ⊥) → (t ≡ true) ↔ Reaches classes (built_in_after classes s) d → (t ≡ true) ↔ Reaches classes (built_in_after classes b) d
below_further classes b s d t e no_match h = (
  λ k. through_back classes (built_in_after classes b) (built_in_after classes s) d (supers-some classes b s e) (inr (h.0 k)),
  λ r. elim (through classes (built_in_after classes b) (built_in_after classes s) d (supers-some classes b s e) r) [ inl q ↦ absurd (no_match q) | inr q ↦ h.1 q ],
)

-- what is above a class is looked through for its fields
reaches_order : (classes : List Class) → IsAcyclic classes → {c d : ClassId} → Reaches classes c d → Among d (field_order classes c)
reaches_order classes a (direct {c = c} {d = d} h) =
    ancestry-above classes (interfaces_first classes) (interfaces_first_upward classes) a c d d (above_from_supers classes c d h) (ancestry-self classes (interfaces_first classes) (interfaces_first_upward classes) a d)
reaches_order classes a (further {c = c} {d = e} {e = d} h r) =
    ancestry-above classes (interfaces_first classes) (interfaces_first_upward classes) a c e d (above_from_supers classes c e h) (reaches_order classes a r)

subtype_order : (classes : List Class) → IsAcyclic classes → (c d : ClassId) → IsSubtype classes c d → Among d (field_order classes c)
subtype_order classes a c d (inl e) = subst (λ z. Among z (field_order classes c)) e (ancestry-self classes (interfaces_first classes) (interfaces_first_upward classes) a c)
subtype_order classes a c d (inr r) = reaches_order classes a r

order_subtype : (classes : List Class) → IsAcyclic classes → (c d : ClassId) → Among d (field_order classes c) → IsSubtype classes c d
order_subtype classes a c d m = elim (ancestry-reaches classes (interfaces_first classes) (interfaces_first_upward classes) a c d m) [ inl e ↦ inl (sym e) | inr r ↦ inr r ]

distinct_from : (cs : List ClassId) {c : ClassId} → Among c (distinct cs) → Among c cs
distinct_from cs h = elim (add_all-cases [] cs h) [ inl k ↦ elim k [ ] | inr k ↦ k ]

-- the classes in which a field of a class of the files is looked up are the class and what is above it
pub subtype_stored : (classes : List Class) (c d : ClassId) (found : List ClassId) (t : Bool) → IsAcyclic classes → found ≡ distinct (field_order classes c) → t ≡ is_among d found → (t ≡ true) ↔ IsSubtype classes c d
subtype_stored classes c d found t a e q = (
  λ k. order_subtype classes a c d (distinct_from (field_order classes c) (rw e at (among_from_true d found (sym q ∙ k)))),
  λ s. q ∙ true_from_among (subst (Among d) (sym e) (add_all-has [] (subtype_order classes a c d s))),
)

-- of another class only what is above counts
pub subtype_other : (classes : List Class) (c d : ClassId) (t : Bool) → (c ≡ d → ⊥) → (t ≡ true) ↔ Reaches classes c d → (t ≡ true) ↔ IsSubtype classes c d
subtype_other classes c d t n h = (λ k. inr (h.0 k), λ s. elim s [ inl e ↦ absurd (n e) | inr r ↦ h.1 r ])

-- past the files' classes
pub below_built_in : (classes : List Class) (c d : ClassId) (b : BuiltIn) (t : Bool) → length classes ≤ c.number → slice_get built_ins (c.number - length classes) ≡ Some b → (t ≡ true) ↔ Reaches classes (built_in_after classes b) d → (t ≡ true) ↔ Reaches classes c d
below_built_in classes c d b t l g h =
    let same : supers classes c ≡ supers classes (built_in_after classes b) = supers-past classes c l ∙ ap (supers_of_built_in classes) g ∙ sym (supers-built_in classes b) in
    (λ k. same_supers classes (built_in_after classes b) c d (sym same) (h.0 k), λ r. h.1 (same_supers classes c (built_in_after classes b) d same r))

pub below_unknown : (classes : List Class) (c d : ClassId) → length classes ≤ c.number → slice_get built_ins (c.number - length classes) ≡ None → (false ≡ true) ↔ Reaches classes c d
below_unknown classes c d l g = (λ t. absurd cc, λ r. absurd (none_above classes c d (supers-past classes c l ∙ ap (supers_of_built_in classes) g) r))

pub id-same : (c d : ClassId) → c.number ≡ d.number → c ≡ d
id-same c d e = λ i. record { number = e i }
