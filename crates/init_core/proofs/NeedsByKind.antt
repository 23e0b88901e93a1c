-- What each kind of class needs.
use Rattle.std.proofs.Common.{◌≡◌, Bool, Some, None, List, [], ◌∷◌, refl, sym, ap, ◌∙◌, inl, inr}
use Rattle.std.proofs.lemmas.Bool.{cases_Bool}
use Rattle.std.specs.Prelude.{filter}
use Rattle.std.specs.List.{flat_map}
use Rattle.jasmin_text.specs.declared.class_text.ClassKind.TheVariants as kind
use Rattle.hierarchy.specs.declared.class.Class.{Class}
use Rattle.hierarchy.specs.declared.class.ClassId.{ClassId}
use Rattle.hierarchy.specs.declared.edition.Edition.TheVariants as edition
use Rattle.hierarchy.specs.LinkedProgram.{LinkedProgram, class_at}
use Rattle.hierarchy.specs.ClassLists.{add_all, distinct}
use Rattle.hierarchy.specs.Hierarchy.{interfaces_of}
use Rattle.hierarchy.specs.Superinterfaces.{enumeration, superinterfaces}
use Rattle.hierarchy.proofs.ClassMembership.{filter-add_all, add_all-append}
use Rattle.init_core.specs.Needs.{is_in_file, declares_default, interfaces_first, needs_of_class, needs_by, needs_in, needs}

pub needs-none : (p : LinkedProgram) (c : ClassId) → None ≡ class_at p c → needs p c ≡ []
unfolding needs
needs-none p c e = rw (← e) refl

pub needs-interface : (p : LinkedProgram) (c : ClassId) (class : Class) → Some class ≡ class_at p c → class.kind ≡ kind.Interface → needs p c ≡ []
unfolding needs
needs-interface p c class e k = rw (← e, k) refl

pub needs-class : (p : LinkedProgram) (c : ClassId) (class : Class) → Some class ≡ class_at p c → class.kind ≡ kind.Class → needs p c ≡ needs_of_class p class.superclass (interfaces_of p.classes c)
unfolding needs
needs-class p c class e k = ap (needs_in p) (sym e) ∙ ap (needs_by p class) k ∙ rw (← e) refl

pub ruleset needs_rules = (needs-none, needs-interface, needs-class)

-- a list of at most one class has no repeats
pub distinct-one : (q : ClassId → Bool) (c : ClassId) → distinct (filter q (c ∷ [])) ≡ filter q (c ∷ [])
distinct-one q c = elim (cases_Bool (q c)) [ inl e ↦ rw e refl | inr e ↦ rw e refl ]

-- in edition 8 the repeats may be dropped before the filter
pub interfaces_by_default : (p : LinkedProgram) (c : ClassId) (found next : List ClassId) → p.edition ≡ edition.Eight → next ≡ add_all found (filter (declares_default p) (superinterfaces p.classes c)) →
    next ≡ add_all found (interfaces_first p.edition p (interfaces_of p.classes c))
interfaces_by_default p c found next e n =
    let xs = flat_map (enumeration p.classes) (interfaces_of p.classes c) in
    n ∙ filter-add_all (declares_default p) found [] xs ∙ sym (ap (λ z. add_all found (interfaces_first z p (interfaces_of p.classes c))) e)

pub needed : (p : LinkedProgram) (superclass : ClassId) (interfaces found next : List ClassId) → found ≡ filter (is_in_file p) (superclass ∷ []) → next ≡ add_all found (interfaces_first p.edition p interfaces) →
    next ≡ needs_of_class p superclass interfaces
needed p superclass interfaces found next e n =
    let s = filter (is_in_file p) (superclass ∷ []) in
    let after = interfaces_first p.edition p interfaces in
    n ∙ ap (λ z. add_all z after) (e ∙ sym (distinct-one (is_in_file p) superclass)) ∙ sym (add_all-append [] s after)
