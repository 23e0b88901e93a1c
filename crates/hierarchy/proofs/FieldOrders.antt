-- The order in which a field is looked up, step by step.
use Rattle.std.proofs.Common.{◌≡◌, ℕ, ◌+◌, ◌-◌, ◌<◌, ◌≤◌, Option, Some, None, List, [], ◌∷◌, ◌++◌, length, take, get_or, slice_get, refl, sym, ap, subst, ◌∙◌, arith, append-nil}
use Rattle.std.proofs.lemmas.List.{take_all}
use Rattle.std.proofs.lemmas.Grind.{flat_map-append}
use Rattle.std.specs.List.{flat_map}
use Rattle.std.specs.Option.{option_map, option_to_list}
use Rattle.hierarchy.specs.declared.class.ClassId.{ClassId}
use Rattle.hierarchy.specs.declared.built_in.BuiltIn.{BuiltIn}
use Rattle.hierarchy.specs.BuiltIn.{built_ins, superclass_of_built_in, number_of}
use Rattle.hierarchy.specs.declared.class.Class.{Class}
use Rattle.hierarchy.specs.LinkedProgram.{class_among, built_in_after}
use Rattle.hierarchy.specs.ClassLists.{Among, first, later, add_new, add_all}
use Rattle.hierarchy.specs.Hierarchy.{interfaces_in, interfaces_of, supers, supers_in, built_in_list, IsAcyclic}
use Rattle.hierarchy.specs.Ancestry.{superclass_in, superclass_of, superclass_alone}
use Rattle.hierarchy.specs.Fields.{interfaces_first, field_order}
use Rattle.hierarchy.proofs.Acyclic.{get-past}
use Rattle.hierarchy.proofs.ClassMembership.{among_left, among_right, add_all-append}
use Rattle.hierarchy.proofs.Walks.{none_id, among_get_or}
use Rattle.hierarchy.proofs.Ancestries.{interfaces_first_upward, walked_order}

-- a direct superinterface is directly above
pub interface_above : (classes : List Class) (c : ClassId) (items : List ClassId) (k : ℕ) → interfaces_of classes c ≡ items → k < length items → Among (get_or items k none_id) (interfaces_first classes c)
interface_above classes c items k e h = among_left (superclass_alone classes c) (rw e (among_get_or items k h))

pub superclass_is_above : (classes : List Class) (c s : ClassId) → superclass_of classes c ≡ Some s → Among s (superclass_alone classes c)
superclass_is_above classes c s e = subst (λ o. Among s (option_to_list o)) (sym e) first

pub superclass_above : (classes : List Class) (c s : ClassId) → superclass_of classes c ≡ Some s → Among s (interfaces_first classes c)
superclass_above classes c s e = among_right (interfaces_of classes c) (superclass_is_above classes c s e)

-- a direct supertype is a direct superinterface or the superclass
pub above_from_supers : (classes : List Class) (c d : ClassId) → Among d (supers classes c) → Among d (interfaces_first classes c)
above_from_supers classes c d = at (class_among classes c) (slice_get built_ins (c.number - length classes))
  where
    built : (o : Option BuiltIn) → Among d (built_in_list classes o) → Among d (option_to_list (option_map (built_in_after classes) o))
    built None h = h
    built (Some s) h = h

    at : (o : Option Class) (b : Option BuiltIn) → Among d (supers_in classes o b) → Among d (interfaces_in o ++ option_to_list (superclass_in classes o b))
    at (Some class) b first = among_right class.interfaces first
    at (Some class) b (later h) = among_left (class.superclass ∷ []) h
    at None None h = h
    at None (Some b) h = built (superclass_of_built_in b) h

-- the walk over all superinterfaces
pub interfaces_walked : (classes : List Class) (c : ClassId) (items start now : List ClassId) (k : ℕ) → interfaces_of classes c ≡ items → length items ≤ k → now ≡ add_all start (flat_map (field_order classes) (take k items)) → now ≡ add_all start (flat_map (field_order classes) (interfaces_of classes c))
interfaces_walked classes c items start now k e l n = n ∙ ap (λ z. add_all start (flat_map (field_order classes) z)) (take_all k items l ∙ sym e)

-- the superinterfaces, then the superclass
pub ordered_some : (classes : List Class) → IsAcyclic classes → (start now next : List ClassId) (c s : ClassId) → now ≡ add_all (add_new start c) (flat_map (field_order classes) (interfaces_of classes c)) → superclass_of classes c ≡ Some s →
    next ≡ add_all now (field_order classes s) → next ≡ add_all start (field_order classes c)
ordered_some classes a start now next c s n e h =
    walked_order classes (interfaces_first classes) (interfaces_first_upward classes) a start next (add_new start c) c refl
    (h ∙ ap (λ z. add_all z (field_order classes s)) n ∙ sym (add_all-append (add_new start c) (flat_map (field_order classes) (interfaces_of classes c)) (field_order classes s)) ∙
    ap (λ z. add_all (add_new start c) (flat_map (field_order classes) (interfaces_of classes c) ++ z)) (sym (append-nil (field_order classes s))) ∙
    ap (add_all (add_new start c)) (sym (flat_map-append (field_order classes) (interfaces_of classes c) (s ∷ []))) ∙
    ap (λ o. add_all (add_new start c) (flat_map (field_order classes) (interfaces_of classes c ++ option_to_list o))) (sym e))

pub ordered_none : (classes : List Class) → IsAcyclic classes → (start now : List ClassId) (c : ClassId) → now ≡ add_all (add_new start c) (flat_map (field_order classes) (interfaces_of classes c)) → superclass_of classes c ≡ None →
    now ≡ add_all start (field_order classes c)
ordered_none classes a start now c n e =
    walked_order classes (interfaces_first classes) (interfaces_first_upward classes) a start now (add_new start c) c refl
    (n ∙ ap (λ z. add_all (add_new start c) (flat_map (field_order classes) z)) (sym (append-nil (interfaces_of classes c))) ∙
    ap (λ o. add_all (add_new start c) (flat_map (field_order classes) (interfaces_of classes c ++ option_to_list o))) (sym e))

-- past the files' classes there are no superinterfaces
pub interfaces_past : (classes : List Class) (c : ClassId) → length classes ≤ c.number → interfaces_of classes c ≡ []
interfaces_past classes c h = ap interfaces_in (get-past classes c.number h)

pub above_past : (classes : List Class) (c : ClassId) → length classes ≤ c.number → interfaces_first classes c ≡ superclass_alone classes c
above_past classes c h = ap (λ z. z ++ superclass_alone classes c) (interfaces_past classes c h)

-- the superclass of a built-in class is one
pub superclass_past : (classes : List Class) (c s : ClassId) → length classes ≤ c.number → superclass_of classes c ≡ Some s → length classes ≤ s.number
superclass_past classes c s h e = at (slice_get built_ins (c.number - length classes)) (sym (ap (λ o. superclass_in classes o (slice_get built_ins (c.number - length classes))) (get-past classes c.number h)) ∙ e)
  where
    built : (o : Option BuiltIn) → option_map (built_in_after classes) o ≡ Some s → length classes ≤ s.number
    built None q = absurd cc
    built (Some b) q = let same : built_in_after classes b ≡ s = cc in let n : length classes + number_of b ≡ s.number = ap (λ (z : ClassId). z.number) same in omega arith

    at : (b : Option BuiltIn) → superclass_in classes None b ≡ Some s → length classes ≤ s.number
    at None q = absurd cc
    at (Some b) q = built (superclass_of_built_in b) q
