-- The chain of superclasses, and the superinterfaces along it.
use Rattle.std.proofs.Common.{◌≡◌, ℕ, zero, suc, ◌≤◌, arith, Option, Some, None, List, [], ◌∷◌, ◌++◌, length, refl, sym, ap, ◌∙◌, append-nil}
use Rattle.std.specs.List.{flat_map}
use Rattle.std.specs.Option.{option_to_list}
use Rattle.hierarchy.specs.declared.class.ClassId.{ClassId}
use Rattle.hierarchy.specs.declared.class.Class.{Class}
use Rattle.hierarchy.specs.ClassLists.{add_new, add_all, distinct}
use Rattle.hierarchy.specs.Hierarchy.{IsAcyclic, IsWithin, height}
use Rattle.hierarchy.specs.Superinterfaces.{enumeration}
use Rattle.hierarchy.specs.Ancestry.{ancestry_within, ancestry, superclass_of, superclass_alone, superclasses, superclasses_from}
use Rattle.hierarchy.specs.Fields.{interfaces_first, field_order}
use Rattle.hierarchy.specs.Methods.{enumeration_of_all, all_superinterfaces}
use Rattle.hierarchy.proofs.ClassMembership.{add_all-append}
use Rattle.hierarchy.proofs.Ancestries.{superclass_upward, ancestry-law, within_above}
use Rattle.hierarchy.proofs.FieldOrders.{superclass_is_above, superclass_past, interfaces_past, above_past}

-- c itself, then its superclass and so on
pub superclasses-step : (classes : List Class) → IsAcyclic classes → (c : ClassId) → superclasses classes c ≡ c ∷ superclasses_from classes (superclass_of classes c)
superclasses-step classes a c =
    ancestry-law classes (superclass_alone classes) (superclass_upward classes) a c ∙ ap (λ z. c ∷ z) (at (superclass_of classes c))
  where
    at : (o : Option ClassId) → flat_map (superclasses classes) (option_to_list o) ≡ superclasses_from classes o
    at None = refl
    at (Some s) = append-nil (superclasses classes s)

pub superclasses-at : (classes : List Class) → IsAcyclic classes → (c : ClassId) (o : Option ClassId) → superclass_of classes c ≡ o → superclasses classes c ≡ c ∷ superclasses_from classes o
superclasses-at classes a c o e = superclasses-step classes a c ∙ ap (λ z. c ∷ superclasses_from classes z) e

-- c, then its superclasses
pub chain_some : (classes : List Class) → IsAcyclic classes → (start now next : List ClassId) (c s : ClassId) → superclass_of classes c ≡ Some s → now ≡ add_new start c → next ≡ add_all now (superclasses classes s) → next ≡ add_all start (superclasses classes c)
chain_some classes a start now next c s e n h = h ∙ ap (λ z. add_all z (superclasses classes s)) n ∙ sym (ap (add_all start) (superclasses-at classes a c (Some s) e))

pub chain_none : (classes : List Class) → IsAcyclic classes → (start now : List ClassId) (c : ClassId) → superclass_of classes c ≡ None → now ≡ add_new start c → now ≡ add_all start (superclasses classes c)
chain_none classes a start now c e n = n ∙ sym (ap (add_all start) (superclasses-at classes a c None e))

chain_within : (classes : List Class) (d : ℕ) (c : ClassId) → length (ancestry_within d (superclass_alone classes) c) ≤ d
chain_within classes zero c = omega arith
chain_within classes (suc d) c = at (superclass_of classes c) (chain_within classes d)
  where
    at : (o : Option ClassId) → ((s : ClassId) → length (ancestry_within d (superclass_alone classes) s) ≤ d) → suc (length (flat_map (ancestry_within d (superclass_alone classes)) (option_to_list o))) ≤ suc d
    at None within = omega arith
    at (Some s) within = let l = within s in rw (append-nil (ancestry_within d (superclass_alone classes) s)) (omega (arith, l))

-- a class has no more superclasses than a way up has steps
pub superclasses-few : (classes : List Class) (c : ClassId) → length (superclasses classes c) ≤ height classes
unfolding ancestry
superclasses-few classes c = chain_within classes (height classes) c

-- the superinterfaces of c, then those of its superclasses
pub upward_some : (classes : List Class) → IsAcyclic classes → (start now next : List ClassId) (c s : ClassId) → now ≡ add_all start (enumeration_of_all classes c) → superclass_of classes c ≡ Some s →
    next ≡ add_all now (flat_map (enumeration_of_all classes) (superclasses classes s)) → next ≡ add_all start (flat_map (enumeration_of_all classes) (superclasses classes c))
upward_some classes a start now next c s n e h =
    h ∙ ap (λ z. add_all z (flat_map (enumeration_of_all classes) (superclasses classes s))) n ∙
    sym (add_all-append start (enumeration_of_all classes c) (flat_map (enumeration_of_all classes) (superclasses classes s))) ∙
    ap (λ z. add_all start (flat_map (enumeration_of_all classes) z)) (sym (superclasses-at classes a c (Some s) e))

pub upward_none : (classes : List Class) → IsAcyclic classes → (start now : List ClassId) (c : ClassId) → now ≡ add_all start (enumeration_of_all classes c) → superclass_of classes c ≡ None →
    now ≡ add_all start (flat_map (enumeration_of_all classes) (superclasses classes c))
upward_none classes a start now c n e =
    n ∙ ap (add_all start) (sym (append-nil (enumeration_of_all classes c))) ∙ ap (λ z. add_all start (flat_map (enumeration_of_all classes) z)) (sym (superclasses-at classes a c None e))

nothing_past : (classes : List Class) → IsAcyclic classes → (d : ℕ) (c : ClassId) → IsWithin d classes c → length classes ≤ c.number → flat_map (enumeration_of_all classes) (superclasses classes c) ≡ []
nothing_past classes a zero c w h = absurd w
nothing_past classes a (suc d) c w h = at (superclass_of classes c) refl (λ s k l. nothing_past classes a d s k l)
  where
    own : enumeration_of_all classes c ≡ []
    own = ap (flat_map (enumeration classes)) (interfaces_past classes c h)

    at : (o : Option ClassId) → superclass_of classes c ≡ o → ((s : ClassId) → IsWithin d classes s → length classes ≤ s.number → flat_map (enumeration_of_all classes) (superclasses classes s) ≡ []) →
        flat_map (enumeration_of_all classes) (superclasses classes c) ≡ []
    at None e r = ap (flat_map (enumeration_of_all classes)) (superclasses-at classes a c None e) ∙ append-nil (enumeration_of_all classes c) ∙ own
    at (Some s) e r =
        ap (flat_map (enumeration_of_all classes)) (superclasses-at classes a c (Some s) e) ∙ ap (λ z. z ++ flat_map (enumeration_of_all classes) (superclasses classes s)) own ∙
        r s (within_above classes (superclass_alone classes) (superclass_upward classes) d c s w (superclass_is_above classes c s e)) (superclass_past classes c s h e)

-- past the files' classes there are no superinterfaces, direct or not
pub inherited_past : (classes : List Class) → IsAcyclic classes → (c : ClassId) → length classes ≤ c.number → all_superinterfaces classes c ≡ []
inherited_past classes a c h = ap distinct (nothing_past classes a (height classes) c (a c) h)

order_past_within : (classes : List Class) (d : ℕ) (c : ClassId) → length classes ≤ c.number → ancestry_within d (interfaces_first classes) c ≡ ancestry_within d (superclass_alone classes) c
order_past_within classes zero c h = refl
order_past_within classes (suc d) c h = ap (λ z. c ∷ z) (ap (flat_map (ancestry_within d (interfaces_first classes))) (above_past classes c h) ∙ at (superclass_of classes c) refl (λ s k. order_past_within classes d s k))
  where
    at : (o : Option ClassId) → superclass_of classes c ≡ o → ((s : ClassId) → length classes ≤ s.number → ancestry_within d (interfaces_first classes) s ≡ ancestry_within d (superclass_alone classes) s) →
        flat_map (ancestry_within d (interfaces_first classes)) (option_to_list o) ≡ flat_map (ancestry_within d (superclass_alone classes)) (option_to_list o)
    at None e same = refl
    at (Some s) e same = ap (λ z. z ++ []) (same s (superclass_past classes c s h e))

-- past the files' classes a field is looked up in the superclasses alone
pub order_past : (classes : List Class) (c : ClassId) → length classes ≤ c.number → superclasses classes c ≡ field_order classes c
unfolding ancestry
order_past classes c h = sym (order_past_within classes (height classes) c h)
