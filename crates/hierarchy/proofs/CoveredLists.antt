-- What is left out was found: the list of the nearest superinterface is shorter by one.
use Rattle.std.proofs.Common.{◌≡◌, ℕ, zero, suc, ◌+◌, ◌<◌, ◌≤◌, true, false, inl, inr, Option, Some, List, [], ◌∷◌, length, refl, sym, ap, subst, ◌∙◌}
use Rattle.std.proofs.lemmas.Bool.{cases_Bool}
use Rattle.std.specs.Prelude.{IfSome}
use Rattle.std.specs.List.{list_all, flat_map}
use Rattle.std.specs.Option.{option_to_list}
use Rattle.hierarchy.specs.declared.class.Class.{Class}
use Rattle.hierarchy.specs.declared.class.ClassId.{ClassId}
use Rattle.hierarchy.specs.Ancestry.{ancestry_within, ancestry, superclass_alone, superclass_of, IsWholeAbove}
use Rattle.hierarchy.specs.ClassLists.{Among, first, later, add_new, add_all, distinct, is_among}
use Rattle.hierarchy.specs.Fields.{field_order, interfaces_first}
use Rattle.hierarchy.specs.FinishedLists.{AreFinished, listed, IsCovered}
use Rattle.hierarchy.specs.Hierarchy.{interfaces_of, supers, Reaches, direct, further, IsSubtype, height, IsAcyclic}
use Rattle.hierarchy.specs.Superinterfaces.{enumeration_within, enumeration, superinterfaces, IsClosed, IsTable}
use Rattle.hierarchy.proofs.Acyclic.{not_cyclic}
use Rattle.hierarchy.proofs.Ancestries.{interfaces_first_upward, ancestry-law, ancestry-self, ancestry-above, ancestry_cases, ancestry-reaches, ancestry-whole}
use Rattle.hierarchy.proofs.ClassMembership.{among_from_true, among_all, among_left, among_cases, add_new-there, add_new-has, add_new-keeps, add_all-has, add_all-added, distinct-from}
use Rattle.hierarchy.proofs.ClassSets.{distinct-once}
use Rattle.hierarchy.proofs.Counts.{all_counted}
use Rattle.hierarchy.proofs.Enumerations.{flat_map-has, flat_map-from, among_supers, enumeration-law, enumeration_within-whole}
use Rattle.hierarchy.proofs.FieldOrders.{interfaces_past}
use Rattle.hierarchy.proofs.FinishedLists.{table_finished, listed_is, listed_within}
use Rattle.hierarchy.proofs.Searches.{among_one, reaches_on}
use Rattle.hierarchy.proofs.Walks.{walked_all}

enumeration_within-ordered : (classes : List Class) (d : ℕ) (i : ClassId) {j : ClassId} → Among j (enumeration_within d classes i) → Among j (ancestry_within d (interfaces_first classes) i)
enumeration_within-ordered classes zero i h = elim h [ ]
enumeration_within-ordered classes (suc d) i {j} h =
    elim (among_cases (flat_map (enumeration_within d classes) (interfaces_of classes i)) h) [
      | inl k ↦
          let r = flat_map-from (enumeration_within d classes) (interfaces_of classes i) k in
          later (flat_map-has (ancestry_within d (interfaces_first classes)) (among_left (superclass_alone classes i) r.1) (enumeration_within-ordered classes d r.0 r.2))
      | inr k ↦ subst (λ z. Among z (ancestry_within (suc d) (interfaces_first classes) i)) (sym (among_one k)) first
    ]

-- fields are looked up in each class of an enumeration
enumeration-ordered : (classes : List Class) (i : ClassId) {j : ClassId} → Among j (enumeration classes i) → Among j (field_order classes i)
unfolding enumeration ancestry
enumeration-ordered classes i h = enumeration_within-ordered classes (height classes) i h

-- a superinterface is in the enumeration
superinterface_enumerated : (classes : List Class) → IsAcyclic classes → (c i : ClassId) → Among i (superinterfaces classes c) → Among i (enumeration classes c)
superinterface_enumerated classes a c i h =
    subst (λ z. Among i z) (sym (enumeration-law classes c a)) (among_left (c ∷ []) (distinct-from (flat_map (enumeration classes) (interfaces_of classes c)) h))

superinterface_above : (classes : List Class) → IsAcyclic classes → (c i : ClassId) → Among i (superinterfaces classes c) → Reaches classes c i
superinterface_above classes a c i h =
    let r = flat_map-from (enumeration classes) (interfaces_of classes c) (distinct-from (flat_map (enumeration classes) (interfaces_of classes c)) h) in
    elim (ancestry-reaches classes (interfaces_first classes) (interfaces_first_upward classes) a r.0 i (enumeration-ordered classes r.0 r.2)) [
      | inl e ↦ direct (subst (λ z. Among z (supers classes c)) (sym e) (among_supers classes c r.0 r.1))
      | inr q ↦ further (among_supers classes c r.0 r.1) q
    ]

-- the superinterfaces of a superinterface are there
superinterfaces_whole : (classes : List Class) → IsAcyclic classes → (c i j : ClassId) → Among i (superinterfaces classes c) → Among j (superinterfaces classes i) → Among j (superinterfaces classes c)
superinterfaces_whole classes a c i j h k =
    let r = flat_map-from (enumeration classes) (interfaces_of classes c) (distinct-from (flat_map (enumeration classes) (interfaces_of classes c)) h) in
    add_all-has [] (flat_map-has (enumeration classes) r.1 (enumeration_within-whole classes a (height classes) r.0 (a r.0) i r.2 j (superinterface_enumerated classes a i j k)))

superinterfaces_past : (classes : List Class) (c : ClassId) → length classes ≤ c.number → superinterfaces classes c ≡ []
superinterfaces_past classes c h = ap (λ z. distinct (flat_map (enumeration classes) z)) (interfaces_past classes c h)

pub listed_superinterfaces : (classes : List Class) (P : ClassId → Type 0) (all : List (List ClassId)) (c : ClassId) → P c → AreFinished (superinterfaces classes) classes P all → listed all c.number ≡ superinterfaces classes c
listed_superinterfaces classes P all c p a = listed_is a c p (superinterfaces_past classes c)

nearest_in : {o : Option ClassId} {c : ClassId} {xs ys : List ClassId} → IfSome o (λ d. Among d xs) → o ≡ Some c → xs ≡ ys → Among c ys
nearest_in {c = c} {xs = xs} h e s = subst (λ z. Among c z) s (subst (λ o. IfSome o (λ d. Among d xs)) e h)

not_among : (i : ClassId) (xs : List ClassId) → (Among i xs → ⊥) → is_among i xs ≡ false
not_among i xs h = elim (cases_Bool (is_among i xs)) [ inl e ↦ absurd (h (among_from_true i xs e)) | inr e ↦ e ]

-- of superinterfaces the last is the nearest
pub superinterfaces_covered : (classes : List Class) → IsAcyclic classes → (all : List (List ClassId)) (i : ClassId) (nearest : Option ClassId) (found : List ClassId) → AreFinished (superinterfaces classes) classes (IsSubtype classes i) all → IsClosed classes found →
    IfSome nearest (λ c. Among c (listed all i.number)) → IsCovered all (listed all i.number) nearest found → (y : ClassId) → Among y (listed all i.number) → Among y found
superinterfaces_covered classes a all i nearest found s closed n k y m =
    let list_is : listed all i.number ≡ superinterfaces classes i = listed_superinterfaces classes (IsSubtype classes i) all i (inl refl) s in
    let there : Among k.class (superinterfaces classes i) = nearest_in n k.is_nearest list_is in
    let above_is : k.above ≡ superinterfaces classes k.class = s.are k.class (inr (superinterface_above classes a i k.class there)) k.above k.there in
    elim (all_counted k.class (superinterfaces classes k.class) (superinterfaces classes i)
    (not_among k.class (superinterfaces classes k.class) (λ q. not_cyclic classes a k.class (superinterface_above classes a k.class k.class q)))
    (distinct-once (flat_map (enumeration classes) (interfaces_of classes k.class))) there
    (λ q h. superinterfaces_whole classes a i k.class q there h)
    (ap (λ z. length z + 1) (sym above_is) ∙ k.shorter ∙ ap length list_is) y (subst (λ z. Among y z) list_is m)) [
      | inl e ↦ subst (λ z. Among z found) (sym e) (among_from_true k.class found k.was_found)
      | inr q ↦ closed k.class (among_from_true k.class found k.was_found) y (superinterface_enumerated classes a k.class y q)
    ]

-- the superinterfaces, then the interface itself
pub enumerated : (classes : List Class) → IsAcyclic classes → (start now next list : List ClassId) (i : ClassId) → list ≡ superinterfaces classes i → now ≡ add_all start list → next ≡ add_new now i → next ≡ add_all start (enumeration classes i)
enumerated classes a start now next list i l n e =
    walked_all classes start now next i a (n ∙ ap (add_all start) l ∙ add_all-added start [] (flat_map (enumeration classes) (interfaces_of classes i))) e

-- of superinterfaces the direct ones bring all
pub superinterfaces_brought : (classes : List Class) (i : ClassId) (found : List ClassId) → IsClosed classes found → list_all (λ c. is_among c found) (interfaces_of classes i) ≡ true → (y : ClassId) → Among y (superinterfaces classes i) → Among y found
superinterfaces_brought classes i found closed h y m =
    let r = flat_map-from (enumeration classes) (interfaces_of classes i) (distinct-from (flat_map (enumeration classes) (interfaces_of classes i)) m) in
    closed r.0 (among_all found h r.1) y r.2

-- where fields are looked up the last superinterface is the nearest
pub order_covered : (classes : List Class) → IsAcyclic classes → (tables all : List (List ClassId)) (i : ClassId) (nearest : Option ClassId) (found : List ClassId) → IsTable (superinterfaces classes) (length classes) tables →
    AreFinished (λ c. distinct (field_order classes c)) classes (IsSubtype classes i) all → i.number < length classes → IsWholeAbove classes (interfaces_first classes) i found →
    IfSome nearest (λ c. Among c (listed tables i.number)) → IsCovered all (listed all i.number) nearest found → (y : ClassId) → Among y (listed all i.number) → Among y (add_new found i)
order_covered classes a tables all i nearest found t s w whole n k y m =
    let up = interfaces_first_upward classes in
    let list_is : listed all i.number ≡ distinct (field_order classes i) = listed_within s i (inl refl) w in
    let superinterface : Among k.class (superinterfaces classes i) =
    nearest_in n k.is_nearest (listed_superinterfaces classes (IsSubtype classes i) tables i (inl refl) (table_finished (IsSubtype classes i) t)) in
    let above : Reaches classes i k.class = superinterface_above classes a i k.class superinterface in
    let ordered : Among k.class (field_order classes i) = enumeration-ordered classes i (superinterface_enumerated classes a i k.class superinterface) in
    let above_is : k.above ≡ distinct (field_order classes k.class) = s.are k.class (inr above) k.above k.there in
    let lacks : Among i (distinct (field_order classes k.class)) → ⊥ = λ h. elim (ancestry-reaches classes (interfaces_first classes) up a k.class i (distinct-from (field_order classes k.class) h)) [
      | inl same ↦ not_cyclic classes a i (subst (λ z. Reaches classes i z) (sym same) above)
      | inr r ↦ not_cyclic classes a i (reaches_on above r)
    ] in
    elim (all_counted i (distinct (field_order classes k.class)) (distinct (field_order classes i)) (not_among i (distinct (field_order classes k.class)) lacks)
    (distinct-once (field_order classes k.class)) (add_all-has [] (ancestry-self classes (interfaces_first classes) up a i))
    (λ q h. add_all-has [] (ancestry-whole classes (interfaces_first classes) up a i k.class q ordered (distinct-from (field_order classes k.class) h)))
    (ap (λ z. length z + 1) (sym above_is) ∙ k.shorter ∙ ap length list_is) y (subst (λ z. Among y z) list_is m)) [
      | inl same ↦ subst (λ z. Among z (add_new found i)) (sym same) (add_new-has found i)
      | inr q ↦ add_new-keeps found i (whole k.class ordered (among_from_true k.class found k.was_found) y (distinct-from (field_order classes k.class) q))
    ]

-- where fields are looked up the direct supertypes bring all but the class itself
pub order_brought : (classes : List Class) → IsAcyclic classes → (i s : ClassId) (found : List ClassId) → IsWholeAbove classes (interfaces_first classes) i found → superclass_of classes i ≡ Some s → Among s found → list_all (λ c. is_among c found) (interfaces_of classes i) ≡ true →
    (y : ClassId) → Among y (distinct (field_order classes i)) → Among y (add_new found i)
order_brought classes a i s found whole e k h y m =
    let up = interfaces_first_upward classes in
    elim (ancestry_cases classes (interfaces_first classes) up a i y (distinct-from (field_order classes i) m)) [
      | inl same ↦ subst (λ z. Among z (add_new found i)) (sym same) (add_new-has found i)
      | inr r ↦ add_new-keeps found i (whole r.0 (ancestry-above classes (interfaces_first classes) up a i r.0 r.0 r.1 (ancestry-self classes (interfaces_first classes) up a r.0)) (brought r.1) y r.2)
    ]
  where
    brought : {d : ClassId} → Among d (interfaces_first classes i) → Among d found
    brought {d} q =
        elim (among_cases (interfaces_of classes i) q) [
          | inl l ↦ among_all found h l
          | inr l ↦ subst (λ z. Among z found) (sym (among_one (subst (λ o. Among d (option_to_list o)) e l))) k
        ]

-- the class itself, then its order, in which it comes first
pub ordered_again : (classes : List Class) → IsAcyclic classes → (start now next list : List ClassId) (i : ClassId) → list ≡ distinct (field_order classes i) → now ≡ add_new start i → next ≡ add_all now list → next ≡ add_all start (field_order classes i)
ordered_again classes a start now next list i l n e =
    e ∙ ap (add_all now) l ∙ add_all-added now [] (field_order classes i) ∙ ap (λ z. add_all z (field_order classes i)) n ∙ again
  where
    rest : List ClassId
    rest = flat_map (field_order classes) (interfaces_first classes i)

    law : field_order classes i ≡ i ∷ rest
    law = ancestry-law classes (interfaces_first classes) (interfaces_first_upward classes) a i

    again : add_all (add_new start i) (field_order classes i) ≡ add_all start (field_order classes i)
    again = ap (add_all (add_new start i)) law ∙ ap (λ z. add_all z rest) (add_new-there (add_new start i) i (add_new-has start i)) ∙ sym (ap (add_all start) law)
