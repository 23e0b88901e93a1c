-- The search for an order in which each class comes after its direct supertypes.
use Rattle.std.proofs.Common.{◌≡◌, ℕ, zero, suc, ◌+◌, ◌<◌, ◌≤◌, inl, inr, Some, None, List, [], ◌∷◌, ◌++◌, length, take, get_or, slice_get, refl, sym, subst, ◌∙◌, arith}
use Rattle.std.proofs.lemmas.Bool.{cases_Bool, cases_lt}
use Rattle.std.proofs.lemmas.List.{take_all, take_more, take-append-le}
use Rattle.std.specs.List.{list_any}
use Rattle.hierarchy.specs.declared.class.Class.{Class}
use Rattle.hierarchy.specs.declared.class.ClassId.{ClassId}
use Rattle.hierarchy.specs.declared.built_in.TheConstants.{BUILT_IN_COUNT}
use Rattle.hierarchy.specs.LinkedProgram.{id}
use Rattle.hierarchy.specs.ClassLists.{Among, first, later, add_new, same_class}
use Rattle.hierarchy.specs.Hierarchy.{supers, interfaces_of, IsWithin, IsInRange, IsCyclic, IsAcyclic}
use Rattle.hierarchy.specs.Ancestry.{superclass_of}
use Rattle.hierarchy.specs.FirstFault.{HasNoCycle}
use Rattle.hierarchy.specs.UpwardOrder.{Rises, IsUpwardOrder}
use Rattle.hierarchy.proofs.Acyclic.{get-pushed, past_within, within_not_cyclic}
use Rattle.hierarchy.proofs.ClassMembership.{among_cases, every_at, every_from}
use Rattle.hierarchy.proofs.FieldOrders.{above_from_supers}
use Rattle.hierarchy.proofs.ProvedByLinking.{acyclic_without_cycle}
use Rattle.hierarchy.proofs.Searches.{among_one}
use Rattle.hierarchy.proofs.Walks.{none_id}

get-below : (xs : List ClassId) (k : ℕ) (c : ClassId) → slice_get xs k ≡ Some c → k < length xs
get-below [] k c e = absurd cc
get-below (x ∷ xs) zero c e = omega arith
get-below (x ∷ xs) (suc k) c e = let r = get-below xs k c e in omega (arith, r)

rises_pushed : (classes : List Class) (xs : List ClassId) (c : ClassId) → Rises classes xs → ((d : ClassId) → Among d (supers classes c) → Among d xs) → Rises classes (xs ++ c ∷ [])
rises_pushed classes xs c r h k e q d m =
    elim (get-pushed xs c k e q) [
      | inl l ↦ subst (Among d) (sym (take-append-le k xs (c ∷ []) (let b = get-below xs k e l in omega (arith, b)))) (r k e l d m)
      | inr l ↦
          subst (Among d)
          (sym (take-append-le k xs (c ∷ []) (omega (arith, l.0)) ∙ take_all k xs (omega (arith, l.0))))
          (h d (subst (λ z. Among d (supers classes z)) l.1 m))
    ]

-- a class whose direct supertypes are noted may be noted
pub rises_more : (classes : List Class) (xs next : List ClassId) (c : ClassId) → Rises classes xs → ((d : ClassId) → Among d (supers classes c) → Among d xs) → next ≡ add_new xs c → Rises classes next
rises_more classes xs next c r h n =
    rw n (elim (cases_Bool (list_any (same_class c) xs)) [ inl e ↦ rw e r | inr e ↦ rw e (rises_pushed classes xs c r h) ])

-- one of a list more is noted
pub noted_more : (items order next : List ClassId) (k : ℕ) → k < length items → ((d : ClassId) → Among d (take k items) → Among d order) → ((d : ClassId) → Among d order → Among d next) → Among (get_or items k none_id) next →
    (d : ClassId) → Among d (take (k + 1) items) → Among d next
noted_more items order next k h noted keeps there d m =
    elim (among_cases (take k items) (rw (take_more items k none_id h) at m)) [
      | inl l ↦ keeps d (noted d l)
      | inr l ↦ subst (λ z. Among z next) (sym (among_one l)) there
    ]

-- the whole list is noted
pub noted_all : (items order : List ClassId) (k : ℕ) → length items ≤ k → ((d : ClassId) → Among d (take k items) → Among d order) → (d : ClassId) → Among d items → Among d order
noted_all items order k h noted d m = noted d (subst (Among d) (sym (take_all k items h)) m)

-- its superinterfaces and its superclass are noted, so all direct supertypes
pub all_noted : (classes : List Class) (c s : ClassId) (order : List ClassId) → ((d : ClassId) → Among d (interfaces_of classes c) → Among d order) → superclass_of classes c ≡ Some s → Among s order → (d : ClassId) → Among d (supers classes c) → Among d order
all_noted classes c s order i e m d h =
    elim (among_cases (interfaces_of classes c) (above_from_supers classes c d h)) [
      | inl k ↦ i d k
      | inr k ↦ subst (λ z. Among z order) (sym (among_one (rw e at k))) m
    ]

-- likewise where there is no superclass
pub all_noted_none : (classes : List Class) (c : ClassId) (order : List ClassId) → ((d : ClassId) → Among d (interfaces_of classes c) → Among d order) → superclass_of classes c ≡ None → (d : ClassId) → Among d (supers classes c) → Among d order
all_noted_none classes c order i e d h =
    elim (among_cases (interfaces_of classes c) (above_from_supers classes c d h)) [
      | inl k ↦ i d k
      | inr k ↦ let none : Among d [] = rw e at k in elim none [ ]
    ]

-- a way up that takes too many steps from a direct supertype takes too many from the class
pub endless_further : (classes : List Class) (steps left : ℕ) (c d : ClassId) → steps ≡ suc left → Among d (supers classes c) → (IsWithin left classes d → ⊥) → IsWithin steps classes c → ⊥
endless_further classes steps left c d e m f w = f (every_at (IsWithin left classes) (subst (λ n. IsWithin n classes c) e w) m)

place_among : {c : ClassId} (xs : List ClassId) (n : ℕ) → Among c (take n xs) → (k : ℕ) × (k < n) × (slice_get xs k ≡ Some c)
place_among [] zero h = elim h [ ]
place_among [] (suc n) h = elim h [ ]
place_among (x ∷ xs) zero h = elim h [ ]
place_among (x ∷ xs) (suc n) first = (0, omega arith, refl)
place_among (x ∷ xs) (suc n) (later h) = let r = place_among xs n h in (suc r.0, omega (arith, r.1), r.2)

-- a class has no more steps above it than classes come before it
rises_within : (classes : List Class) (order : List ClassId) → Rises classes order → (n k : ℕ) (c : ClassId) → k < n → slice_get order k ≡ Some c → IsWithin n classes c
rises_within classes order r zero k c h e = absurd (omega (arith, h))
rises_within classes order r (suc n) k c h e =
    every_from (IsWithin n classes) (supers classes c)
    (λ d m. let p = place_among order k (r k c e d m) in rises_within classes order r n p.0 d (omega (arith, p.1, h)) p.2)

rises_not_cyclic : (classes : List Class) (order : List ClassId) (c : ClassId) → Rises classes order → Among c order → IsCyclic classes c → ⊥
rises_not_cyclic classes order c r m q =
    let p = place_among order (length order) (subst (Among c) (sym (take_all (length order) order (omega arith))) m) in
    within_not_cyclic classes (length order) c (rises_within classes order r (length order) p.0 c p.1 p.2) q

-- where all classes are so noted each way up ends
pub rises_acyclic : (classes : List Class) (order : List ClassId) → IsInRange classes → IsUpwardOrder classes order → IsAcyclic classes
rises_acyclic classes order i u = acyclic_without_cycle classes i none
  where
    none : HasNoCycle classes
    none n q = elim (cases_lt n (length classes)) [
      | inl l ↦ rises_not_cyclic classes order (id n) u.rises (u.whole n l) q
      | inr l ↦ within_not_cyclic classes (suc (suc BUILT_IN_COUNT)) (id n) (past_within classes BUILT_IN_COUNT (id n) l (omega arith)) q
    ]
