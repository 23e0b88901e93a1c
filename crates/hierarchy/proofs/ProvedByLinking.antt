-- What follows for a program from its being linked.
use Rattle.std.proofs.Common.{◌≡◌, ℕ, zero, suc, ◌+◌, ◌≤◌, inl, inr, Option, Some, None, List, [], length, slice_get, refl, arith}
use Rattle.std.proofs.lemmas.Bool.{cases_Bool}
use Rattle.std.specs.List.{All, IsDistinct}
use Rattle.hierarchy.specs.declared.class.Class.{Class}
use Rattle.hierarchy.specs.declared.class.ClassId.{ClassId}
use Rattle.hierarchy.specs.declared.built_in.TheConstants.{BUILT_IN_COUNT}
use Rattle.hierarchy.specs.declared.edition.Edition.{Edition}
use Rattle.hierarchy.specs.LinkedProgram.{LinkedProgram, linked_as, id}
use Rattle.hierarchy.specs.ClassLists.{add_all, is_among, same_class}
use Rattle.hierarchy.specs.Hierarchy.{supers, IsInRange, AreSupertypes, IsCyclic, IsAcyclic}
use Rattle.hierarchy.specs.Linking.{names_of, kinds_of}
use Rattle.hierarchy.specs.FirstFault.{HasNoCycle, HasDistinctMembers, FitsHeap}
use Rattle.hierarchy.specs.SpellableClass.{IsSpellableClass}
use Rattle.hierarchy.specs.LinkedTexts.{IsResolved, IsLinked}
use Rattle.hierarchy.proofs.ClassSets.{add_all-distinct}
use Rattle.hierarchy.proofs.ClassMembership.{among_from_true}
use Rattle.hierarchy.proofs.Searches.{Searches, searches_none, searches_more, searches_all, searched_through, length-get_none}
use Rattle.hierarchy.proofs.Acyclic.{IsClear, acyclic_all}
use Rattle.hierarchy.proofs.InRange.{as_many, in_range_all, spellable_all}

-- the supertypes of a class
pub record Above (classes : List Class) (c : ClassId) : Type 0 where
  pub found : List ClassId
  pub are : AreSupertypes classes c found

searched : (classes : List Class) (c : ClassId) → IsInRange classes → (left k : ℕ) (found : List ClassId) → Searches classes c found k → IsDistinct same_class found → length classes + BUILT_IN_COUNT ≤ k + left → Above classes c
searched classes c r zero k found s d h = record { found = found; are = searches_all classes c found k s (searched_through classes c found k r s (omega (arith, h)) d) d }
searched classes c r (suc left) k found s d h =
    at (slice_get found k) refl (λ x t. searched classes c r left (k + 1) (add_all found (supers classes x)) t (add_all-distinct found (supers classes x) d) (omega (arith, h)))
  where
    at : (o : Option ClassId) → o ≡ slice_get found k → ((x : ClassId) → Searches classes c (add_all found (supers classes x)) (k + 1) → Above classes c) → Above classes c
    at None e next = record { found = found; are = searches_all classes c found k s (length-get_none found k e) d }
    at (Some x) e next = next x (searches_more classes c found (add_all found (supers classes x)) k x s e refl)

above : (classes : List Class) → IsInRange classes → (c : ClassId) → Above classes c
unfolding IsDistinct
above classes r c =
    searched classes c r (length classes + BUILT_IN_COUNT) 0 (add_all [] (supers classes c)) (searches_none classes c [] (add_all [] (supers classes c)) refl refl) (add_all-distinct [] (supers classes c) tt) (omega arith)

clear : (classes : List Class) (c : ClassId) → Above classes c → (IsCyclic classes c → ⊥) → IsClear classes c
clear classes c a n = elim (cases_Bool (is_among c a.found)) [
  | inl e ↦ absurd (n (a.are.sound c (among_from_true c a.found e)))
  | inr e ↦ record { found = a.found; are = a.are; clear = e }
]

-- where no class is on a cycle each way up ends
pub acyclic_without_cycle : (classes : List Class) → IsInRange classes → HasNoCycle classes → IsAcyclic classes
acyclic_without_cycle classes r n = acyclic_all classes r (λ k l. clear classes (id k) (above classes r (id k)) (n k))

pub resolved_few : (classes : List Class) → IsResolved classes → length classes ≤ 1024
resolved_few classes h = omega (arith, as_many h.texts classes h.supertypes, h.names.room)

pub resolved_in_range : (classes : List Class) → IsResolved classes → IsInRange classes
resolved_in_range classes h = in_range_all h.texts classes h.supertypes

-- without a fault of the classes themselves, resolved classes are a linked program
pub resolved_linked : (edition : Edition) (classes : List Class) → IsResolved classes → HasNoCycle classes → HasDistinctMembers classes → FitsHeap classes → IsLinked (linked_as edition classes)
resolved_linked edition classes h cycles members heap = record {
  texts = h.texts;
  spellable = h.spellable;
  links = record { edition_is = refl; names = h.names; supertypes = h.supertypes; cycles = cycles; members = members; heap = heap };
}

pub linked_resolved : (p : LinkedProgram) → IsLinked p → IsResolved p.classes
linked_resolved p h = record { texts = h.texts; spellable = h.spellable; names = h.links.names; supertypes = h.links.supertypes }

pub linked_few : (p : LinkedProgram) → IsLinked p → length p.classes ≤ 1024
linked_few p h = resolved_few p.classes (linked_resolved p h)

pub linked_acyclic : (p : LinkedProgram) → IsLinked p → IsAcyclic p.classes
linked_acyclic p h = acyclic_without_cycle p.classes (resolved_in_range p.classes (linked_resolved p h)) h.links.cycles

pub resolved_spellable : (classes : List Class) → IsResolved classes → All IsSpellableClass classes
resolved_spellable classes h = spellable_all (names_of h.texts) (kinds_of h.texts) h.texts classes h.spellable h.supertypes

pub linked_spellable : (p : LinkedProgram) → IsLinked p → All IsSpellableClass p.classes
linked_spellable p h = resolved_spellable p.classes (linked_resolved p h)
