-- The walk over superinterfaces: it adds the enumeration, and leaves out what was found before.
use Rattle.std.proofs.Common.{◌≡◌, ℕ, zero, suc, ◌+◌, ◌<◌, true, List, [], ◌∷◌, ◌++◌, length, get_or, sym, ap, ◌∙◌, arith, length-append, inl, inr}
use Rattle.std.specs.List.{flat_map}
use Rattle.hierarchy.specs.declared.class.ClassId.{ClassId}
use Rattle.hierarchy.specs.declared.class.Class.{Class}
use Rattle.hierarchy.specs.LinkedProgram.{id}
use Rattle.hierarchy.specs.ClassLists.{Among, first, later, add_new, add_all, is_among}
use Rattle.hierarchy.specs.Hierarchy.{interfaces_of, IsAcyclic}
use Rattle.hierarchy.specs.Superinterfaces.{enumeration, IsClosed, IsTable}
use Rattle.hierarchy.proofs.ClassMembership.{among_from_true, add_all-there, add_all-append}
use Rattle.hierarchy.proofs.Enumerations.{enumeration-law}
use Rattle.hierarchy.proofs.Acyclic.{get-pushed}

abbrev pub none_id : ClassId
none_id = id 0

pub among_get_or : (xs : List ClassId) (k : ℕ) → k < length xs → Among (get_or xs k none_id) xs
among_get_or [] k h = absurd (omega (arith, h))
among_get_or (x ∷ xs) zero h = first
among_get_or (x ∷ xs) (suc k) h = later (among_get_or xs k (omega (arith, h)))

pub interface_there : (classes : List Class) (c : ClassId) (items : List ClassId) (k : ℕ) → interfaces_of classes c ≡ items → k < length items → Among (get_or items k none_id) (interfaces_of classes c)
interface_there classes c items k e h = rw e (among_get_or items k h)

-- a class that was found needs no second walk
pub skipped : (classes : List Class) (xs : List ClassId) (i : ClassId) → IsAcyclic classes → IsClosed classes xs → is_among i xs ≡ true → xs ≡ add_all xs (enumeration classes i)
skipped classes xs i a c e = sym (add_all-there xs (enumeration classes i) (c i (among_from_true i xs e)))

-- the class itself comes last
pub walked_all : (classes : List Class) (start now next : List ClassId) (i : ClassId) → IsAcyclic classes → now ≡ add_all start (flat_map (enumeration classes) (interfaces_of classes i)) → next ≡ add_new now i → next ≡ add_all start (enumeration classes i)
walked_all classes start now next i a e n =
    rw (enumeration-law classes i a, add_all-append start (flat_map (enumeration classes) (interfaces_of classes i)) (i ∷ [])) (rw e at n)

-- one class more
pub table_more : (f : ClassId → List ClassId) (n : ℕ) (all next : List (List ClassId)) (found : List ClassId) → IsTable f n all → found ≡ f (id n) → next ≡ all ++ found ∷ [] → IsTable f (n + 1) next
table_more f n all next found s q e = rw e (record {
  count_is = let l = s.count_is in omega (arith, length-append all (found ∷ []), l);
  are = λ m g r. elim (get-pushed all found m g r) [
    | inl l ↦ s.are m g l
    | inr k ↦ let same : n ≡ m = omega (arith, k.0, s.count_is) in k.1 ∙ q ∙ ap (λ z. f (id z)) same
  ];
})
