-- Finished lists: each is made from those above it, in an order in which each class comes after its supertypes.
use Rattle.std.proofs.Common.{◌≡◌, ℕ, zero, suc, ◌+◌, ◌<◌, ◌≤◌, ◌⊎◌, inl, inr, Option, Some, None, List, [], ◌∷◌, length, take, get_or, slice_get, slice_set, refl, sym, ap, subst, ◌∙◌, arith}
use Rattle.std.proofs.lemmas.List.{take_all, take_more, length-set}
use Rattle.std.proofs.lemmas.Option.{slice_get_within, slice_get-get_or}
use Rattle.std.specs.Prelude.{IfSome}
use Rattle.hierarchy.specs.declared.class.Class.{Class}
use Rattle.hierarchy.specs.declared.class.ClassId.{ClassId}
use Rattle.hierarchy.specs.ClassLists.{Among, first, later}
use Rattle.hierarchy.specs.FinishedLists.{AreFinished, list_or_none, listed}
use Rattle.hierarchy.specs.Hierarchy.{supers, Reaches, direct, further, IsSubtype}
use Rattle.hierarchy.specs.LinkedProgram.{id}
use Rattle.hierarchy.specs.Superinterfaces.{IsTable}
use Rattle.hierarchy.specs.UpwardOrder.{IsUpwardOrder, Rises}
use Rattle.hierarchy.proofs.ClassMembership.{among_cases}
use Rattle.hierarchy.proofs.Positions.{Some_same}
use Rattle.hierarchy.proofs.Searches.{among_one, length-get_none}
use Rattle.hierarchy.proofs.Walks.{none_id}

finished_for : {f : ClassId → List ClassId} {classes : List Class} {P Q : ClassId → Type 0} {all : List (List ClassId)} → ((c : ClassId) → Q c → P c) → AreFinished f classes P all → AreFinished f classes Q all
finished_for h a = record { count_is = a.count_is; are = λ c q found e. a.are c (h c q) found e }

-- a table is finished for each class
pub table_finished : {f : ClassId → List ClassId} {classes : List Class} {all : List (List ClassId)} (P : ClassId → Type 0) → IsTable f (length classes) all → AreFinished f classes P all
table_finished P t = record { count_is = t.count_is; are = λ c p found e. t.are c.number found e }

-- the list of a class, where those that aren't of the files have none
pub listed_is : {f : ClassId → List ClassId} {classes : List Class} {P : ClassId → Type 0} {all : List (List ClassId)} → AreFinished f classes P all → (c : ClassId) → P c → (length classes ≤ c.number → f c ≡ []) → listed all c.number ≡ f c
listed_is {f} {classes} {P} {all} a c p past = at (slice_get all c.number) refl
  where
    at : (o : Option (List ClassId)) → slice_get all c.number ≡ o → list_or_none o ≡ f c
    at None e = sym (past (omega (arith, length-get_none all c.number (sym e), a.count_is)))
    at (Some found) e = a.are c p found e

-- the list of a class of the files
pub listed_within : {f : ClassId → List ClassId} {classes : List Class} {P : ClassId → Type 0} {all : List (List ClassId)} → AreFinished f classes P all → (c : ClassId) → P c → c.number < length classes → listed all c.number ≡ f c
listed_within a c p h = listed_is a c p (λ k. absurd (omega (arith, h, k)))

-- of a direct supertype all is finished where it is so of what is above the class
pub finished_from : {f : ClassId → List ClassId} {classes : List Class} {all : List (List ClassId)} {c d : ClassId} → AreFinished f classes (Reaches classes c) all → Among d (supers classes c) → AreFinished f classes (IsSubtype classes d) all
finished_from {classes = classes} {c = c} a m =
    finished_for (λ e s. elim s [ inl same ↦ direct (subst (λ z. Among z (supers classes c)) same m) | inr r ↦ further m r ]) a

-- what is in a list is in that of its number
pub last_there : (all : List (List ClassId)) (n : ℕ) (list : List ClassId) (o : Option ClassId) → slice_get all n ≡ Some list → IfSome o (λ c. Among c list) → IfSome o (λ c. Among c (listed all n))
last_there all n list o e h = rw e h

among_taken : {c : ClassId} (xs : List ClassId) (k : ℕ) → Among c (take k xs) → (n : ℕ) × (n < k) × (slice_get xs n ≡ Some c)
among_taken xs zero h = elim h [ ]
among_taken [] (suc k) h = elim h [ ]
among_taken (x ∷ xs) (suc k) first = (0, omega arith, refl)
among_taken (x ∷ xs) (suc k) (later h) = let r = among_taken xs k h in (suc r.0, omega (arith, r.1), r.2)

taken_longer : {c : ClassId} (xs : List ClassId) (n k : ℕ) → n ≤ k → Among c (take n xs) → Among c (take k xs)
taken_longer xs zero k l h = elim h [ ]
taken_longer [] (suc n) k l h = elim h [ ]
taken_longer (x ∷ xs) (suc n) zero l h = absurd (omega (arith, l))
taken_longer (x ∷ xs) (suc n) (suc k) l first = first
taken_longer (x ∷ xs) (suc n) (suc k) l (later h) = later (taken_longer xs n k (omega (arith, l)) h)

-- all supertypes come before a class
supertypes_before : (classes : List Class) (order : List ClassId) → Rises classes order → (k : ℕ) (c d : ClassId) → slice_get order k ≡ Some c → Reaches classes c d → Among d (take k order)
supertypes_before classes order r k c d e (direct h) = r k c e d h
supertypes_before classes order r k c d e (further {d = s} h q) =
    let t = among_taken order k (r k c e s h) in
    taken_longer order t.0 k (omega (arith, t.1)) (supertypes_before classes order r t.0 s d t.2 q)

-- of the next class all above it is finished
pub finished_above : {f : ClassId → List ClassId} {classes : List Class} (order : List ClassId) {all same : List (List ClassId)} (k : ℕ) → IsUpwardOrder classes order → k < length order → AreFinished f classes (λ d. Among d (take k order)) all → same ≡ all →
    AreFinished f classes (Reaches classes (get_or order k none_id)) same
finished_above {classes = classes} order k u h a s =
    rw s (finished_for (λ d r. supertypes_before classes order u.rises k (get_or order k none_id) d (slice_get-get_or order k none_id h) r) a)

pub none_finished : {f g : ClassId → List ClassId} {classes : List Class} {all : List (List ClassId)} → IsTable g (length classes) all → AreFinished f classes (λ c. Among c []) all
none_finished t = record { count_is = t.count_is; are = λ c h. elim h [ ] }

set_cases : (xs : List (List ClassId)) (i n : ℕ) (x z : List ClassId) → slice_get (slice_set xs i x) n ≡ Some z → ((n ≡ i) × (x ≡ z)) ⊎ ((n ≡ i → ⊥) × (slice_get xs n ≡ Some z))
set_cases [] i n x z e = absurd cc
set_cases (y ∷ xs) zero zero x z e = inl (refl, Some_same e)
set_cases (y ∷ xs) zero (suc n) x z e = inr (λ q. absurd (omega (arith, q)), e)
set_cases (y ∷ xs) (suc i) zero x z e = inr (λ q. absurd (omega (arith, q)), e)
set_cases (y ∷ xs) (suc i) (suc n) x z e = elim (set_cases xs i n x z e) [ inl r ↦ inl (ap suc r.0, r.1) | inr r ↦ inr (λ q. r.0 (omega (arith, q)), r.1) ]

next_cases : {c : ClassId} (order : List ClassId) (k : ℕ) → k < length order → Among c (take (k + 1) order) → Among c (take k order) ⊎ (c ≡ get_or order k none_id)
next_cases {c} order k l h = elim (among_cases (take k order) (subst (λ z. Among c z) (take_more order k none_id l) h)) [ inl q ↦ inl q | inr q ↦ inr (among_one q) ]

-- one class of the files more
pub finished_more : {f : ClassId → List ClassId} {classes : List Class} (order : List ClassId) {all next : List (List ClassId)} (k : ℕ) (found : List ClassId) → k < length order → AreFinished f classes (λ c. Among c (take k order)) all →
    found ≡ f (get_or order k none_id) → next ≡ slice_set all (get_or order k none_id).number found → AreFinished f classes (λ c. Among c (take (k + 1) order)) next
finished_more {f} order {all = all} k found l a g s =
    let x = get_or order k none_id in
    rw s (record {
      count_is = length-set all x.number found ∙ a.count_is;
      are = λ c m z q.
          elim (set_cases all x.number c.number found z q) [
            | inl r ↦ let same : x ≡ c = ap id (sym r.0) in sym r.1 ∙ g ∙ ap f same
            | inr r ↦ elim (next_cases order k l m) [ inl h ↦ a.are c h z r.1 | inr same ↦ absurd (r.0 (ap (λ (y : ClassId). y.number) same)) ]
          ];
    })

-- a class that isn't of the files has no list
pub finished_past : {f : ClassId → List ClassId} {classes : List Class} (order : List ClassId) {all next : List (List ClassId)} (k : ℕ) → k < length order → AreFinished f classes (λ c. Among c (take k order)) all →
    length classes ≤ (get_or order k none_id).number → next ≡ all → AreFinished f classes (λ c. Among c (take (k + 1) order)) next
finished_past order {all = all} k l a p s = rw s (record {
  count_is = a.count_is;
  are = λ c m z q.
      elim (next_cases order k l m) [
        | inl h ↦ a.are c h z q
        | inr same ↦ let n = ap (λ (y : ClassId). y.number) same in absurd (omega (arith, slice_get_within all c.number z q, n, p, a.count_is))
      ];
})

-- all classes of the files
pub finished_all : {f : ClassId → List ClassId} {classes : List Class} (order : List ClassId) {all : List (List ClassId)} (k : ℕ) → IsUpwardOrder classes order → length order ≤ k → AreFinished f classes (λ c. Among c (take k order)) all → IsTable f (length classes) all
finished_all order {all = all} k u l a = record {
  count_is = a.count_is;
  are = λ n found e.
      a.are (id n) (subst (λ z. Among (id n) z) (sym (take_all k order l)) (u.whole n (omega (arith, slice_get_within all n found e, a.count_is)))) found e;
}
