-- The search up from a class: every supertype is found, and each once.
use Rattle.std.proofs.Common.{◌≡◌, ℕ, zero, suc, ◌+◌, ◌<◌, ◌≤◌, inl, inr, Some, None, List, [], ◌∷◌, ◌++◌, length, take, get_or, refl, sym, ap, subst, ◌∙◌, arith, append_assoc, append-nil, slice_get, length-append}
use Rattle.std.proofs.lemmas.Bool.{cases_Bool}
use Rattle.std.proofs.lemmas.List.{take_more, take_all, take-append-le}
use Rattle.std.specs.List.{list_any, IsDistinct}
use Rattle.hierarchy.specs.declared.class.ClassId.{ClassId}
use Rattle.hierarchy.specs.declared.class.Class.{Class}
use Rattle.hierarchy.specs.declared.built_in.TheConstants.{BUILT_IN_COUNT}
use Rattle.hierarchy.specs.ClassLists.{Among, first, later, add_all, same_class}
use Rattle.hierarchy.specs.Hierarchy.{supers, Reaches, direct, further, IsInRange, AreSupertypes}
use Rattle.hierarchy.proofs.ClassMembership.{among_cases, add_all-keeps, add_all-has, add_all-cases}
use Rattle.hierarchy.proofs.Counts.{length-in_range}

pub reaches_on : {classes : List Class} {i j k : ClassId} → Reaches classes i j → Reaches classes j k → Reaches classes i k
reaches_on (direct h) r = further h r
reaches_on (further h q) r = further h (reaches_on q r)

-- what is added goes to the end
pub add_all-extends : (xs ys : List ClassId) → (more : List ClassId) × (add_all xs ys ≡ xs ++ more)
add_all-extends xs [] = ([], sym (append-nil xs))
add_all-extends xs (y ∷ ys) =
    elim (cases_Bool (list_any (same_class y) xs)) [
      | inl e ↦ rw e (add_all-extends xs ys)
      | inr e ↦ rw e (let r = add_all-extends (xs ++ y ∷ []) ys in (y ∷ r.0, r.1 ∙ append_assoc xs (y ∷ []) r.0))
    ]

-- the supertypes of the first of them are there too
abbrev pub HasSupersOf : List Class → List ClassId → List ClassId → Type 0
HasSupersOf classes found done = (i : ClassId) → Among i done → (j : ClassId) → Among j (supers classes i) → Among j found

pub record Searches (classes : List Class) (c : ClassId) (found : List ClassId) (k : ℕ) : Type 0 where
  pub starts : (j : ClassId) → Among j (supers classes c) → Among j found
  pub sound : (j : ClassId) → Among j found → Reaches classes c j
  pub done : HasSupersOf classes found (take k found)
  pub reached : k ≤ length found

pub searches_none : (classes : List Class) (c : ClassId) (start found : List ClassId) → start ≡ [] → found ≡ add_all start (supers classes c) → Searches classes c found 0
searches_none classes c start found s e =
    let e2 : found ≡ add_all [] (supers classes c) = rw s at e in
    record {
      starts = λ j h. rw e2 (add_all-has [] h);
      sound = λ j h. elim (add_all-cases [] (supers classes c) (rw e2 at h)) [ inl k ↦ elim k [ ] | inr k ↦ direct k ];
      done = λ i h. elim h [ ];
      reached = omega arith;
    }

pub among_get : (xs : List ClassId) (k : ℕ) (x : ClassId) → Some x ≡ slice_get xs k → Among x xs
among_get [] k x e = cc
among_get (y ∷ xs) zero x e = let q : x ≡ y = cc in rw q first
among_get (y ∷ xs) (suc k) x e = later (among_get xs k x e)

get_from : (xs : List ClassId) (k : ℕ) (x : ClassId) → Some x ≡ slice_get xs k → (k < length xs) × (get_or xs k x ≡ x)
get_from [] k x e = cc
get_from (y ∷ xs) zero x e = (omega arith, cc)
get_from (y ∷ xs) (suc k) x e = let r = get_from xs k x e in (omega (arith, r.0), r.1)

take_get : (xs : List ClassId) (k : ℕ) (x : ClassId) → Some x ≡ slice_get xs k → take (k + 1) xs ≡ take k xs ++ x ∷ []
take_get xs k x e = let r = get_from xs k x e in take_more xs k x r.0 ∙ ap (λ z. take k xs ++ z ∷ []) r.1

pub among_one : {x y : ClassId} → Among y (x ∷ []) → y ≡ x
among_one first = refl
among_one (later k) = elim k [ ]

pub searches_more : (classes : List Class) (c : ClassId) (found next : List ClassId) (k : ℕ) (x : ClassId) → Searches classes c found k → Some x ≡ slice_get found k → next ≡ add_all found (supers classes x) → Searches classes c next (k + 1)
searches_more classes c found next k x s e n =
    let r = add_all-extends found (supers classes x) in
    let g = get_from found k x e in
    let longer : next ≡ found ++ r.0 = n ∙ r.1 in
    let front : take (k + 1) next ≡ take k found ++ x ∷ [] =
    ap (take (k + 1)) longer ∙ take-append-le (k + 1) found r.0 (omega (arith, g.0)) ∙ take_get found k x e in
    record {
      starts = λ j h. rw n (add_all-keeps found (supers classes x) (s.starts j h));
      sound = λ j h. elim (add_all-cases found (supers classes x) (rw n at h)) [ inl q ↦ s.sound j q | inr q ↦ reaches_on (s.sound x (among_get found k x e)) (direct q) ];
      done = λ i h j m.
          rw n
          (elim (among_cases (take k found) (rw front at h)) [
            | inl q ↦ add_all-keeps found (supers classes x) (s.done i q j m)
            | inr q ↦ add_all-has found (subst (λ z. Among j (supers classes z)) (among_one q) m)
          ]);
      reached = omega (arith, g.0, ap length longer, length-append found r.0);
    }

-- a search that has come to its end
pub searches_all : (classes : List Class) (c : ClassId) (found : List ClassId) (k : ℕ) → Searches classes c found k → length found ≤ k → IsDistinct same_class found → AreSupertypes classes c found
searches_all classes c found k s h u =
    let d : HasSupersOf classes found found = rw (take_all k found h) at s.done in
    record {
      sound = s.sound;
      complete = λ j r. all d s.starts r;
      once = u;
    }
  where
    all : HasSupersOf classes found found → {i j : ClassId} → ((k : ClassId) → Among k (supers classes i) → Among k found) → Reaches classes i j → Among j found
    all d b (direct a) = b _ a
    all d b (further a r) = all d (d _ (b _ a)) r

pub in_range : (classes : List Class) → IsInRange classes → {i j : ClassId} → Reaches classes i j → j.number < length classes + BUILT_IN_COUNT
in_range classes r (direct {c = i} {d = j} h) = r i j h
in_range classes r (further h q) = in_range classes r q

-- there are no more supertypes than classes
pub searched_through : (classes : List Class) (c : ClassId) (found : List ClassId) (k : ℕ) → IsInRange classes → Searches classes c found k → length classes + BUILT_IN_COUNT ≤ k → IsDistinct same_class found → length found ≤ k
searched_through classes c found k r s h u =
    let b : length found ≤ length classes + BUILT_IN_COUNT = length-in_range found (length classes + BUILT_IN_COUNT) u (λ q e. in_range classes r (s.sound q e)) in
    omega (arith, b, h)

pub length-get_none : {X : Type 0} (xs : List X) (k : ℕ) → None ≡ slice_get xs k → length xs ≤ k
length-get_none [] k e = omega arith
length-get_none (x ∷ xs) zero e = cc
length-get_none (x ∷ xs) (suc k) e = let r = length-get_none xs k e in omega (arith, r)
