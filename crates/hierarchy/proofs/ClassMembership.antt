-- Members of lists of classes, and lists without repeats.
use Rattle.std.proofs.Common.{◌≡◌, Bool, true, false, cond, ◌⊎◌, inl, inr, List, [], ◌∷◌, ◌++◌, refl, sym, ap, subst, ◌∙◌}
use Rattle.std.proofs.lemmas.Bool.{eqb-true, eq-eqb, cases_Bool, or_cases, and_parts}
use Rattle.std.specs.List.{list_any, list_all, filter}
use Rattle.hierarchy.specs.declared.class.ClassId.{ClassId}
use Rattle.hierarchy.specs.ClassLists.{Every, Among, first, later, is_among, add_new, add_all, distinct, same_class}

pub same_class-true : (c d : ClassId) → same_class c d ≡ true → c ≡ d
same_class-true c d e = let n : c.number ≡ d.number = eqb-true c.number d.number e in λ i. record { number = n i }

pub same_class-refl : (c : ClassId) → same_class c c ≡ true
same_class-refl c = eq-eqb c.number c.number refl

pub among_from_true : (x : ClassId) (xs : List ClassId) → list_any (same_class x) xs ≡ true → Among x xs
among_from_true x [] e = cc
among_from_true x (y ∷ ys) e =
    elim (or_cases _ _ e) [ inl h ↦ subst (λ z. Among x (z ∷ ys)) (same_class-true x y h) first | inr h ↦ later (among_from_true x ys h) ]

pub true_from_among : {x : ClassId} {xs : List ClassId} → Among x xs → list_any (same_class x) xs ≡ true
true_from_among {x = x} first = rw (same_class-refl x) refl
true_from_among (later {c = x} {d = y} h) = elim (cases_Bool (same_class x y)) [ inl e ↦ rw e refl | inr e ↦ rw e (true_from_among h) ]

-- where all are there, each is
pub among_all : {x : ClassId} (xs : List ClassId) {ys : List ClassId} → list_all (λ c. is_among c xs) ys ≡ true → Among x ys → Among x xs
among_all {x = x} xs h first = among_from_true x xs (and_parts _ _ h).0
among_all xs h (later k) = among_all xs (and_parts _ _ h).1 k

pub among_left : {x : ClassId} {xs : List ClassId} (ys : List ClassId) → Among x xs → Among x (xs ++ ys)
among_left ys first = first
among_left ys (later h) = later (among_left ys h)

pub among_right : {x : ClassId} (xs : List ClassId) {ys : List ClassId} → Among x ys → Among x (xs ++ ys)
among_right [] h = h
among_right (y ∷ xs) h = later (among_right xs h)

pub among_cases : {x : ClassId} (xs : List ClassId) {ys : List ClassId} → Among x (xs ++ ys) → Among x xs ⊎ Among x ys
among_cases [] h = inr h
among_cases (y ∷ xs) first = inl first
among_cases (y ∷ xs) (later h) = elim (among_cases xs h) [ inl k ↦ inl (later k) | inr k ↦ inr k ]

pub every_at : {x : ClassId} {xs : List ClassId} (P : ClassId → Type 0) → Every P xs → Among x xs → P x
every_at P h first = h.0
every_at P h (later k) = every_at P h.1 k

pub every_from : (P : ClassId → Type 0) (xs : List ClassId) → ((x : ClassId) → Among x xs → P x) → Every P xs
every_from P [] h = tt
every_from P (x ∷ xs) h = (h x first, every_from P xs (λ y k. h y (later k)))

-- adding what is there changes nothing
pub add_new-there : (xs : List ClassId) (x : ClassId) → Among x xs → add_new xs x ≡ xs
add_new-there xs x h = rw (true_from_among h) refl

pub add_new-keeps : (xs : List ClassId) (x : ClassId) {y : ClassId} → Among y xs → Among y (add_new xs x)
add_new-keeps xs x {y} h = elim (list_any (same_class x) xs) as (λ b. Among y (cond b xs (xs ++ x ∷ []))) [ true ↦ h | false ↦ among_left (x ∷ []) h ]

pub add_new-has : (xs : List ClassId) (x : ClassId) → Among x (add_new xs x)
add_new-has xs x =
    elim (cases_Bool (list_any (same_class x) xs)) [ inl e ↦ rw e (among_from_true x xs e) | inr e ↦ rw e (among_right xs first) ]

pub add_new-cases : (xs : List ClassId) (x : ClassId) {y : ClassId} → Among y (add_new xs x) → Among y xs ⊎ (y ≡ x)
add_new-cases xs x {y} h =
    elim (cases_Bool (list_any (same_class x) xs)) [ inl e ↦ inl (rw e at h) | inr e ↦ elim (among_cases xs (rw e at h)) [ inl k ↦ inl k | inr k ↦ inr (only k) ] ]
  where
    only : {y : ClassId} → Among y (x ∷ []) → y ≡ x
    only first = refl
    only (later k) = elim k [ ]

pub add_all-keeps : (xs ys : List ClassId) {y : ClassId} → Among y xs → Among y (add_all xs ys)
add_all-keeps xs [] h = h
add_all-keeps xs (x ∷ ys) h = add_all-keeps (add_new xs x) ys (add_new-keeps xs x h)

pub add_all-has : (xs : List ClassId) {ys : List ClassId} {y : ClassId} → Among y ys → Among y (add_all xs ys)
add_all-has xs (first {c = x} {cs = ys}) = add_all-keeps (add_new xs x) ys (add_new-has xs x)
add_all-has xs (later {d = x} h) = add_all-has (add_new xs x) h

pub add_all-cases : (xs ys : List ClassId) {y : ClassId} → Among y (add_all xs ys) → Among y xs ⊎ Among y ys
add_all-cases xs [] h = inl h
add_all-cases xs (x ∷ ys) {y} h =
    elim (add_all-cases (add_new xs x) ys h) [
      | inl k ↦ elim (add_new-cases xs x k) [ inl m ↦ inl m | inr e ↦ inr (subst (λ z. Among z (x ∷ ys)) (sym e) first) ]
      | inr k ↦ inr (later k)
    ]

pub add_all-append : (xs ys zs : List ClassId) → add_all xs (ys ++ zs) ≡ add_all (add_all xs ys) zs
add_all-append xs [] zs = refl
add_all-append xs (y ∷ ys) zs = add_all-append (add_new xs y) ys zs

-- adding what is all there changes nothing
pub add_all-there : (xs ys : List ClassId) → ((y : ClassId) → Among y ys → Among y xs) → add_all xs ys ≡ xs
add_all-there xs [] h = refl
add_all-there xs (y ∷ ys) h =
    let e = add_new-there xs y (h y first) in
    rw e (add_all-there xs ys (λ z k. h z (later k)))

add_new-added : (xs ys : List ClassId) (y : ClassId) → add_all xs (add_new ys y) ≡ add_new (add_all xs ys) y
add_new-added xs ys y =
    elim (cases_Bool (list_any (same_class y) ys)) [
      | inl e ↦ rw e (sym (add_new-there (add_all xs ys) y (add_all-has xs (among_from_true y ys e))))
      | inr e ↦ rw e (add_all-append xs ys (y ∷ []))
    ]

-- adding what was added to a list adds the list and then each
pub add_all-added : (xs ys zs : List ClassId) → add_all xs (add_all ys zs) ≡ add_all (add_all xs ys) zs
add_all-added xs ys [] = refl
add_all-added xs ys (z ∷ zs) = add_all-added xs (add_new ys z) zs ∙ ap (λ r. add_all r zs) (add_new-added xs ys z)

-- a list without repeats has the same members
pub distinct-from : (xs : List ClassId) {y : ClassId} → Among y (distinct xs) → Among y xs
distinct-from xs h = elim (add_all-cases [] xs h) [ inl k ↦ elim k [ ] | inr k ↦ k ]

pub filter-append : (q : ClassId → Bool) (xs ys : List ClassId) → filter q (xs ++ ys) ≡ filter q xs ++ filter q ys
filter-append q [] ys = refl
filter-append q (x ∷ xs) ys =
    elim (cases_Bool (q x)) [ inl e ↦ rw (e, filter-append q xs ys) refl | inr e ↦ rw (e, filter-append q xs ys) refl ]

pub filter-has : (q : ClassId → Bool) {x : ClassId} {xs : List ClassId} → Among x xs → q x ≡ true → Among x (filter q xs)
filter-has q (first {c = x}) e = rw e first
filter-has q (later {d = y} h) e = elim (cases_Bool (q y)) [ inl k ↦ rw k (later (filter-has q h e)) | inr k ↦ rw k (filter-has q h e) ]

pub filter-one : (q : ClassId → Bool) (s t : List ClassId) (x : ClassId) → add_all s (filter q (add_new t x)) ≡ add_all (add_all s (filter q t)) (filter q (x ∷ []))
filter-one q s t x =
    elim (cases_Bool (list_any (same_class x) t)) [
      | inl e ↦ elim (cases_Bool (q x)) [
        | inl k ↦ rw (e, k) (sym (add_new-there (add_all s (filter q t)) x (add_all-has s (filter-has q (among_from_true x t e) k))))
        | inr k ↦ rw (e, k) refl
      ]
      | inr e ↦ rw (e, filter-append q t (x ∷ []), add_all-append s (filter q t) (filter q (x ∷ []))) refl
    ]

-- a filter may come before or after the repeats are dropped
pub filter-add_all : (q : ClassId → Bool) (s t xs : List ClassId) → add_all s (filter q (add_all t xs)) ≡ add_all (add_all s (filter q t)) (filter q xs)
filter-add_all q s t [] = refl
filter-add_all q s t (x ∷ xs) =
    filter-add_all q s (add_new t x) xs ∙ ap (λ r. add_all r (filter q xs)) (filter-one q s t x) ∙
    sym (add_all-append (add_all s (filter q t)) (filter q (x ∷ [])) (filter q xs)) ∙
    ap (λ r. add_all (add_all s (filter q t)) r) (sym (filter-append q (x ∷ []) xs))
