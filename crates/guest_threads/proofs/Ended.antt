-- When all threads have ended, no class is in progress.
use Rattle.std.proofs.Common.{◌≡◌, ◌≢◌, ℕ, ◌<◌, ◌⊎◌, inl, inr, ⊎_elim, List, [], ◌∷◌, ◌++◌, Option, Some, None, Bool, true, false, eqb, cond, refl, sym, subst, ap, ◌∙◌, append-nil, eq-eqb}
use Rattle.std.specs.List.{find}
use Rattle.hierarchy.specs.declared.class.ClassId.{ClassId}
use Rattle.hierarchy.specs.LinkedProgram.{id}
use Rattle.init_core.specs.declared.event.Event.{Event}
use Rattle.init_core.specs.declared.event.Kind.{Kind}
use Rattle.init_core.specs.declared.event.Kind.TheVariants as kind
use Rattle.init_core.specs.declared.event.Label.TheVariants.{InProgress}
use Rattle.init_core.specs.Decisions.{event}
use Rattle.init_core.specs.Label.{label_by, label_of, is_failure, is_completion, is_beginning}
use Rattle.init_lock.specs.Log.{Entry, is_at, events_at}
use Rattle.init_lock.proofs.Logs.{is_at_some}
use Rattle.init_core.specs.Interleaving.{of_thread}
use Rattle.guest_threads.specs.Drawing.{MayDraw, merged}
use Rattle.guest_threads.proofs.Inside.{Has, Begins, Ends, IsEnd, AllWithin, Alone}
use Rattle.guest_threads.proofs.Merged.{Fair, found, has_at, has_of_thread, ends_has_place, made, thread_of}

is_six : (k : Kind) (x : Event) → x.kind ≡ k → is_beginning x ≡ true → x.kind ≡ kind.Begins
is_six kind.Begins x q h = q
is_six kind.Waits x q h = cc
is_six kind.Recurs x q h = cc
is_six kind.FindsInitialized x q h = cc
is_six kind.FindsErroneous x q h = cc
is_six kind.Runs x q h = cc
is_six kind.Completes x q h = cc
is_six (kind.SuperFails e) x q h = cc
is_six (kind.Fails e) x q h = cc
is_six (kind.Gets f v) x q h = cc
is_six (kind.Puts f v) x q h = cc
is_six (kind.Prints e) x q h = cc

by_parts : (f c b : Option Event) (t : ℕ) → label_by f c b ≡ InProgress t → (f ≡ None) × (c ≡ None) × (x : Event) × (b ≡ Some x) × (x.thread ≡ t)
by_parts (Some f) c b t q = cc
by_parts None (Some c) b t q = cc
by_parts None None (Some x) t q = (refl, refl, x, refl, (let z : x.thread ≡ t = cc in z))
by_parts None None None t q = cc

split_test : (b g : Bool) (x y : Event) (o : Option Event) → cond g (Some y) o ≡ Some x → ((y ≡ x) × (g ≡ true)) ⊎ (o ≡ Some x)
split_test b true x y o q = inl ((let z : y ≡ x = cc in z), refl)
split_test b false x y o q = inr q

split_find : (b : Bool) (x y : Event) (ys : List Event) → find is_beginning (cond b (y ∷ ys) ys) ≡ Some x → ((b ≡ true) × (y ≡ x) × (is_beginning y ≡ true)) ⊎ (find is_beginning ys ≡ Some x)
split_find true x y ys q = ⊎_elim (λ z. inl (refl, z.0, z.1)) (λ z. inr z) (split_test true (is_beginning y) x y (find is_beginning ys) q)
split_find false x y ys q = inr q

class_of : (k n : ℕ) (place : Option ℕ) (x : Event) → place ≡ Some n → MayDraw k place x → x.class ≡ Some (id n)
class_of k n (Some m) x q d = let z : m ≡ n = cc in d.1 ∙ ap (λ (y : ℕ). Some (id y)) z
class_of k n None x q d = cc

-- the event that was found is one of a thread's at its class
find_entry : (threads places : ℕ) (c : ClassId) (x : Event) (log : List (Entry Event)) → Fair threads places log → find is_beginning (events_at c.number log) ≡ Some x → (x.thread < threads) × (x.class ≡ Some c) × (is_beginning x ≡ true) × Has (λ e. e ≡ x) (merged log)
find_entry threads places c x [] f q = cc
find_entry threads places c x (e ∷ es) f q = ⊎_elim
    (λ z. let same : e.event.thread ≡ e.by = thread_of e.by e.place e.event f.2 in
    let cls = class_of e.by c.number e.place e.event (is_at_some c.number e.place z.0) f.2 in
    (subst (λ (y : Event). y.thread < threads) z.1 (subst (λ (n : ℕ). n < threads) (sym same) f.0), subst (λ (y : Event). y.class ≡ Some c) z.1 cls, subst (λ (y : Event). is_beginning y ≡ true) z.1 z.2, inl z.1))
    (λ z. let r = find_entry threads places c x es f.3 z in (r.0, r.1, r.2, inr r.3))
    (split_find (is_at c.number e.place) x e.event (events_at c.number es) q)

here : (P : Event → Type 0) (b : Bool) (x : Event) (xs : List Event) → b ≡ true → P x → Has P (cond b (x ∷ xs) xs)
here P true x xs e h = inl h
here P false x xs e h = absurd (let z : false ≡ true = e in cc)

later : (P : Event → Type 0) (b : Bool) (x : Event) (xs : List Event) → Has P xs → Has P (cond b (x ∷ xs) xs)
later P true x xs h = inr h
later P false x xs h = h

mine : (t : ℕ) (P : Event → Type 0) → ((x : Event) → P x → x.thread ≡ t) → (xs : List Event) → Has P xs → Has P (of_thread t xs)
mine t P h [] a = absurd a
mine t P h (x ∷ xs) (inl q) = here P (eqb x.thread t) x (of_thread t xs) (eq-eqb x.thread t (h x q)) q
mine t P h (x ∷ xs) (inr a) = later P (eqb x.thread t) x (of_thread t xs) (mine t P h xs a)

-- a 6 in a whole word has an end
six_ends : (t : ℕ) (c : ClassId) (before xs : List Event) → AllWithin t before xs [] → Begins t c xs → Ends t c xs
six_ends t c before [] a b = absurd b
six_ends t c before (x ∷ xs) a (inl q) = inr (subst (λ (z : List Event). Ends t c z) (append-nil xs) ((a.0 c).1 q))
six_ends t c before (x ∷ xs) a (inr b) = inr (six_ends t c (before ++ x ∷ []) xs a.1 b)

end_tests : (k : Kind) (x : Event) → IsEnd k → x.kind ≡ k → (is_failure x ≡ true) ⊎ (is_completion x ≡ true)
end_tests kind.Completes x i q = inr (let z = q in cc)
end_tests (kind.SuperFails e) x i q = inl (let z = q in cc)
end_tests (kind.Fails e) x i q = inl (let z = q in cc)
end_tests kind.Waits x i q = absurd i
end_tests kind.Recurs x i q = absurd i
end_tests kind.FindsInitialized x i q = absurd i
end_tests kind.FindsErroneous x i q = absurd i
end_tests kind.Begins x i q = absurd i
end_tests kind.Runs x i q = absurd i
end_tests (kind.Gets f v) x i q = absurd i
end_tests (kind.Puts f v) x i q = absurd i
end_tests (kind.Prints e) x i q = absurd i

one_of : (t : ℕ) (c : ClassId) (xs : List Event) → Ends t c xs → Has (λ x. is_failure x ≡ true) xs ⊎ Has (λ x. is_completion x ≡ true) xs
one_of t c [] a = absurd a
one_of t c (x ∷ xs) (inl q) = ⊎_elim (λ y. inl (inl y)) (λ y. inr (inl y)) (end_tests q.0 x q.1 (ap (λ (e : Event). e.kind) q.2))
one_of t c (x ∷ xs) (inr a) = ⊎_elim (λ y. inl (inr y)) (λ y. inr (inr y)) (one_of t c xs a)

-- no class is in progress at the end
pub none_in_progress : (threads places : ℕ) (log : List (Entry Event)) → Fair threads places log → ((t : ℕ) → t < threads → Alone t (of_thread t (merged log))) → (c : ClassId) (t : ℕ) → label_of (events_at c.number log) ≢ InProgress t
none_in_progress threads places log f alone c t q =
    let h = events_at c.number log in
    let p = by_parts (find is_failure h) (find is_completion h) (find is_beginning h) t q in
    let x = p.2 in
    let e = find_entry threads places c x log f p.3 in
    let six : x ≡ event x.thread c kind.Begins = made x c kind.Begins e.1 (is_six x.kind x refl e.2) in
    let all : Begins x.thread c (merged log) = subst (λ (y : Event). Has (λ z. z ≡ y) (merged log)) six e.3 in
    let own : Begins x.thread c (of_thread x.thread (merged log)) = mine x.thread (λ z. z ≡ event x.thread c kind.Begins) (λ y r. ap (λ (z : Event). z.thread) r) (merged log) all in
    let ends : Ends x.thread c (of_thread x.thread (merged log)) = six_ends x.thread c [] (of_thread x.thread (merged log)) (alone x.thread e.0) own in
    let there : Ends x.thread c h = has_at (λ y. (k : Kind) × IsEnd k × (y ≡ event x.thread c k)) c (ends_has_place x.thread c) threads places log f (has_of_thread (λ y. (k : Kind) × IsEnd k × (y ≡ event x.thread c k)) x.thread (merged log) ends) in
    ⊎_elim (λ y. found (λ z. is_failure z ≡ true) is_failure (λ z r. r) h y p.0) (λ y. found (λ z. is_completion z ≡ true) is_completion (λ z r. r) h y p.1) (one_of x.thread c h there)
