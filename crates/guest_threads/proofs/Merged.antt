-- The events of all threads, in the order of their stamps, are a legal interleaving.
use Rattle.std.proofs.Common.{◌≡◌, ◌≢◌, ℕ, suc, ◌<◌, ◌≤◌, ◌⊎◌, inl, inr, ⊎_elim, List, [], ◌∷◌, ◌++◌, Option, Some, None, Bool, true, false, eqb, cond, map, refl, sym, subst, ap, ◌∙◌, append-nil, append_assoc, eq-eqb, ne_eqb, arith}
use Rattle.std.specs.List.{find}
use Rattle.std.proofs.lemmas.Bool.{eqb-true}
use Rattle.hierarchy.specs.LinkedProgram.{id}
use Rattle.hierarchy.specs.declared.class.ClassId.{ClassId}
use Rattle.init_core.specs.declared.event.Event.{Event}
use Rattle.init_core.specs.declared.event.Kind.{Kind}
use Rattle.init_core.specs.declared.event.Kind.TheVariants as kind
use Rattle.init_core.specs.declared.event.Label.{Label}
use Rattle.init_core.specs.declared.event.Label.TheVariants.{Prepared, InProgress}
use Rattle.init_core.specs.Decisions.{event}
use Rattle.init_core.specs.Label.{label_by, label_of, is_failure, is_completion, is_beginning}
use Rattle.init_core.specs.Lawful.{Allows, AgreesAfter, AgreesWithLabels}
use Rattle.init_core.proofs.Labels.{label_after}
use Rattle.init_core.specs.ClassState.{next_label}
use Rattle.init_lock.specs.Log.{Entry, is_at, events_at, journal_of, AllAllowed, AllBacked, IsBacked, settled, stamped}
use Rattle.init_lock.proofs.Logs.{events-append, allowed-append}
use Rattle.init_lock.specs.declared.journal.Stamped.{Stamped}
use Rattle.init_core.specs.Interleaving.{of_thread, of_class, is_class}
use Rattle.guest_threads.specs.Drawing.{MayDraw, IsUnplaced, leaning, leans_on, merged}
use Rattle.guest_threads.proofs.Settled.{is_ready}
use Rattle.guest_threads.proofs.Inside.{Has, Begins, Ends, IsEnd, Within, Alone, at_place}

abbrev pub Log : Type 0
Log = List (Entry Event)

-- each event is one that its thread may draw
abbrev pub Fair : ℕ → ℕ → Log → Type 0
Fair threads places log = AllAllowed threads places MayDraw log

abbrev pub about : ClassId → Log → List Event
about c log = of_class c (merged log)

abbrev pub events_in : List (Stamped Event) → List Event
events_in js = map (λ s. s.event) js

pub thread_of : (k : ℕ) (place : Option ℕ) (e : Event) → MayDraw k place e → e.thread ≡ k
thread_of k (Some n) e m = m.0
thread_of k None e m = m.0

kept_by : (b : Bool) (x : Event) (s : Stamped Event) (xs : List Event) (ys : List (Stamped Event)) → s.event ≡ x → xs ≡ events_in ys → cond b (x ∷ xs) xs ≡ events_in (cond b (s ∷ ys) ys)
kept_by true x s xs ys q h = cc
kept_by false x s xs ys q h = h

-- a thread's events are those of its journal
pub journal_is : (threads places t i : ℕ) (log : Log) → Fair threads places log → of_thread t (merged log) ≡ events_in (journal_of t i log)
journal_is threads places t i [] f = refl
journal_is threads places t i (e ∷ es) f =
    let same : e.event.thread ≡ e.by = thread_of e.by e.place e.event f.2 in
    let rest = journal_is threads places t (suc i) es f.3 in
    subst (λ (z : ℕ). cond (eqb z t) (e.event ∷ of_thread t (merged es)) (of_thread t (merged es)) ≡ events_in (journal_of t i (e ∷ es))) (sym same)
    (kept_by (eqb e.by t) e.event (stamped i e.place e.event) (of_thread t (merged es)) (journal_of t (suc i) es) refl rest)

skipped : (b : Bool) (x : Event) (xs : List Event) → b ≡ false → xs ≡ [] → cond b (x ∷ xs) xs ≡ []
skipped true x xs b h = cc
skipped false x xs b h = h

-- no other thread has an event
pub no_others : (threads places t : ℕ) (log : Log) → Fair threads places log → threads ≤ t → of_thread t (merged log) ≡ []
no_others threads places t [] f l = refl
no_others threads places t (e ∷ es) f l =
    let same : e.event.thread ≡ e.by = thread_of e.by e.place e.event f.2 in
    let low : e.by < threads = f.0 in
    let differs : e.event.thread ≢ t = λ q. (let z : e.by ≡ t = cc in absurd (omega arith)) in
    skipped (eqb e.event.thread t) e.event (of_thread t (merged es)) (ne_eqb e.event.thread t differs) (no_others threads places t es f.3 l)

class_is : (c : ClassId) (o : Option ClassId) → is_class c o ≡ true → o ≡ Some c
class_is c (Some d) h = ap (λ (n : ℕ). Some (id n)) (eqb-true d.number c.number h)
class_is c None h = cc

-- a test that no event without place passes finds the same in a class's events and in those of its place
find_by : (f : Event → Bool) (b : Bool) (x : Event) (xs ys : List Event) → find f xs ≡ find f ys → find f (cond b (x ∷ xs) xs) ≡ find f (cond b (x ∷ ys) ys)
find_by f true x xs ys h = ap (λ (z : Option Event). cond (f x) (Some x) z) h
find_by f false x xs ys h = h

find_skip : (f : Event → Bool) (b : Bool) (x : Event) (xs : List Event) → f x ≡ false → find f (cond b (x ∷ xs) xs) ≡ find f xs
find_skip f true x xs h = ap (λ (z : Bool). cond z (Some x) (find f xs)) h
find_skip f false x xs h = refl

abbrev Skips : (Event → Bool) → Type 0
Skips f = (k : ℕ) (e : Event) → MayDraw k None e → f e ≡ false

find_one : (f : Event → Bool) → Skips f → (c : ClassId) (k : ℕ) (place : Option ℕ) (x : Event) (xs ys : List Event) → MayDraw k place x → find f xs ≡ find f ys →
    find f (cond (is_class c x.class) (x ∷ xs) xs) ≡ find f (cond (is_at c.number place) (x ∷ ys) ys)
find_one f s c k None x xs ys m h = find_skip f (is_class c x.class) x xs (s k x m) ∙ h
find_one f s c k (Some n) x xs ys m h = subst (λ (z : Option ClassId). find f (cond (is_class c z) (x ∷ xs) xs) ≡ find f (cond (eqb n c.number) (x ∷ ys) ys)) (sym m.1) (find_by f (eqb n c.number) x xs ys h)

find_same : (f : Event → Bool) → Skips f → (threads places : ℕ) (c : ClassId) (log : Log) → Fair threads places log → find f (about c log) ≡ find f (events_at c.number log)
find_same f s threads places c [] l = refl
find_same f s threads places c (e ∷ es) l = find_one f s c e.by e.place e.event (about c es) (events_at c.number es) l.2 (find_same f s threads places c es l.3)

unplaced : (o : Option ClassId) (k : Kind) (t : ℕ) → IsUnplaced o k → (is_failure (record { thread = t; class = o; kind = k }) ≡ false) × (is_completion (record { thread = t; class = o; kind = k }) ≡ false) × (is_beginning (record { thread = t; class = o; kind = k }) ≡ false)
unplaced (Some c) kind.Runs t u = (refl, refl, refl)
unplaced (Some c) kind.FindsInitialized t u = (refl, refl, refl)
unplaced None (kind.Prints x) t u = (refl, refl, refl)
unplaced (Some c) kind.Waits t u = absurd u
unplaced (Some c) kind.Recurs t u = absurd u
unplaced (Some c) kind.FindsErroneous t u = absurd u
unplaced (Some c) kind.Begins t u = absurd u
unplaced (Some c) kind.Completes t u = absurd u
unplaced (Some c) (kind.SuperFails x) t u = absurd u
unplaced (Some c) (kind.Fails x) t u = absurd u
unplaced (Some c) (kind.Gets f v) t u = absurd u
unplaced (Some c) (kind.Puts f v) t u = absurd u
unplaced (Some c) (kind.Prints x) t u = absurd u
unplaced None kind.Runs t u = absurd u
unplaced None kind.FindsInitialized t u = absurd u
unplaced None kind.Waits t u = absurd u
unplaced None kind.Recurs t u = absurd u
unplaced None kind.FindsErroneous t u = absurd u
unplaced None kind.Begins t u = absurd u
unplaced None kind.Completes t u = absurd u
unplaced None (kind.SuperFails x) t u = absurd u
unplaced None (kind.Fails x) t u = absurd u
unplaced None (kind.Gets f v) t u = absurd u
unplaced None (kind.Puts f v) t u = absurd u

-- the label of a class's events is that of the events of its place
pub label_same : (threads places : ℕ) (c : ClassId) (log : Log) → Fair threads places log → label_of (about c log) ≡ label_of (events_at c.number log)
label_same threads places c log l =
    let a : find is_failure (about c log) ≡ find is_failure (events_at c.number log) = find_same is_failure (λ k e m. (unplaced e.class e.kind e.thread m.1).0) threads places c log l in
    let b : find is_completion (about c log) ≡ find is_completion (events_at c.number log) = find_same is_completion (λ k e m. (unplaced e.class e.kind e.thread m.1).1) threads places c log l in
    let d : find is_beginning (about c log) ≡ find is_beginning (events_at c.number log) = find_same is_beginning (λ k e m. (unplaced e.class e.kind e.thread m.1).2) threads places c log l in
    cc

-- an event without place is allowed by the label of what is at its class's place before it
abbrev pub Welcome : ClassId → Log → Log → Type 0
Welcome c before [] = Unit {0}
Welcome c before (e ∷ es) = (e.place ≡ None → e.event.class ≡ Some c → Allows (label_of (events_at c.number before)) e.event.thread e.event.kind) × Welcome c (before ++ e ∷ []) es

cond_append : (b : Bool) (x : Event) (xs ys : List Event) → cond b (x ∷ (xs ++ ys)) (xs ++ ys) ≡ cond b (x ∷ xs) xs ++ ys
cond_append true x xs ys = refl
cond_append false x xs ys = refl

pub about-append : (c : ClassId) (a b : Log) → about c (a ++ b) ≡ about c a ++ about c b
about-append c [] b = refl
about-append c (e ∷ es) b = ap (λ (z : List Event). cond (is_class c e.event.class) (e.event ∷ z) z) (about-append c es b) ∙ cond_append (is_class c e.event.class) e.event (about c es) (about c b)

lawful_skip : (b : Bool) (x : Event) (A P : List Event) → (b ≡ true → Allows (label_of A) x.thread x.kind) → AgreesAfter (A ++ cond b (x ∷ []) []) P → AgreesAfter A (cond b (x ∷ P) P)
lawful_skip true x A P h l = (h refl, l)
lawful_skip false x A P h l = subst (λ (z : List Event). AgreesAfter z P) (append-nil A) l

lawful_by : (b : Bool) (x : Event) (A B P Q : List Event) → label_of A ≡ label_of B → (AgreesAfter (B ++ cond b (x ∷ []) []) Q → AgreesAfter (A ++ cond b (x ∷ []) []) P) → AgreesAfter B (cond b (x ∷ Q) Q) → AgreesAfter A (cond b (x ∷ P) P)
lawful_by true x A B P Q e go l = (subst (λ (z : Label). Allows z x.thread x.kind) (sym e) l.0, go l.1)
lawful_by false x A B P Q e go l = subst (λ (z : List Event). AgreesAfter z P) (append-nil A) (go (subst (λ (z : List Event). AgreesAfter z Q) (sym (append-nil B)) l))

lawful_one : (c : ClassId) (k : ℕ) (place : Option ℕ) (x : Event) (A B P Q : List Event) → MayDraw k place x → label_of A ≡ label_of B → (place ≡ None → x.class ≡ Some c → Allows (label_of B) x.thread x.kind) →
    (AgreesAfter (B ++ cond (is_at c.number place) (x ∷ []) []) Q → AgreesAfter (A ++ cond (is_class c x.class) (x ∷ []) []) P) →
    AgreesAfter B (cond (is_at c.number place) (x ∷ Q) Q) → AgreesAfter A (cond (is_class c x.class) (x ∷ P) P)
lawful_one c k None x A B P Q m e w go l =
    lawful_skip (is_class c x.class) x A P (λ h. subst (λ (z : Label). Allows z x.thread x.kind) (sym e) (w refl (class_is c x.class h))) (go (subst (λ (z : List Event). AgreesAfter z Q) (sym (append-nil B)) l))
lawful_one c k (Some n) x A B P Q m e w go l =
    let is : is_class c x.class ≡ eqb n c.number = ap (λ (z : Option ClassId). is_class c z) m.1 in
    subst (λ (z : Bool). AgreesAfter A (cond z (x ∷ P) P)) (sym is) (lawful_by (eqb n c.number) x A B P Q e (λ y. subst (λ (z : Bool). AgreesAfter (A ++ cond z (x ∷ []) []) P) is (go y)) l)

-- a class's events are lawful where those of its place are, and those without place are allowed
pub lawful_about : (threads places : ℕ) (c : ClassId) (before rest : Log) → Fair threads places before → Fair threads places rest → Welcome c before rest → AgreesAfter (events_at c.number before) (events_at c.number rest) → AgreesAfter (about c before) (about c rest)
lawful_about threads places c before [] f g w l = tt
lawful_about threads places c before (e ∷ es) f g w l =
    let next = lawful_about threads places c (before ++ e ∷ []) es (allowed-append threads places MayDraw before (e ∷ []) f (g.0, g.1, g.2, tt)) g.3 w.1 in
    let a : about c (before ++ e ∷ []) ≡ about c before ++ about c (e ∷ []) = about-append c before (e ∷ []) in
    let b : events_at c.number (before ++ e ∷ []) ≡ events_at c.number before ++ events_at c.number (e ∷ []) = events-append c.number before (e ∷ []) in
    lawful_one c e.by e.place e.event (about c before) (events_at c.number before) (about c es) (events_at c.number es) g.2 (label_same threads places c before f) w.0
    (λ y. subst (λ (z : List Event). AgreesAfter z (about c es)) a (next (subst (λ (z : List Event). AgreesAfter z (events_at c.number es)) (sym b) y))) l

has_filter : (P : Event → Type 0) (b : Bool) (x : Event) (xs ys : List Event) → (Has P xs → Has P ys) → Has P (cond b (x ∷ xs) xs) → Has P (x ∷ ys)
has_filter P true x xs ys go (inl q) = inl q
has_filter P true x xs ys go (inr h) = inr (go h)
has_filter P false x xs ys go h = inr (go h)

-- what is in a thread's part is in the whole list
pub has_of_thread : (P : Event → Type 0) (t : ℕ) (xs : List Event) → Has P (of_thread t xs) → Has P xs
has_of_thread P t [] h = absurd h
has_of_thread P t (x ∷ xs) h = has_filter P (eqb x.thread t) x (of_thread t xs) xs (has_of_thread P t xs) h

-- an event of a class that is drawn at a place alone is at its place
abbrev HasPlace : (Event → Type 0) → ClassId → Type 0
HasPlace P c = (k : ℕ) (place : Option ℕ) (x : Event) → MayDraw k place x → P x → is_at c.number place ≡ true

has_cond : (P : Event → Type 0) (b : Bool) (x : Event) (xs : List Event) → Has P xs → Has P (cond b (x ∷ xs) xs)
has_cond P true x xs h = inr h
has_cond P false x xs h = h

has_here : (P : Event → Type 0) (b : Bool) (x : Event) (xs : List Event) → b ≡ true → P x → Has P (cond b (x ∷ xs) xs)
has_here P true x xs e h = inl h
has_here P false x xs e h = absurd (let z : false ≡ true = e in cc)

pub has_at : (P : Event → Type 0) (c : ClassId) → HasPlace P c → (threads places : ℕ) (log : Log) → Fair threads places log → Has P (merged log) → Has P (events_at c.number log)
has_at P c hp threads places [] f h = absurd h
has_at P c hp threads places (e ∷ es) f (inl q) = has_here P (is_at c.number e.place) e.event (events_at c.number es) (hp e.by e.place e.event f.2 q) q
has_at P c hp threads places (e ∷ es) f (inr h) = has_cond P (is_at c.number e.place) e.event (events_at c.number es) (has_at P c hp threads places es f.3 h)

same_place : (n m : ℕ) → Some (id n) ≡ Some (id m) → eqb n m ≡ true
same_place n m q = eq-eqb n m (let z : id n ≡ id m = cc in ap (λ (c : ClassId). c.number) z)

end_unplaced : (o : Option ClassId) (k : Kind) → IsEnd k → IsUnplaced o k → ⊥
end_unplaced (Some c) kind.Completes i u = u
end_unplaced (Some c) (kind.SuperFails e) i u = u
end_unplaced (Some c) (kind.Fails e) i u = u
end_unplaced None kind.Completes i u = u
end_unplaced None (kind.SuperFails e) i u = u
end_unplaced None (kind.Fails e) i u = u
end_unplaced o kind.Waits i u = i
end_unplaced o kind.Recurs i u = i
end_unplaced o kind.FindsInitialized i u = i
end_unplaced o kind.FindsErroneous i u = i
end_unplaced o kind.Begins i u = i
end_unplaced o kind.Runs i u = i
end_unplaced o (kind.Gets f v) i u = i
end_unplaced o (kind.Puts f v) i u = i
end_unplaced o (kind.Prints x) i u = i

pub begins_has_place : (t : ℕ) (c : ClassId) → HasPlace (λ e. e ≡ event t c kind.Begins) c
begins_has_place t c k (Some n) x m q = same_place n c.number (let z : x.class ≡ Some c = ap (λ (e : Event). e.class) q in sym m.1 ∙ z)
begins_has_place t c k None x m q = absurd (subst (λ (e : Event). IsUnplaced e.class e.kind) q m.1)

pub ends_has_place : (t : ℕ) (c : ClassId) → HasPlace (λ e. (k : Kind) × IsEnd k × (e ≡ event t c k)) c
ends_has_place t c k (Some n) x m q = same_place n c.number (let z : x.class ≡ Some c = ap (λ (e : Event). e.class) q.2 in sym m.1 ∙ z)
ends_has_place t c k None x m q = absurd (end_unplaced (Some c) q.0 q.1 (subst (λ (e : Event). IsUnplaced e.class e.kind) q.2 m.1))

-- labels of lawful lists
found_later : (b : Bool) (x : Event) (o : Option Event) → o ≢ None → cond b (Some x) o ≢ None
found_later true x o n = λ e. cc
found_later false x o n = n

pub found : (P : Event → Type 0) (f : Event → Bool) → ((x : Event) → P x → f x ≡ true) → (h : List Event) → Has P h → find f h ≢ None
found P f g [] a = absurd a
found P f g (x ∷ xs) (inl q) = λ e. (let y : cond (f x) (Some x) (find f xs) ≡ Some x = ap (λ (z : Bool). cond z (Some x) (find f xs)) (g x q) in cc)
found P f g (x ∷ xs) (inr a) = found_later (f x) x (find f xs) (found P f g xs a)

begun_by : (f c b : Option Event) → b ≢ None → label_by f c b ≢ Prepared
begun_by (Some x) c b n = λ q. cc
begun_by None (Some x) b n = λ q. cc
begun_by None None (Some x) n = λ q. cc
begun_by None None None n = absurd (n refl)

begun_label : (t : ℕ) (c : ClassId) (h : List Event) → Begins t c h → label_of h ≢ Prepared
begun_label t c h b = begun_by (find is_failure h) (find is_completion h) (find is_beginning h) (found (λ e. e ≡ event t c kind.Begins) is_beginning (λ x q. ap is_beginning q) h b)

ends_allows : (l : Label) (t : ℕ) (k : Kind) → IsEnd k → Allows l t k → l ≡ InProgress t
ends_allows l t kind.Completes i a = a
ends_allows l t (kind.SuperFails e) i a = a
ends_allows l t (kind.Fails e) i a = a
ends_allows l t kind.Waits i a = absurd i
ends_allows l t kind.Recurs i a = absurd i
ends_allows l t kind.FindsInitialized i a = absurd i
ends_allows l t kind.FindsErroneous i a = absurd i
ends_allows l t kind.Begins i a = absurd i
ends_allows l t kind.Runs i a = absurd i
ends_allows l t (kind.Gets f v) i a = absurd i
ends_allows l t (kind.Puts f v) i a = absurd i
ends_allows l t (kind.Prints x) i a = absurd i

next_not_prepared : (l : Label) (u : ℕ) (k : Kind) → l ≢ Prepared → next_label l u k ≢ Prepared
next_not_prepared l u kind.Begins n = λ q. cc
next_not_prepared l u kind.Completes n = λ q. cc
next_not_prepared l u (kind.SuperFails e) n = λ q. cc
next_not_prepared l u (kind.Fails e) n = λ q. cc
next_not_prepared l u kind.Waits n = n
next_not_prepared l u kind.Recurs n = n
next_not_prepared l u kind.FindsInitialized n = n
next_not_prepared l u kind.FindsErroneous n = n
next_not_prepared l u kind.Runs n = n
next_not_prepared l u (kind.Gets f v) n = n
next_not_prepared l u (kind.Puts f v) n = n
next_not_prepared l u (kind.Prints x) n = n

was_in_progress : (l : Label) (u t : ℕ) (k : Kind) → Allows l u k → l ≢ Prepared → next_label l u k ≡ InProgress t → l ≡ InProgress t
was_in_progress l u t kind.Begins a n q = absurd (n a)
was_in_progress l u t kind.Completes a n q = cc
was_in_progress l u t (kind.SuperFails e) a n q = cc
was_in_progress l u t (kind.Fails e) a n q = cc
was_in_progress l u t kind.Waits a n q = q
was_in_progress l u t kind.Recurs a n q = q
was_in_progress l u t kind.FindsInitialized a n q = q
was_in_progress l u t kind.FindsErroneous a n q = q
was_in_progress l u t kind.Runs a n q = q
was_in_progress l u t (kind.Gets f v) a n q = q
was_in_progress l u t (kind.Puts f v) a n q = q
was_in_progress l u t (kind.Prints x) a n q = q

-- a class that has begun and that t ends later is in progress by t
pub in_progress : (t : ℕ) (c : ClassId) (h ys : List Event) → AgreesAfter h ys → Ends t c ys → label_of h ≢ Prepared → label_of h ≡ InProgress t
in_progress t c h [] l e n = absurd e
in_progress t c h (x ∷ ys) l (inl q) n = ends_allows (label_of h) t q.0 q.1 (subst (λ (z : Event). Allows (label_of h) z.thread z.kind) q.2 l.0)
in_progress t c h (x ∷ ys) l (inr e) n =
    let after : label_of (h ++ x ∷ []) ≡ next_label (label_of h) x.thread x.kind = label_after h x l.0 in
    let later : label_of (h ++ x ∷ []) ≡ InProgress t = in_progress t c (h ++ x ∷ []) ys l.1 e (subst (λ (z : Label). z ≢ Prepared) (sym after) (next_not_prepared (label_of h) x.thread x.kind n)) in
    was_in_progress (label_of h) x.thread t x.kind l.0 n (sym after ∙ later)

pub lawful_split : (h xs ys : List Event) → AgreesAfter h (xs ++ ys) → AgreesAfter (h ++ xs) ys
lawful_split h [] ys l = subst (λ (z : List Event). AgreesAfter z ys) (sym (append-nil h)) l
lawful_split h (x ∷ xs) ys l = subst (λ (z : List Event). AgreesAfter z ys) (simp append_assoc) (lawful_split (h ++ x ∷ []) xs ys l.1)

lawful_front : (h xs ys : List Event) → AgreesAfter h (xs ++ ys) → AgreesAfter h xs
lawful_front h [] ys l = tt
lawful_front h (x ∷ xs) ys l = (l.0, lawful_front (h ++ x ∷ []) xs ys l.1)

lawful_joined : (h xs ys : List Event) → AgreesAfter h xs → AgreesAfter (h ++ xs) ys → AgreesAfter h (xs ++ ys)
lawful_joined h [] ys a b = subst (λ (z : List Event). AgreesAfter z ys) (append-nil h) b
lawful_joined h (x ∷ xs) ys a b = (a.0, lawful_joined (h ++ x ∷ []) xs ys a.1 (subst (λ (z : List Event). AgreesAfter z ys) (sym (append_assoc h (x ∷ []) xs)) b))

thread-append : (t : ℕ) (a b : Log) → of_thread t (merged (a ++ b)) ≡ of_thread t (merged a) ++ of_thread t (merged b)
thread-append t [] b = refl
thread-append t (e ∷ es) b = ap (λ (z : List Event). cond (eqb e.event.thread t) (e.event ∷ z) z) (thread-append t es b) ∙ cond_append (eqb e.event.thread t) e.event (of_thread t (merged es)) (of_thread t (merged b))

pub own_thread : (x : Event) (xs : List Event) → of_thread x.thread (x ∷ xs) ≡ x ∷ of_thread x.thread xs
own_thread x xs = ap (λ (z : Bool). cond z (x ∷ of_thread x.thread xs) (of_thread x.thread xs)) (eq-eqb x.thread x.thread refl)

unplaced_kind : (c : ClassId) (k : Kind) → IsUnplaced (Some c) k → (k ≡ kind.Runs) ⊎ (k ≡ kind.FindsInitialized)
unplaced_kind c kind.Runs u = inl refl
unplaced_kind c kind.FindsInitialized u = inr refl
unplaced_kind c kind.Waits u = absurd u
unplaced_kind c kind.Recurs u = absurd u
unplaced_kind c kind.FindsErroneous u = absurd u
unplaced_kind c kind.Begins u = absurd u
unplaced_kind c kind.Completes u = absurd u
unplaced_kind c (kind.SuperFails e) u = absurd u
unplaced_kind c (kind.Fails e) u = absurd u
unplaced_kind c (kind.Gets f v) u = absurd u
unplaced_kind c (kind.Puts f v) u = absurd u
unplaced_kind c (kind.Prints x) u = absurd u

pub made : (x : Event) (c : ClassId) (k : Kind) → x.class ≡ Some c → x.kind ≡ k → x ≡ event x.thread c k
made x c k h q = subst (λ (o : Option ClassId). x ≡ record { thread = x.thread; class = o; kind = k }) h (subst (λ (z : Kind). x ≡ record { thread = x.thread; class = x.class; kind = z }) q refl)

welcome_run : (threads places : ℕ) (c : ClassId) (before es : Log) (e : Entry Event) → Fair threads places before → Fair threads places es → e.event.class ≡ Some c → e.event.kind ≡ kind.Runs →
    Alone e.event.thread (of_thread e.event.thread (merged (before ++ e ∷ es))) → AgreesAfter (events_at c.number before) (events_at c.number es) → label_of (events_at c.number before) ≡ InProgress e.event.thread
welcome_run threads places c before es e f g cls k alone law =
    let t : ℕ = e.event.thread in
    let split : of_thread t (merged (before ++ e ∷ es)) ≡ of_thread t (merged before) ++ e.event ∷ of_thread t (merged es) =
    thread-append t before (e ∷ es) ∙ ap (λ (z : List Event). of_thread t (merged before) ++ z) (own_thread e.event (merged es)) in
    let within : Within t (of_thread t (merged before)) e.event (of_thread t (merged es)) = at_place t (of_thread t (merged before)) (of_thread t (merged es)) e.event (subst (λ (z : List Event). Alone t z) split alone) in
    let both = (within c).0 (made e.event c kind.Runs cls k) in
    let begun : Begins t c (events_at c.number before) = has_at (λ x. x ≡ event t c kind.Begins) c (begins_has_place t c) threads places before f (has_of_thread (λ x. x ≡ event t c kind.Begins) t (merged before) both.0) in
    let ended : Ends t c (events_at c.number es) = has_at (λ x. (k : Kind) × IsEnd k × (x ≡ event t c k)) c (ends_has_place t c) threads places es g (has_of_thread (λ x. (k : Kind) × IsEnd k × (x ≡ event t c k)) t (merged es) both.1) in
    in_progress t c (events_at c.number before) (events_at c.number es) law ended (begun_label t c (events_at c.number before) begun)

skip_none : (c : ClassId) (place : Option ℕ) (x : Event) (es : Log) → place ≡ None → cond (is_at c.number place) (x ∷ events_at c.number es) (events_at c.number es) ≡ events_at c.number es
skip_none c None x es q = refl
skip_none c (Some n) x es q = cc

may_none : (k : ℕ) (place : Option ℕ) (x : Event) → place ≡ None → MayDraw k place x → IsUnplaced x.class x.kind
may_none k None x q m = m.1
may_none k (Some n) x q m = cc

backed_by : (before : Log) (place : Option ℕ) (x : Event) → place ≡ None → IsBacked leans_on is_completion before place x → (n : ℕ) → leans_on x ≡ Some n → settled is_completion (events_at n before) ≡ true
backed_by before None x q b = b
backed_by before (Some n) x q b = cc

leans : (c : ClassId) (x : Event) → x.class ≡ Some c → x.kind ≡ kind.FindsInitialized → leans_on x ≡ Some c.number
leans c x cls k = (λ i. leaning (cls i) (k i))

-- what is at a place before is lawful where all of it is
front_agrees : (c : ClassId) (log before rest : Log) → log ≡ before ++ rest → AgreesWithLabels (events_at c.number log) → AgreesWithLabels (events_at c.number before)
front_agrees c log before rest q l = lawful_front [] (events_at c.number before) (events_at c.number rest) (subst AgreesWithLabels (ap (events_at c.number) q ∙ events-append c.number before rest) l)

welcome : (threads places : ℕ) (c : ClassId) (log before rest : Log) → log ≡ before ++ rest → AgreesWithLabels (events_at c.number log) → AllBacked leans_on is_completion before rest → Fair threads places before → Fair threads places rest →
    ((t : ℕ) → t < threads → Alone t (of_thread t (merged log))) → AgreesAfter (events_at c.number before) (events_at c.number rest) → Welcome c before rest
welcome threads places c log before [] q whole_law backed f g alone law = tt
welcome threads places c log before (e ∷ es) q whole_law backed f g alone law =
    let may : (e.place ≡ None) → IsUnplaced e.event.class e.event.kind = λ n. may_none e.by e.place e.event n g.2 in
    let same : e.event.thread ≡ e.by = thread_of e.by e.place e.event g.2 in
    let step : events_at c.number (before ++ e ∷ []) ≡ events_at c.number before ++ events_at c.number (e ∷ []) = events-append c.number before (e ∷ []) in
    let parts : events_at c.number (e ∷ es) ≡ events_at c.number (e ∷ []) ++ events_at c.number es = events-append c.number (e ∷ []) es in
    let split : AgreesAfter (events_at c.number before) (events_at c.number (e ∷ []) ++ events_at c.number es) = subst (λ (z : List Event). AgreesAfter (events_at c.number before) z) parts law in
    let later : AgreesAfter (events_at c.number (before ++ e ∷ [])) (events_at c.number es) = subst (λ (z : List Event). AgreesAfter z (events_at c.number es)) (sym step) (lawful_split (events_at c.number before) (events_at c.number (e ∷ [])) (events_at c.number es) split) in (
      (λ none cls.
          let u : IsUnplaced (Some c) e.event.kind = subst (λ (o : Option ClassId). IsUnplaced o e.event.kind) cls (may none) in
          let low : e.event.thread < threads = subst (λ (n : ℕ). n < threads) (sym same) g.0 in
          let whole : Alone e.event.thread (of_thread e.event.thread (merged (before ++ e ∷ es))) = subst (λ (z : Log). Alone e.event.thread (of_thread e.event.thread (merged z))) q (alone e.event.thread low) in
          let l : AgreesAfter (events_at c.number before) (events_at c.number es) = subst (λ (z : List Event). AgreesAfter (events_at c.number before) z) (skip_none c e.place e.event es none) law in
          ⊎_elim
          (λ k. subst (λ (z : Kind). Allows (label_of (events_at c.number before)) e.event.thread z) (sym k) (welcome_run threads places c before es e f g.3 cls k whole l))
          (λ k. subst (λ (z : Kind). Allows (label_of (events_at c.number before)) e.event.thread z) (sym k) (is_ready (events_at c.number before) (front_agrees c log before (e ∷ es) q whole_law) (backed_by before e.place e.event none backed.0 c.number (leans c e.event cls k))))
          (unplaced_kind c e.event.kind u)),
      welcome threads places c log (before ++ e ∷ []) es (q ∙ sym (append_assoc before (e ∷ []) es)) whole_law backed.1 (allowed-append threads places MayDraw before (e ∷ []) f (g.0, g.1, g.2, tt)) g.3 alone later,
    )

-- the heart: the events of all threads agree with the labels of each class
pub classes_agree : (threads places : ℕ) (log : Log) → AllBacked leans_on is_completion [] log → Fair threads places log → ((t : ℕ) → t < threads → Alone t (of_thread t (merged log))) → (c : ClassId) → AgreesWithLabels (events_at c.number log) → AgreesWithLabels (of_class c (merged log))
classes_agree threads places log backed f alone c law = lawful_about threads places c [] log tt f (welcome threads places c log [] log refl law backed tt f alone law) law
