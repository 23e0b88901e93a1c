-- What one event more leaves of a log, and what is known of the threads of its events.
use Rattle.std.proofs.Common.{◌≡◌, ◌≢◌, ◌⊎◌, inl, inr, ℕ, ◌<◌, ◌≤◌, ◌==◌, List, [], ◌∷◌, ◌++◌, Option, Some, None, Bool, true, false, length, slice_get, refl, sym, ap, subst, ◌∙◌, eq-eqb, append-nil, arith}
use Rattle.std.specs.Prelude.{slice_index_or, slice_set, filter}
use Rattle.std.specs.List.{AllByRecursion, find}
use Rattle.std.proofs.lemmas.Bool.{ne_eqb}
use Rattle.std.proofs.lemmas.Bool.Decides.{eqb_tells}
use Rattle.std.proofs.lemmas.List.{get_or-set_same, get_or-set_other, length-set}
use Rattle.std.proofs.lemmas.List.Elements.{filter-append}
use Rattle.std.proofs.lemmas.Option.{slice_get_within}
use Rattle.hierarchy.specs.declared.class.ClassId.{ClassId}
use Rattle.hierarchy.specs.declared.value.Value.{Value}
use Rattle.hierarchy.specs.LinkedProgram.{LinkedProgram, id}
use Rattle.hierarchy.specs.LinkedTexts.{IsLinked}
use Rattle.statics.specs.declared.static_field.StaticField.{StaticField}
use Rattle.statics.specs.Statics.{statics_of}
use Rattle.init_core.specs.declared.event.Event.{Event}
use Rattle.init_core.specs.declared.event.Kind.{Kind}
use Rattle.init_core.specs.declared.event.Kind.TheVariants as kind
use Rattle.init_core.specs.declared.event.Label.{Label}
use Rattle.init_core.specs.declared.event.Label.TheVariants.{InProgress}
use Rattle.init_core.specs.declared.frames.Ending.TheVariants as ending
use Rattle.init_core.specs.declared.event.TheConstants.{THREADS}
use Rattle.init_core.specs.ClassState.{State, IsStateOf, stepped}
use Rattle.init_core.specs.Decisions.{event}
use Rattle.init_core.specs.Interleaving.{of_thread, of_class, is_class, label_at}
use Rattle.init_core.specs.Label.{label_by, is_beginning}
use Rattle.init_core.specs.Lawful.{Allows, Holds, AgreesAfter}
use Rattle.init_core.specs.Numbers.{IsInRange}
use Rattle.init_core.specs.ProcedureWord.{IsOfFiles}
use Rattle.init_core.specs.ProgramEvents.{IsDoneAt, IsValueOf, IsProgramEvent, at_class, prints_text}
use Rattle.init_core.specs.Stands.{SeesMore}
use Rattle.init_core.proofs.Errors.{ending_in_range}
use Rattle.init_core.proofs.States.{state_after, few_statics}
use Rattle.init_core.proofs.InterleavingParts.{one_more, no_more, class_is}
use Rattle.bodies.specs.Writes.{WritesHeldIn, WritesHeld}
use Rattle.replayer.specs.declared.log.EventLog.{EventLog}
use Rattle.replayer.specs.Logged.{IsStateAfter, IsLog, histories}

pub all_more : (Q : Event → Type 0) (xs : List Event) (e : Event) → AllByRecursion Q xs → Q e → AllByRecursion Q (xs ++ e ∷ [])
all_more Q [] e a q = (q, tt)
all_more Q (x ∷ xs) e a q = (a.0, all_more Q xs e a.1 q)

-- ---- the threads of events

-- these events are of so many threads
abbrev pub AreLow : ℕ → List Event → Type 0
AreLow n events = AllByRecursion (λ e. e.thread < n) events

low_of : (p : LinkedProgram) (n : ℕ) (e : Event) → IsProgramEvent p n e → e.thread < n
low_of p n e (at_class k low within done) = low
low_of p n e (prints_text text low is) = low

pub all_low : (p : LinkedProgram) (n : ℕ) (events : List Event) → AllByRecursion (λ e. IsProgramEvent p n e) events → AreLow n events
all_low p n [] a = tt
all_low p n (e ∷ events) a = (low_of p n e a.0, all_low p n events a.1)

low_filtered : (n : ℕ) (q : Event → Bool) (xs : List Event) → AreLow n xs → AreLow n (filter q xs)
low_filtered n q [] a = tt
low_filtered n q (x ∷ xs) a = at (q x) refl (low_filtered n q xs a.1) where
  at : (b : Bool) → q x ≡ b → AreLow n (filter q xs) → AreLow n (filter q (x ∷ xs))
  at true e h = rw e (a.0, h)
  at false e h = rw e h

found_low : (n : ℕ) (q : Event → Bool) (xs : List Event) (x : Event) → AreLow n xs → find q xs ≡ Some x → x.thread < n
found_low n q [] x a e = absurd (let z : None ≡ Some x = e in cc)
found_low n q (y ∷ xs) x a e = at (q y) refl (found_low n q xs x a.1) where
  at : (b : Bool) → q y ≡ b → (find q xs ≡ Some x → x.thread < n) → x.thread < n
  at true z further = let found : Some y ≡ Some x = rw z at e in let same : y ≡ x = cc in subst (λ (v : Event). v.thread < n) same a.0
  at false z further = further (rw z at e)

owner_of : (f c b : Option Event) (u : ℕ) → label_by f c b ≡ InProgress u → (x : Event) × (b ≡ Some x) × (x.thread ≡ u)
owner_of (Some x) c b u q = absurd cc
owner_of None (Some x) b u q = absurd cc
owner_of None None (Some x) u q = (x, refl, cc)
owner_of None None None u q = absurd cc

-- a class is in progress by one of these threads
pub low_owner : (n : ℕ) (events : List Event) (c : ClassId) (u : ℕ) → AreLow n events → label_at events c ≡ InProgress u → u < n
low_owner n events c u a q =
    let x = owner_of _ _ (find is_beginning (of_class c events)) u q in
    subst (λ (v : ℕ). v < n) x.2 (found_low n is_beginning (of_class c events) x.0 (low_filtered n (λ e. is_class c e.class) events a) x.1)

pub none_high : (n t : ℕ) (events : List Event) → n ≤ t → AreLow n events → of_thread t events ≡ []
none_high n t [] high a = refl
none_high n t (e ∷ events) high a = let low : e.thread < n = a.0 in rw (ne_eqb e.thread t (λ q. absurd (omega arith))) (none_high n t events high a.1)

-- one event more of a thread
pub own_more : (t : ℕ) (events : List Event) (e : Event) → e.thread ≡ t → of_thread t (events ++ e ∷ []) ≡ of_thread t events ++ e ∷ []
own_more t events e q = filter-append (λ x. x.thread == t) events (e ∷ []) ∙ ap (λ (es : List Event). of_thread t events ++ es) (rw (eq-eqb e.thread t q) refl)

-- or of another
pub own_same : (t : ℕ) (events : List Event) (e : Event) → e.thread ≢ t → of_thread t (events ++ e ∷ []) ≡ of_thread t events
own_same t events e n = filter-append (λ x. x.thread == t) events (e ∷ []) ∙ (ap (λ (es : List Event). of_thread t events ++ es) (rw (ne_eqb e.thread t n) refl) ∙ append-nil (of_thread t events))

-- ---- what was written

writes_in : (p : LinkedProgram) (c : ClassId) (k : Kind) → IsDoneAt p c k → WritesHeldIn (statics_of p c) k
writes_in p c (kind.Puts place v) h = h
writes_in p c (kind.Gets place v) h = tt
writes_in p c kind.Waits h = tt
writes_in p c kind.Recurs h = tt
writes_in p c kind.FindsInitialized h = tt
writes_in p c kind.FindsErroneous h = tt
writes_in p c kind.Begins h = tt
writes_in p c (kind.SuperFails e) h = tt
writes_in p c kind.Runs h = tt
writes_in p c kind.Completes h = tt
writes_in p c (kind.Fails e) h = tt
writes_in p c (kind.Prints text) h = absurd h

write_held : (p : LinkedProgram) (n : ℕ) (c : ClassId) (e : Event) → IsProgramEvent p n e → e.class ≡ Some c → WritesHeld (statics_of p c) e
write_held p n c e (at_class {c = d} k low within done) q = let same : d ≡ c = cc in subst (λ (x : ClassId). WritesHeldIn (statics_of p x) k) same (writes_in p d k done)
write_held p n c e (prints_text text low is) q = absurd (let z : None ≡ Some c = q in cc)

pub writes_held : (p : LinkedProgram) (n : ℕ) (c : ClassId) (events : List Event) → AllByRecursion (λ e. IsProgramEvent p n e) events → AllByRecursion (λ e. WritesHeld (statics_of p c) e) (of_class c events)
writes_held p n c [] a = tt
writes_held p n c (e ∷ events) a = at (is_class c e.class) refl (writes_held p n c events a.1) where
  at : (b : Bool) → is_class c e.class ≡ b → AllByRecursion (λ x. WritesHeld (statics_of p c) x) (of_class c events) → AllByRecursion (λ x. WritesHeld (statics_of p c) x) (of_class c (e ∷ events))
  at true q h = rw q (write_held p n c e a.0 (class_is c e.class q), h)
  at false q h = rw q h

-- ---- one event more

same_class : (c d : ClassId) → (c.number == d.number) ≡ true → c ≡ d
same_class c d e = let q : Some d ≡ Some c = sym (class_is d (Some c) e) in cc

-- it is seen of its class
pub sees_one : (t : ℕ) (events : List Event) (c : ClassId) (k : Kind) → Allows (label_at events c) t k → SeesMore (histories events) (λ d. of_class d (event t c k ∷ [])) (histories (events ++ event t c k ∷ []))
sees_one t events c k ok = record { adds = λ d. filter-append (λ e. is_class d e.class) events (event t c k ∷ []); agrees = λ d. at d (c.number == d.number) refl } where
  at : (d : ClassId) (b : Bool) → (c.number == d.number) ≡ b → AgreesAfter (of_class d events) (of_class d (event t c k ∷ []))
  at d true e = rw e (subst (λ (x : ClassId). Allows (label_at events x) t k) (same_class c d e) ok, tt)
  at d false e = rw e tt

pub sees_none : (events : List Event) → SeesMore (histories events) (λ d. []) (histories events)
sees_none events = record { adds = λ d. sym (append-nil (of_class d events)); agrees = λ d. tt }

field_within : (fields : List StaticField) (place : ℕ) (v : Value) → IsValueOf (slice_get fields place) v → place < length fields
field_within fields place v h = at (slice_get fields place) refl h where
  at : (o : Option StaticField) → slice_get fields place ≡ o → IsValueOf o v → place < length fields
  at None e h = absurd h
  at (Some f) e h = slice_get_within fields place f e

-- the numbers of what is done are in their range
pub in_range : (p : LinkedProgram) (c : ClassId) (k : Kind) → IsLinked p → length p.classes ≤ 1024 → IsDoneAt p c k → IsInRange k
in_range p c (kind.SuperFails e) linked few h = ending_in_range p c (ending.SuperFails e) few h
in_range p c (kind.Fails e) linked few h = ending_in_range p c (ending.Fails e) few h
in_range p c (kind.Gets place v) linked few h = let a = field_within (statics_of p c) place v h in let b = few_statics p linked c in omega (arith, a, b)
in_range p c (kind.Puts place v) linked few h = let a = field_within (statics_of p c) place v h in let b = few_statics p linked c in omega (arith, a, b)
in_range p c (kind.Prints text) linked few h = absurd h
in_range p c kind.Waits linked few h = tt
in_range p c kind.Recurs linked few h = tt
in_range p c kind.FindsInitialized linked few h = tt
in_range p c kind.FindsErroneous linked few h = tt
in_range p c kind.Begins linked few h = tt
in_range p c kind.Runs linked few h = tt
in_range p c kind.Completes linked few h = tt

module _ (p : LinkedProgram) where
  -- the state of a class
  pub state_of : (l : EventLog) (c : ClassId) (r : State) → IsLog p l → IsOfFiles p c → r ≡ slice_index_or l.states.items c.number r → IsStateAfter p l.events.items c r
  state_of l c r log within at = subst (λ (x : State). IsStateAfter p l.events.items c x) (sym at) (log.states c.number r within)

  -- a class has an event more
  pub added : (l m : EventLog) (t : ℕ) (c : ClassId) (k : Kind) (r new : State) → m.threads ≡ l.threads → t < l.threads.value → IsLog p l → IsOfFiles p c → r ≡ slice_index_or l.states.items c.number r → new ≡ stepped r t k → m.states.items ≡ slice_set l.states.items c.number new → m.events.items ≡ l.events.items ++ event t c k ∷ [] →
      Allows (label_at l.events.items c) t k → IsDoneAt p c k → IsInRange k → Holds (statics_of p c) (of_class c l.events.items) k → IsLog p m
  added l m t c k r new threads low log within at is states events ok done range holds = record {
    few = subst (λ (n : ℕ). n ≤ THREADS) (sym (ap (λ x. x.value) threads)) log.few;
    count = ap length states ∙ (length-set l.states.items c.number new ∙ log.count);
    states = λ n other below. subst (λ (es : List Event). IsStateAfter p es (id n) (slice_index_or m.states.items n other)) (sym events)
        (subst (λ (ss : List State). IsStateAfter p (l.events.items ++ event t c k ∷ []) (id n) (slice_index_or ss n other)) (sym states) (by_number n other below (eqb_tells n c.number)));
    events = subst (λ (n : ℕ). AllByRecursion (λ e. IsProgramEvent p n e) m.events.items) (sym (ap (λ x. x.value) threads)) (subst (λ (es : List Event). AllByRecursion (λ e. IsProgramEvent p l.threads.value e) es) (sym events) (all_more (λ e. IsProgramEvent p l.threads.value e) l.events.items (event t c k) log.events (at_class k low within done)));
  } where
    old : IsStateAfter p l.events.items c r
    old = state_of l c r log within at

    more : IsStateOf (stepped r t k) (of_class c l.events.items ++ event t r.class k ∷ [])
    more = state_after r (of_class c l.events.items) t k (let few = log.few in omega arith) (subst (λ (x : Label). Allows x t k) (sym old.state.label) ok) old.state range (subst (λ (fs : List StaticField). Holds fs (of_class c l.events.items) k) (sym old.fields) holds)

    here : of_class c (l.events.items ++ event t c k ∷ []) ≡ of_class c l.events.items ++ event t c k ∷ []
    here = one_more l.events.items (event t c k) c (eq-eqb c.number c.number refl)

    after : IsStateAfter p (l.events.items ++ event t c k ∷ []) c (stepped r t k)
    after = record {
      class = old.class;
      fields = old.fields;
      state = subst (IsStateOf (stepped r t k)) (sym here) (subst (λ (d : ClassId). IsStateOf (stepped r t k) (of_class c l.events.items ++ event t d k ∷ [])) old.class more);
    }

    same_length : length l.states.items ≡ length p.classes
    same_length = log.count

    by_number : (n : ℕ) (other : State) → n < length p.classes → ((n == c.number) ≡ true × (n ≡ c.number)) ⊎ (((n == c.number) ≡ false) × (n ≢ c.number)) → IsStateAfter p (l.events.items ++ event t c k ∷ []) (id n) (slice_index_or (slice_set l.states.items c.number new) n other)
    by_number n other below (inl x) =
        let it : slice_index_or (slice_set l.states.items c.number new) c.number other ≡ new = get_or-set_same l.states.items c.number new other (omega (arith, within, same_length)) in
        rw x.1 (rw it (subst (λ (s : State). IsStateAfter p (l.events.items ++ event t c k ∷ []) c s) (sym is) after))
    by_number n other below (inr x) =
        let it : slice_index_or (slice_set l.states.items c.number new) n other ≡ slice_index_or l.states.items n other = get_or-set_other l.states.items c.number n new other x.1 in
        let o = log.states n other below in
        let still : of_class (id n) (l.events.items ++ event t c k ∷ []) ≡ of_class (id n) l.events.items = no_more l.events.items (event t c k) (id n) (ne_eqb c.number n (λ e. x.1 (sym e))) in
        rw it (record { class = o.class; fields = o.fields; state = subst (IsStateOf (slice_index_or l.states.items n other)) (sym still) o.state })
