-- The state of a class, event by event.
use Rattle.std.proofs.Common.{◌≡◌, ◌≢◌, ◌⊎◌, ℕ, ◌<◌, ◌≤◌, inl, inr, Bool, true, false, List, [], ◌∷◌, ◌++◌, Option, Some, None, length, ◌==◌, refl, sym, ap, ◌∙◌, subst, arith}
use Rattle.std.specs.Prelude.{if◌then◌else◌, slice_index_or, slice_set, slice_get, map, filter, replicate}
use Rattle.std.specs.List.{find, AllByRecursion}
use Rattle.std.proofs.lemmas.Bool.Decides.{eqb_tells}
use Rattle.std.proofs.lemmas.List.{get_or-set_same, get_or-set_other, length-set}
use Rattle.std.proofs.lemmas.List.{get_or-replicate, length-map}
use Rattle.std.proofs.lemmas.Option.{slice_get-map}
use Rattle.hierarchy.specs.declared.class.Class.{Class}
use Rattle.hierarchy.specs.declared.class.ClassId.{ClassId}
use Rattle.hierarchy.specs.LinkedProgram.{LinkedProgram, class_at}
use Rattle.hierarchy.specs.LinkedTexts.{IsLinked}
use Rattle.hierarchy.proofs.ObjectCells.{few_own}
use Rattle.hierarchy.specs.StaticFields.{is_static_field}
use Rattle.statics.specs.Statics.{default_of, static_field, static_fields, static_fields_in, statics_of}
use Rattle.init_core.specs.declared.event.Event.{Event}
use Rattle.init_core.specs.declared.event.Kind.{Kind}
use Rattle.init_core.specs.declared.event.Kind.TheVariants as kind
use Rattle.init_core.specs.declared.event.Label.TheVariants.{Prepared, InProgress}
use Rattle.init_core.specs.declared.event.TheConstants.{THREADS, FIELD_PLACES}
use Rattle.init_core.specs.ClassState.{State, IsStateOf, AreHeld, stepped, next_label, next_failure, next_values}
use Rattle.init_core.specs.Decisions.{event, waits, waits_from, is_wait}
use Rattle.init_core.specs.Label.{label_of, label_by, is_failure, is_completion, is_beginning}
use Rattle.init_core.specs.Lawful.{Allows, Holds}
use Rattle.init_core.specs.Numbers.{IsInRange, IsEventOf}
use Rattle.init_core.proofs.Labels.{label_after, failure_after}
use Rattle.init_core.proofs.Values.{still_held, held_begun, held_put, lawful_more}

waits_more_from : (b : Bool) (t : ℕ) (h : List Event) (e : Event) → waits_from b t (h ++ e ∷ []) ≡ (if e.thread == t then is_wait e.kind else waits_from b t h)
waits_more_from b t [] e = refl
waits_more_from b t (x ∷ h) e = waits_more_from (if x.thread == t then is_wait x.kind else b) t h e

-- whether a thread waits after one event more
pub waits_more : (t : ℕ) (h : List Event) (e : Event) → waits t (h ++ e ∷ []) ≡ (if e.thread == t then is_wait e.kind else waits t h)
waits_more t h e = waits_more_from false t h e

all_more : (c : ClassId) (h : List Event) (e : Event) → AllByRecursion (λ x. IsEventOf c x) h → IsEventOf c e → AllByRecursion (λ x. IsEventOf c x) (h ++ e ∷ [])
all_more c [] e a q = (q, tt)
all_more c (x ∷ h) e a q = (a.0, all_more c h e a.1 q)

values_after : (s : State) (h : List Event) (t : ℕ) (k : Kind) → IsStateOf s h → Allows s.label t k → Holds s.fields h k → AreHeld s.fields (next_values s.fields s.values k) (h ++ event t s.class k ∷ [])
values_after s h t kind.Begins g a holds = held_begun s.fields s.values h t s.class g.lawful.labels (sym g.label ∙ a) g.values
values_after s h t (kind.Puts place value) g a holds = held_put s.fields s.values h t s.class place value holds g.values
values_after s h t kind.Waits g a holds = still_held s.fields s.values h (event t s.class kind.Waits) tt g.values
values_after s h t kind.Recurs g a holds = still_held s.fields s.values h (event t s.class kind.Recurs) tt g.values
values_after s h t kind.FindsInitialized g a holds = still_held s.fields s.values h (event t s.class kind.FindsInitialized) tt g.values
values_after s h t kind.FindsErroneous g a holds = still_held s.fields s.values h (event t s.class kind.FindsErroneous) tt g.values
values_after s h t (kind.SuperFails e) g a holds = still_held s.fields s.values h (event t s.class (kind.SuperFails e)) tt g.values
values_after s h t kind.Runs g a holds = still_held s.fields s.values h (event t s.class kind.Runs) tt g.values
values_after s h t kind.Completes g a holds = still_held s.fields s.values h (event t s.class kind.Completes) tt g.values
values_after s h t (kind.Fails e) g a holds = still_held s.fields s.values h (event t s.class (kind.Fails e)) tt g.values
values_after s h t (kind.Gets place value) g a holds = still_held s.fields s.values h (event t s.class (kind.Gets place value)) tt g.values
values_after s h t (kind.Prints text) g a holds = still_held s.fields s.values h (event t s.class (kind.Prints text)) tt g.values

waiting_after : (s : State) (h : List Event) (t u : ℕ) (k : Kind) → IsStateOf s h → t < THREADS → u < THREADS → slice_index_or (slice_set s.waiting t (is_wait k)) u false ≡ waits u (h ++ event t s.class k ∷ [])
waiting_after s h t u k g within below = at (eqb_tells t u)
  where
    at : (((t == u) ≡ true) × (t ≡ u)) ⊎ (((t == u) ≡ false) × (t ≢ u)) → slice_index_or (slice_set s.waiting t (is_wait k)) u false ≡ waits u (h ++ event t s.class k ∷ [])
    at (inl x) = ap (λ n. slice_index_or (slice_set s.waiting t (is_wait k)) n false) (sym x.1) ∙ get_or-set_same s.waiting t (is_wait k) false (rw g.threads within) ∙ sym (waits_more u h (event t s.class k) ∙ rw x.0 refl)
    at (inr x) = get_or-set_other s.waiting t u (is_wait k) false (λ e. x.1 (sym e)) ∙ g.waiting u below ∙ sym (waits_more u h (event t s.class k) ∙ rw x.0 refl)

-- the state after one event more
pub state_after : (s : State) (h : List Event) (t : ℕ) (k : Kind) → t < THREADS → Allows s.label t k → IsStateOf s h → IsInRange k → Holds s.fields h k → IsStateOf (stepped s t k) (h ++ event t s.class k ∷ [])
state_after s h t k within a g range holds =
    let ok : Allows (label_of h) t k = rw (← g.label) a in
    record {
      label = ap (λ l. next_label l t k) g.label ∙ sym (label_after h (event t s.class k) ok);
      failure = ap (λ f. next_failure f k) g.failure ∙ sym (failure_after h (event t s.class k) ok);
      values = values_after s h t k g a holds;
      waiting = λ u below. waiting_after s h t u k g within below;
      threads = length-set s.waiting t (is_wait k) ∙ g.threads;
      lawful = lawful_more s.fields h (event t s.class k) g.lawful ok holds;
      numbers = all_more s.class h (event t s.class k) g.numbers (record { class = refl; thread = within; kind = range });
    }

found_few : (c : ClassId) (h : List Event) (e : Event) → AllByRecursion (λ x. IsEventOf c x) h → find is_beginning h ≡ Some e → e.thread < THREADS
found_few c [] e a q = absurd cc
found_few c (x ∷ h) e a q = at (is_beginning x) refl (λ k. found_few c h e a.1 k)
  where
    at : (b : Bool) → is_beginning x ≡ b → (find is_beginning h ≡ Some e → e.thread < THREADS) → e.thread < THREADS
    at true y further = let found : Some x ≡ Some e = rw y at q in let same : x ≡ e = cc in subst (λ (z : Event). z.thread < THREADS) same a.0.thread
    at false y further = further (rw y at q)

-- the thread by which a class is in progress is one of those that there may be
pub owner_few : (c : ClassId) (h : List Event) (t : ℕ) → AllByRecursion (λ x. IsEventOf c x) h → label_of h ≡ InProgress t → t < THREADS
owner_few c h t a q = at (find is_failure h) (find is_completion h) (find is_beginning h) refl q
  where
    at : (f d b : Option Event) → find is_beginning h ≡ b → label_by f d b ≡ InProgress t → t < THREADS
    at (Some x) d b y z = absurd cc
    at None (Some x) b y z = absurd cc
    at None None (Some x) y z = let same : x.thread ≡ t = cc in rw (← same) (found_few c h x a y)
    at None None None y z = absurd cc

fewer_filtered : {X : Type 0} (q : X → Bool) (xs : List X) → length (filter q xs) ≤ length xs
fewer_filtered q [] = omega arith
fewer_filtered q (x ∷ xs) = at (q x) refl (fewer_filtered q xs)
  where
    at : (b : Bool) → q x ≡ b → length (filter q xs) ≤ length xs → length (filter q (x ∷ xs)) ≤ length (x ∷ xs)
    at true e h = rw e (omega (arith, h))
    at false e h = rw e (omega (arith, h))

few_static : (p : LinkedProgram) → IsLinked p → (c : ClassId) → length (static_fields p c) ≤ 1024
few_static p linked c = at (class_at p c) refl
  where
    at : (o : Option Class) → class_at p c ≡ o → length (static_fields_in (class_at p c)) ≤ 1024
    at None e = rw e (omega arith)
    at (Some class) e = rw e (let few : length class.fields ≤ 1024 = few_own p linked c class e in let fewer : length (filter is_static_field class.fields) ≤ length class.fields = fewer_filtered is_static_field class.fields in omega (arith, few, fewer))

-- a class has few static fields
pub few_statics : (p : LinkedProgram) → IsLinked p → (c : ClassId) → length (statics_of p c) ≤ FIELD_PLACES
few_statics p linked c = let few = few_static p linked c in let same : length (statics_of p c) ≡ length (static_fields p c) = length-map (static_fields p c) (static_field p) in omega (arith, few, same)

-- the state of a class that is prepared
pub prepared_state : (s : State) → s.label ≡ Prepared → s.failure ≡ None → s.values ≡ map default_of s.fields → s.waiting ≡ replicate 16 false → IsStateOf s []
prepared_state s label failure values waiting = record {
  label = label;
  failure = failure;
  values = λ place. ap (λ vs. slice_get vs place) values ∙ slice_get-map default_of s.fields place;
  threads = ap length waiting;
  waiting = λ t below. ap (λ ws. slice_index_or ws t false) waiting ∙ get_or-replicate 16 t false false below;
  lawful = record { labels = tt; values = tt };
  numbers = tt;
}
