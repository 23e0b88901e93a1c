-- The report of a run that is over.
use Rattle.std.proofs.Common.{◌≡◌, ◌≢◌, ◌⊎◌, inl, inr, ⊎_elim, ℕ, zero, suc, ◌<◌, ◌≤◌, List, [], ◌∷◌, ◌++◌, Option, Some, None, Bool, true, false, length, map, refl, sym, ap, subst, ◌∙◌, append-nil, eq-eqb, arith}
use Rattle.std.specs.Prelude.{MatchOption, slice_get, slice_index_or}
use Rattle.std.specs.List.{AllByRecursion}
use Rattle.std.proofs.lemmas.List.{length-map}
use Rattle.std.proofs.lemmas.Option.{slice_get_cases}
use Rattle.hierarchy.specs.declared.class.ClassId.{ClassId}
use Rattle.hierarchy.specs.LinkedProgram.{LinkedProgram}
use Rattle.statics.specs.Statics.{statics_of}
use Rattle.init_core.specs.declared.event.Event.{Event}
use Rattle.init_core.specs.declared.event.Label.TheVariants.{Prepared, InProgress}
use Rattle.init_core.specs.declared.frames.Outcome.{Outcome}
use Rattle.init_core.specs.declared.frames.Outcome.TheVariants.{Normal, Abrupt, Ended}
use Rattle.init_core.specs.ClassState.{State}
use Rattle.init_core.specs.Interleaving.{IsLegal, labels_of, label_at, of_thread, of_class, is_class}
use Rattle.init_core.specs.Lawful.{IsLawful}
use Rattle.init_core.specs.ProcedureWord.{ThreadWord, ThreadWordOf, IsOfFiles}
use Rattle.init_core.specs.ProgramEvents.{IsProgramEvent, at_class, prints_text}
use Rattle.init_core.proofs.Forgetting.{forget_thread}
use Rattle.init_core.proofs.Balanced.{total, begun, ended, thread_even}
use Rattle.init_core.proofs.UnderWay.{mine, AreCounted, counted_by_part, lawful_counted}
use Rattle.init_core.proofs.InterleavingParts.{class_is}
use Rattle.bodies.specs.declared.report.Limit.TheVariants.{Memory}
use Rattle.bodies.specs.declared.report.Limits.{Limits}
use Rattle.bodies.specs.declared.report.Report.{Report}
use Rattle.bodies.specs.declared.report.ThreadOutcome.{ThreadOutcome}
use Rattle.bodies.specs.declared.report.ThreadOutcome.TheVariants as outcome
use Rattle.bodies.specs.Output.{output_of}
use Rattle.bodies.specs.Sharing.{Sharing, Used, used_at_start, used_bodies}
use Rattle.bodies.specs.Making.{Making, maker_of}
use Rattle.bodies.specs.Runs.{IsOutcome}
use Rattle.replayer.specs.declared.log.EventLog.{EventLog}
use Rattle.replayer.specs.declared.run.Run.{Run}
use Rattle.replayer.specs.declared.thread.Thread.{Thread}
use Rattle.replayer.specs.AllGoing.{AllThreads, AreGoing, AreGone, AreToCome, HasDone, IsThere, Leads, mains_of, outcome_in, outcomes_of, starts_of}
use Rattle.replayer.specs.Going.{HasLeft, IsWhy, Resting, outcome_by}
use Rattle.replayer.specs.Logged.{IsLog}
use Rattle.replayer.specs.OrderedRun.{AreTurnsOf, Follows, IsOrderedRunOf, HasUsed, IsTurnsOf, MayGiveUp, WaitsAfter, ended as all_ended}
use Rattle.replayer.specs.Turning.{AreInTurn}
use Rattle.replayer.proofs.Followed.{done_ended, slice_get_map}
use Rattle.replayer.proofs.Logged.{all_low, low_owner, none_high}

below_or : (n m : ℕ) → (n < m) ⊎ (m ≤ n)
below_or n zero = inr (omega arith)
below_or zero (suc m) = inl (omega arith)
below_or (suc n) (suc m) = ⊎_elim (λ l. inl (omega (arith, l))) (λ l. inr (omega (arith, l))) (below_or n m)

beyond : {A : Type 0} (xs : List A) (t : ℕ) → length xs ≤ t → slice_get xs t ≡ None
beyond xs t high = ⊎_elim (λ x. absurd (let low = x.1 in omega (arith, low, high))) (λ x. x.1) (slice_get_cases xs t).1

within : {A : Type 0} (xs : List A) (t : ℕ) (x : A) → slice_get xs t ≡ Some x → t < length xs
within xs t x is = ⊎_elim (λ y. y.1) (λ y. absurd (let z : None ≡ Some x = sym y.1 ∙ is in cc)) (slice_get_cases xs t).1

some_of : {A : Type 0} (xs : List A) (t : ℕ) → t < length xs → A
some_of [] t low = absurd (omega (arith, low))
some_of (x ∷ xs) t low = x

no_state : ClassId → State
no_state c = record { class = c; label = Prepared; failure = None; fields = []; values = []; waiting = [] }

module _ (p : LinkedProgram) where
  file_of : (n : ℕ) (c : ClassId) (e : Event) → IsProgramEvent p n e → e.class ≡ Some c → IsOfFiles p c
  file_of n c e (at_class {c = d} k low inside done) q = let same : d ≡ c = cc in subst (IsOfFiles p) same inside
  file_of n c e (prints_text text low is) q = absurd (let z : None ≡ Some c = q in cc)

  -- no event is one of a class that isn't of the files
  none_outside : (n : ℕ) (c : ClassId) (events : List Event) → length p.classes ≤ c.number → AllByRecursion (λ e. IsProgramEvent p n e) events → of_class c events ≡ []
  none_outside n c [] out a = refl
  none_outside n c (e ∷ events) out a = at (is_class c e.class) refl (none_outside n c events out a.1) where
    at : (b : Bool) → is_class c e.class ≡ b → of_class c events ≡ [] → of_class c (e ∷ events) ≡ []
    at true q h = absurd (let w = file_of n c e a.0 (class_is c e.class q) in omega (arith, w, out))
    at false q h = rw q h

  lawful_at : (l : EventLog) (c : ClassId) → IsLog p l → IsLawful (statics_of p c) (of_class c l.events.items)
  lawful_at l c log = by (below_or c.number (length p.classes)) where
    by : (IsOfFiles p c) ⊎ (length p.classes ≤ c.number) → IsLawful (statics_of p c) (of_class c l.events.items)
    by (inl w) = let s = log.states c.number (no_state c) w in subst (λ fs. IsLawful fs (of_class c l.events.items)) s.fields s.state.lawful
    by (inr out) = subst (λ (es : List Event). IsLawful (statics_of p c) es) (sym (none_outside l.threads.value c l.events.items out log.events)) (record { labels = tt; values = tt })

mine_one : (t : ℕ) → mine t (InProgress t) ≡ 1
mine_one t = rw (eq-eqb t t refl) refl

module _ {S H : Type 0} (p : LinkedProgram) (M : Making (Used S H)) where
  outcome_is : (limits : Limits) (threads : ℕ) → MayGiveUp M threads limits → (end : Used S H) (r : Outcome) (gave_up : Bool) → ((e : ClassId) → r ≡ Ended e → IsWhy p M end threads gave_up e) → IsOutcome p M limits end r (outcome_by gave_up r)
  outcome_is limits threads may end Normal gave_up reason = refl
  outcome_is limits threads may end (Abrupt e) gave_up reason = refl
  outcome_is limits threads may end (Ended e) gave_up reason = reason e refl limits may

  not_memory : (gave_up : Bool) (r : Outcome) → outcome_by gave_up r ≢ outcome.Ended Memory
  not_memory gave_up Normal q = cc
  not_memory gave_up (Abrupt e) q = cc
  not_memory true (Ended e) q = cc
  not_memory false (Ended e) q = cc

  -- where a thread of the run has ended
  record HasEndedAt (r : Run (Used S H) H) (t : ℕ) (w : Thread (Used S H)) : Type 0 where
    result : Outcome
    low : t < length r.threads.items
    is : slice_index_or r.threads.items t w ≡ w
    number : w.number ≡ t
    done : w.done ≡ Some result
    over : HasLeft p M r.log result w

  same_item : (r : Run (Used S H) H) (t : ℕ) (w other : Thread (Used S H)) → t < length r.threads.items → slice_index_or r.threads.items t other ≡ slice_index_or r.threads.items t w
  same_item r t w other low = at r.threads.items t low where
    at : (ws : List (Thread (Used S H))) (t : ℕ) → t < length ws → slice_index_or ws t other ≡ slice_index_or ws t w
    at [] t low = absurd (omega (arith, low))
    at (v ∷ ws) zero low = refl
    at (v ∷ ws) (suc t) low = at ws t (omega (arith, low))

  over_of : (r : Run (Used S H) H) (w : Thread (Used S H)) (x : Outcome) → w.done ≡ Some x → IsThere p M r.log w → HasLeft p M r.log x w
  over_of r w x done there = subst (λ (o : Option Outcome). MatchOption o (Resting p M r.log w) (λ x. HasLeft p M r.log x w)) done there

  thread_at : (r : Run (Used S H) H) → AreGoing p M r → AllThreads (λ t w. HasDone w) r → (t : ℕ) → t < length r.threads.items → (w : Thread (Used S H)) × HasEndedAt r t w
  thread_at r going all t low =
      let any = some_of r.threads.items t low in
      let w = slice_index_or r.threads.items t any in
      let d = all t any low in
      (w, record { result = d.0; low = low; is = same_item r t any w low; number = going.numbers t any low; done = d.1; over = over_of r w d.0 d.1 (going.threads t any low) })

  word_at : (r : Run (Used S H) H) (t : ℕ) (w : Thread (Used S H)) (h : HasEndedAt r t w) → ThreadWordOf p t (maker_of p M) w.start.value w.main (of_thread t r.log.events.items) h.result h.over.end
  word_at r t w h = subst (λ (n : ℕ). ThreadWordOf p n (maker_of p M) w.start.value w.main (of_thread n r.log.events.items) h.result h.over.end) h.number h.over.word

  main_at : (r : Run (Used S H) H) (t : ℕ) (w : Thread (Used S H)) → HasEndedAt r t w → slice_get (mains_of r) t ≡ Some w.main
  main_at r t w h = slice_get_map (λ v. v.main) r.threads.items t w w h.low h.is

  start_at : (r : Run (Used S H) H) (t : ℕ) (w : Thread (Used S H)) → HasEndedAt r t w → slice_get (starts_of r) t ≡ Some w.start.value
  start_at r t w h = slice_get_map (λ v. v.start.value) r.threads.items t w w h.low h.is

  outcome_at : (r : Run (Used S H) H) (t : ℕ) (w : Thread (Used S H)) (h : HasEndedAt r t w) → slice_get (outcomes_of r) t ≡ Some (outcome_by w.gave_up h.result)
  outcome_at r t w h = slice_get_map (λ v. outcome_in v.done (outcome_by v.gave_up)) r.threads.items t w w h.low h.is ∙ ap (λ (o : Option Outcome). Some (outcome_in o (outcome_by w.gave_up))) h.done

  pub many_mains : (r : Run (Used S H) H) → length (mains_of r) ≡ length r.threads.items
  many_mains r = length-map r.threads.items (λ w. w.main)

  module _ (r : Run (Used S H) H) (going : AreGoing p M r) (all : AllThreads (λ t w. HasDone w) r) where
    events_low : AllByRecursion (λ e. IsProgramEvent p (length (mains_of r)) e) r.log.events.items
    events_low = subst (λ (n : ℕ). AllByRecursion (λ e. IsProgramEvent p n e) r.log.events.items) (going.count ∙ sym (many_mains r)) going.log.events

    of_threads : (t : ℕ) → MatchOption (slice_get (mains_of r) t) (of_thread t r.log.events.items ≡ []) (λ m. ThreadWord p t m (of_thread t r.log.events.items))
    of_threads t = ⊎_elim
        (λ low. let w = thread_at r going all t low in subst (λ (o : Option ClassId). MatchOption o (of_thread t r.log.events.items ≡ []) (λ m. ThreadWord p t m (of_thread t r.log.events.items))) (sym (main_at r t w.0 w.1)) (forget_thread p t (maker_of p M) (word_at r t w.0 w.1)))
        (λ high. let many = many_mains r in subst (λ (o : Option ClassId). MatchOption o (of_thread t r.log.events.items ≡ []) (λ m. ThreadWord p t m (of_thread t r.log.events.items))) (sym (beyond (mains_of r) t (omega (arith, many, high)))) (none_high (length r.threads.items) t r.log.events.items high (subst (λ (n : ℕ). AllByRecursion (λ e. e.thread < n) r.log.events.items) going.count (all_low p r.log.threads.value r.log.events.items going.log.events))))
        (below_or t (length r.threads.items))

    legal : IsLegal p (mains_of r) r.log.events.items
    legal = record { threads = of_threads; classes = λ c. lawful_at p r.log c going.log }

    -- no class is left in progress
    none_left : (c : ClassId) (t : ℕ) → label_at r.log.events.items c ≢ InProgress t
    none_left c t q =
        let events = r.log.events.items in
        let low : t < length r.threads.items = subst (λ (n : ℕ). t < n) going.count (low_owner r.log.threads.value events c t (all_low p r.log.threads.value events going.log.events) q) in
        let w = thread_at r going all t low in
        let counted : AreCounted t c events = lawful_counted p t c events (λ d. (lawful_at p r.log d going.log).labels) in
        let even : total (begun t c) (of_thread t events) ≡ total (ended t c) (of_thread t events) = thread_even t c p t (word_at r t w.0 w.1) in
        let part = counted_by_part p t c events in
        let begun_same : total (begun t c) (of_thread t events) ≡ total (begun t c) events = part.0 in
        let ended_same : total (ended t c) (of_thread t events) ≡ total (ended t c) events = part.1 in
        let one : mine t (label_at events c) ≡ 1 = ap (mine t) q ∙ mine_one t in
        omega (arith, counted, even, begun_same, ended_same, one)

    runs : AreInTurn r → (limits : Limits) → MayGiveUp M (length (mains_of r)) limits → AreTurnsOf p M r.shared.first.value r.shared.turns.items (starts_of r) (mains_of r) limits r.log.events.items (outcomes_of r)
    runs in_turn limits may t m start is_main is_start =
        let many = many_mains r in
        let low = within (mains_of r) t m is_main in
        let w = thread_at r going all t (omega (arith, many, low)) in
        let h = w.1 in
        let o = outcome_by w.0.gave_up h.result in
        let events = of_thread t r.log.events.items in
        let main : w.0.main ≡ m = (let same : Some w.0.main ≡ Some m = sym (main_at r t w.0 h) ∙ is_main in cc) in
        let begin : w.0.start.value ≡ start = (let same : Some w.0.start.value ≡ Some start = sym (start_at r t w.0 h) ∙ is_start in cc) in (
          o,
          outcome_at r t w.0 h,
          subst (λ (c : ClassId). IsTurnsOf p M r.shared.first.value r.shared.turns.items start limits t c events o) main
              (subst (λ (s : Used S H). IsTurnsOf p M r.shared.first.value r.shared.turns.items s limits t w.0.main events o) begin
              (record {
                run = record { result = h.result; end = h.over.end; word = word_at r t w.0 h; outcome = outcome_is limits (length (mains_of r)) may h.over.end h.result w.0.gave_up (λ e q. subst (λ (n : ℕ). IsWhy p M h.over.end n w.0.gave_up e) (going.count ∙ sym many) (h.over.reason e q)) };
                last = w.0.bodies;
                ends = h.over.ends;
                uses = ap (λ v. v.bodies.uses) (sym h.is) ∙ in_turn.uses t w.0 h.low;
              })),
        )

    no_memory : (t : ℕ) → slice_get (outcomes_of r) t ≢ Some (outcome.Ended Memory)
    no_memory t q =
        let few : length (outcomes_of r) ≡ length r.threads.items = length-map r.threads.items (λ w. outcome_in w.done (outcome_by w.gave_up)) in
        let low = within (outcomes_of r) t (outcome.Ended Memory) q in
        let w = thread_at r going all t (omega (arith, few, low)) in
        not_memory w.0.gave_up w.1.result (let same : Some (outcome_by w.0.gave_up w.1.result) ≡ Some (outcome.Ended Memory) = sym (outcome_at r t w.0 w.1) ∙ q in cc)

    none_to_come : AreToCome (outcomes_of r) r [] []
    none_to_come t other low x done = (refl, tt, slice_get_map (λ v. outcome_in v.done (outcome_by v.gave_up)) r.threads.items t other (slice_index_or r.threads.items t other) low refl ∙ ap (λ (o : Option Outcome). Some (outcome_in o (outcome_by (slice_index_or r.threads.items t other).gave_up))) done)

    follows : (U : List (ℕ × H) → ℕ → Used S H → Type 0) (W : List (ℕ × H) → ℕ → Bool → Used S H → Type 0) (order later : List ℕ) (begin : Run (Used S H) H) → AreGone [] begin → begin.log.events.items ≡ [] → begin.shared.turns.items ≡ [] → Leads p M U W order [] begin [] later r →
        Follows p M U W (starts_of r) (mains_of r) (outcomes_of r) order [] [] [] r.log.events.items r.shared.turns.items
    follows U W order later begin fresh none no_turns leads =
        let gone = leads.have_gone fresh in
        let f : Follows p M U W (starts_of r) (mains_of r) (outcomes_of r) [] later r.log.events.items r.shared.turns.items [] [] = all_ended (λ t low.
        let many = many_mains r in
        let inside : t < length r.threads.items = omega (arith, many, low) in
        let any = some_of r.threads.items t inside in
        let d = all t any inside in
        done_ended p M U W later t r any d.0 (outcomes_of r) [] [] inside going gone d.1 none_to_come) in
        let events : leads.made ++ [] ≡ r.log.events.items = append-nil leads.made ∙ sym (leads.events ∙ ap (λ (es : List Event). es ++ leads.made) none) in
        let turns : leads.turned ++ [] ≡ r.shared.turns.items = append-nil leads.turned ∙ sym (leads.turns ∙ ap (λ (xs : List (ℕ × H)). xs ++ leads.turned) no_turns) in
        subst (λ (es : List Event). Follows p M U W (starts_of r) (mains_of r) (outcomes_of r) order [] es [] r.log.events.items r.shared.turns.items) none
        (subst (λ (xs : List (ℕ × H)). Follows p M U W (starts_of r) (mains_of r) (outcomes_of r) order [] begin.log.events.items xs r.log.events.items r.shared.turns.items) no_turns
        (subst (λ (es : List Event). Follows p M U W (starts_of r) (mains_of r) (outcomes_of r) order [] begin.log.events.items begin.shared.turns.items es r.shared.turns.items) events
        (subst (λ (xs : List (ℕ × H)). Follows p M U W (starts_of r) (mains_of r) (outcomes_of r) order [] begin.log.events.items begin.shared.turns.items (leads.made ++ []) xs) turns
        (leads.follows fresh (outcomes_of r) [] [] none_to_come f))))

-- what the threads of a run that is over have done is an ordered run
pub ordered : {S H : Type 0} (p : LinkedProgram) (M : Sharing S H) (first : H) (r begin : Run (Used S H) H) (starts : List S) (mains : List ClassId) (order later : List ℕ) (report : Report) → AreGoing p (used_bodies M) r → AllThreads (λ t w. HasDone w) r → AreInTurn r → r.shared.first.value ≡ first →
    AreGone [] begin → begin.log.events.items ≡ [] → begin.shared.turns.items ≡ [] → mains_of begin ≡ mains → starts_of begin ≡ map used_at_start starts → Leads p (used_bodies M) (HasUsed first) (WaitsAfter M first) order [] begin [] later r →
    report.outcomes ≡ outcomes_of r → report.events ≡ r.log.events.items → report.labels ≡ labels_of p r.log.events.items → report.output ≡ output_of r.log.events.items → IsOrderedRunOf p M first starts mains order report
ordered {S = S} {H = H} p M first r begin starts mains order later report going all in_turn is_first fresh none no_turns is_mains is_starts leads outcomes events labels output = record {
  run = λ limits may. record {
    legal = subst (λ (es : List Event). IsLegal p mains es) (sym events) (subst (λ (ms : List ClassId). IsLegal p ms r.log.events.items) here (legal p B r going all));
    events = subst (λ (es : List Event). AllByRecursion (λ e. IsProgramEvent p (length mains) e) es) (sym events) (subst (λ (ms : List ClassId). AllByRecursion (λ e. IsProgramEvent p (length ms) e) r.log.events.items) here (events_low p B r going all));
    labels = labels ∙ ap (labels_of p) (sym events);
    count = ap length outcomes ∙ (length-map r.threads.items (λ w. outcome_in w.done (outcome_by w.gave_up)) ∙ (sym (many_mains p B r) ∙ ap length here));
    outcomes = λ t m start is_main is_start. let x = all_threads limits may t m start is_main is_start in (x.0, x.1, x.2.run);
    finished = λ c t q. none_left p B r going all c t (ap (λ (es : List Event). label_at es c) (sym events) ∙ q);
    output = output ∙ ap output_of (sym events);
  };
  memory = λ t q. no_memory p B r going all t (ap (λ (os : List ThreadOutcome). slice_get os t) (sym outcomes) ∙ q);
  turns = r.shared.turns.items;
  threads = all_threads;
  follows = subst (λ (ss : List (Used S H)). Follows p B (HasUsed first) waits_so ss mains report.outcomes order [] [] [] report.events r.shared.turns.items) begun
      (subst (λ (ms : List ClassId). Follows p B (HasUsed first) waits_so (starts_of r) ms report.outcomes order [] [] [] report.events r.shared.turns.items) here
      (subst (λ (os : List ThreadOutcome). Follows p B (HasUsed first) waits_so (starts_of r) (mains_of r) os order [] [] [] report.events r.shared.turns.items) (sym outcomes)
      (subst (λ (es : List Event). Follows p B (HasUsed first) waits_so (starts_of r) (mains_of r) (outcomes_of r) order [] [] [] es r.shared.turns.items) (sym events) (follows p B r going all (HasUsed first) waits_so order later begin fresh none no_turns leads))));
} where
  B : Making (Used S H)
  B = used_bodies M

  waits_so : List (ℕ × H) → ℕ → Bool → Used S H → Type 0
  waits_so = WaitsAfter M first

  here : mains_of r ≡ mains
  here = leads.mains ∙ is_mains

  begun : starts_of r ≡ map used_at_start starts
  begun = leads.starts ∙ is_starts

  all_threads : (limits : Limits) → MayGiveUp B (length mains) limits → AreTurnsOf p B first r.shared.turns.items (map used_at_start starts) mains limits report.events report.outcomes
  all_threads limits may =
      subst (λ (h : H). AreTurnsOf p B h r.shared.turns.items (map used_at_start starts) mains limits report.events report.outcomes) is_first
      (subst (λ (ss : List (Used S H)). AreTurnsOf p B r.shared.first.value r.shared.turns.items ss mains limits report.events report.outcomes) begun
      (subst (λ (ms : List ClassId). AreTurnsOf p B r.shared.first.value r.shared.turns.items (starts_of r) ms limits report.events report.outcomes) here
      (subst (λ (os : List ThreadOutcome). AreTurnsOf p B r.shared.first.value r.shared.turns.items (starts_of r) (mains_of r) limits report.events os) (sym outcomes)
      (subst (λ (es : List Event). AreTurnsOf p B r.shared.first.value r.shared.turns.items (starts_of r) (mains_of r) limits es (outcomes_of r)) (sym events)
      (runs p B r going all in_turn limits (subst (λ (ms : List ClassId). MayGiveUp B (length ms) limits) (sym here) may))))))
