-- What a step of the procedures leaves of where a thread stands.
use Rattle.std.proofs.Common.{◌≡◌, ◌≢◌, ℕ, ◌<◌, ⊎_elim, inl, List, [], ◌∷◌, ◌++◌, Option, Some, None, Bool, true, false, refl, sym, subst, ap, ◌∙◌, append-nil, arith}
use Rattle.std.proofs.lemmas.Bool.{eqb-true}
use Rattle.std.specs.List.{AllByRecursion}
use Rattle.hierarchy.specs.declared.class.ClassId.{ClassId}
use Rattle.hierarchy.specs.declared.built_in.BuiltIn.TheVariants.{InternalError}
use Rattle.hierarchy.specs.LinkedProgram.{LinkedProgram, id, built_in}
use Rattle.statics.specs.declared.static_field.StaticField.{StaticField}
use Rattle.init_core.specs.declared.event.Decision.{Decision}
use Rattle.init_core.specs.declared.event.Decision.TheVariants as decision
use Rattle.init_core.specs.declared.event.Event.{Event}
use Rattle.init_core.specs.declared.event.Kind.{Kind}
use Rattle.init_core.specs.declared.event.Kind.TheVariants as kind
use Rattle.init_core.specs.declared.event.Label.{Label}
use Rattle.init_core.specs.declared.event.Label.TheVariants.{Prepared, InProgress, Initialized, Erroneous}
use Rattle.init_core.specs.declared.frames.Completed.{Completed}
use Rattle.init_core.specs.declared.frames.Ending.{Ending}
use Rattle.init_core.specs.declared.frames.Ending.TheVariants as ending
use Rattle.init_core.specs.declared.frames.Frame.{Frame}
use Rattle.init_core.specs.declared.frames.Outcome.{Outcome}
use Rattle.init_core.specs.declared.frames.Outcome.TheVariants.{Normal, Abrupt, Ended}
use Rattle.init_core.specs.declared.frames.Phase.{Phase}
use Rattle.init_core.specs.declared.frames.Phase.TheVariants.{Looking, Needing, Running, EndingBy}
use Rattle.init_core.specs.declared.procedure.Answer.{Answer}
use Rattle.init_core.specs.declared.procedure.Answer.TheVariants as answer
use Rattle.init_core.specs.declared.procedure.Next.TheVariants as next
use Rattle.init_core.specs.Advance.{Advances, Fits, LeavesAt, MayRequest, after_word, is_running, is_waiting, next_of, started, thread_ended}
use Rattle.init_core.specs.ClassState.{State, is_waiter}
use Rattle.init_core.specs.Decisions.{event, entered, is_wait, kind_of, Decides, waits}
use Rattle.init_core.specs.Interleaving.{of_class, of_thread, label_at}
use Rattle.init_core.specs.Lawful.{Allows, Holds, IsInProgressByOther}
use Rattle.init_core.specs.Leads.{frame, standing, kind_of_ending, outcome_of, LeadsOf}
use Rattle.init_core.specs.ProcedureWord.{IsOfFiles, completed, ended_by, given_up}
use Rattle.init_core.specs.ProgramEvents.{IsDoneAt}
use Rattle.init_core.specs.Standing.{Standing}
use Rattle.init_core.specs.Stands.{SeesMore, begun_classes, ending_error}
use Rattle.init_core.proofs.Answered.{may_look, has_looked}
use Rattle.init_core.proofs.Doing.{enters_main}
use Rattle.init_core.proofs.Errors.{ending_is_done}
use Rattle.init_core.proofs.Knowing.{AreOuterBelow, leads_outer, runs_body, takes_answer, word_error}
use Rattle.init_core.proofs.Leading.{Makes}
use Rattle.init_core.proofs.Mains.{main_looks, main_threw}
use Rattle.init_core.proofs.Seeing.{mine_still, calm}
use Rattle.bodies.specs.Making.{Making, maker_of}
use Rattle.bodies.specs.ThreadStands.{OutsideOf, NoneOpenOf, ThreadStands}
use Rattle.bodies.proofs.Asking.{IsAt, looks_at, runs_at, ends_at, in_files, ends, gives_up, look_last, run_last, is_idle, are_asking, running_requests}
use Rattle.bodies.proofs.Counting.{has_last, error_after}
use Rattle.bodies.proofs.ThreadSteps.{goes_of, end_leads_at}
use Rattle.replayer.specs.declared.log.EventLog.{EventLog}
use Rattle.replayer.specs.declared.thread.Thread.{Thread}
use Rattle.replayer.specs.Going.{Going, HasStepped, IsWhy, IsInBody, IsOver, IsPaused, at_class}
use Rattle.replayer.specs.Logged.{IsLog, HasMade, IsStateAfter, histories}
use Rattle.replayer.specs.OrderedRun.{HasJustMade, WaitsFor}
use Rattle.replayer.proofs.JustMade.{begun_just, looked_just, word_just}
use Rattle.replayer.proofs.Logged.{sees_one, sees_none, own_more, all_low, low_owner}

-- the error by which the machine ends the thread
abbrev pub limit_error : LinkedProgram → ClassId
limit_error p = built_in p InternalError

-- a look that isn't in vain makes one event
once : (t : ℕ) (c : ClassId) (d : Decision) → d ≢ decision.Waits false → entered t c d ≡ event t c (kind_of d) ∷ []
once t c (decision.Waits true) n = refl
once t c (decision.Waits false) n = absurd (n refl)
once t c decision.Recurs n = refl
once t c decision.FindsInitialized n = refl
once t c decision.FindsErroneous n = refl
once t c decision.Begins n = refl

end_allowed : (t : ℕ) (k : Ending) {l : Label} → l ≡ InProgress t → Allows l t (kind_of_ending k)
end_allowed t ending.Completes e = e
end_allowed t (ending.SuperFails x) e = e
end_allowed t (ending.Fails x) e = e

ending_is_no_wait : (k : Ending) → is_wait (kind_of_ending k) ≡ false
ending_is_no_wait ending.Completes = refl
ending_is_no_wait (ending.SuperFails e) = refl
ending_is_no_wait (ending.Fails e) = refl

-- a look and the end of a class use no field
pub look_holds : (fields : List StaticField) (before : List Event) (d : Decision) → Holds fields before (kind_of d)
look_holds fields before (decision.Waits first) = tt
look_holds fields before decision.Recurs = tt
look_holds fields before decision.FindsInitialized = tt
look_holds fields before decision.FindsErroneous = tt
look_holds fields before decision.Begins = tt

pub end_holds : (fields : List StaticField) (before : List Event) (k : Ending) → Holds fields before (kind_of_ending k)
end_holds fields before ending.Completes = tt
end_holds fields before (ending.SuperFails e) = tt
end_holds fields before (ending.Fails e) = tt

pub not_both : {A : Type 0} {b : Bool} → b ≡ false → b ≡ true → A
not_both f t = absurd (let z : false ≡ true = sym f ∙ t in cc)

-- where a class is waited for, a look at it is asked for
waiting_in : (c b : ClassId) (phase : Phase) (fs : List Frame) → is_waiting c (frame b phase ∷ fs) ≡ true → (d : ClassId) × (next_of (frame b phase ∷ fs) ≡ next.Look d) × (d.number ≡ c.number)
waiting_in c b (Looking true) fs q = (b, refl, eqb-true b.number c.number q)
waiting_in c b (Looking false) fs q = cc
waiting_in c b (Needing rest) fs q = cc
waiting_in c b (Running ran) fs q = cc
waiting_in c b (EndingBy k m) fs q = cc

pub waiting_looks : (c : ClassId) (fs : List Frame) → is_waiting c fs ≡ true → (d : ClassId) × (next_of fs ≡ next.Look d) × (d.number ≡ c.number)
waiting_looks c [] q = cc
waiting_looks c (f ∷ fs) q = waiting_in c f.class f.phase fs q

-- while another thread initializes the class a look comes to a wait
only_waits : (t : ℕ) (l : Label) (d : Decision) → IsInProgressByOther t l → Decides l t d → (b : Bool) × (d ≡ decision.Waits b)
only_waits t l (decision.Waits b) o ok = (b, refl)
only_waits t l decision.Recurs o ok = absurd (subst (IsInProgressByOther t) ok o refl)
only_waits t l decision.FindsInitialized o ok = absurd (subst (IsInProgressByOther t) ok o)
only_waits t l decision.FindsErroneous o ok = absurd (subst (IsInProgressByOther t) ok o)
only_waits t l decision.Begins o ok = absurd (subst (IsInProgressByOther t) ok o)

module _ {S : Type 0} (p : LinkedProgram) (M : Making S) where
  -- its events lead here, where these are those of all
  abbrev pub At : Thread S → Bool → Standing → List Event → S → Type 0
  At w b s events z = ThreadStands p w.number M w.start.value w.main b s (of_thread w.number events) (histories events) z

  -- where the machine doesn't end it, it waits where it stands so
  calm_of : (w : Thread S) (b : Bool) (s : Standing) (events : List Event) (z : S) → ending_error s ≡ None → At w b s events z → (c : ClassId) → waits w.number (histories events c) ≡ true → is_waiting c s.frames ≡ true
  calm_of w b s events z none st c q = sym (st.waiting none c) ∙ q

  -- where it stands after a step
  pub stepped : (l : EventLog) (w : Thread S) (m : EventLog) (s : Standing) (z : S) (b gave_up : Bool) (events : List Event) → w.number < l.threads.value → m.threads ≡ l.threads → IsOfFiles p w.main → IsLog p m → m.events.items ≡ events → At w b s events z → (b ≡ false → s.frames ≡ [] → s.last ≢ None) → ((e : ClassId) → ending_error s ≡ Some e → IsWhy p M z l.threads.value gave_up e) →
      (gave_up ≡ false → (c : ClassId) → waits w.number (histories events c) ≡ true → is_waiting c s.frames ≡ true) → (gave_up ≡ true → ending_error s ≢ None) → Going p M m (record w { procedure = s; bodies = z; in_main = b; gave_up = gave_up })
  stepped l w m s z b gave_up events low threads within log is st begun reason calm gone = record {
    number = subst (λ x. w.number < x.value) (sym threads) low;
    main = within;
    log = log;
    stands = subst (λ (es : List Event). At w b s es z) (sym is) st;
    begun = begun;
    reason = λ e q. subst (λ x. IsWhy p M z x.value gave_up e) (sym threads) (reason e q);
    calm = λ n c q. calm n c (subst (λ (es : List Event). waits w.number (histories es c) ≡ true) is q);
    gone = gone;
  }

  -- the machine doesn't end it, neither before nor after
  pub goes_on : (l : EventLog) (w : Thread S) (m : EventLog) (s : Standing) (z : S) (b : Bool) (events : List Event) → ending_error w.procedure ≡ None → ending_error s ≡ None → m.threads ≡ l.threads → IsLog p m → m.events.items ≡ events → At w b s events z → (b ≡ false → s.frames ≡ [] → s.last ≢ None) → Going p M l w →
      Going p M m (record w { procedure = s; bodies = z; in_main = b })
  goes_on l w m s z b events before after threads log is st begun g =
      stepped l w m s z b w.gave_up events g.number threads g.main log is st begun (λ e q. absurd (let x : None ≡ Some e = sym after ∙ q in cc)) (λ n. calm_of w b s events z after st) (λ y. absurd (g.gone y before))

  abbrev pub made_one : (l m : EventLog) (t : ℕ) (c : ClassId) (k : Kind) → Allows (label_at l.events.items c) t k → m.threads ≡ l.threads → m.events.items ≡ l.events.items ++ event t c k ∷ [] → HasMade t l m
  made_one l m t c k ok threads more = record {
    event = event t c k;
    thread = refl;
    events = more;
    sees = subst (λ (es : List Event). SeesMore (histories l.events.items) (λ d. of_class d (event t c k ∷ [])) (histories es)) (sym more) (sees_one t l.events.items c k ok);
    threads = threads;
  }

  -- it doesn't wait where it asks for no look
  pub free_of : (l : EventLog) (w : Thread S) → ((d : ClassId) → next_of w.procedure.frames ≢ next.Look d) → Going p M l w → w.gave_up ≡ false → (c : ClassId) → WaitsFor w.number l.events.items c → ⊥
  free_of l w other g n c f = let x = waiting_looks c w.procedure.frames (g.calm n c f.last) in other x.0 x.1

  pub outer_of : (l : EventLog) (w : Thread S) → Going p M l w → AreOuterBelow w.procedure.frames
  outer_of l w g = leads_outer p w.number (maker_of p M) g.stands.leads

  answered_at : (l : EventLog) (w : Thread S) (s : Standing) (a : Answer) (made : List Event) (now : ClassId → List Event) (z : S) → Advances p w.number w.procedure a made s → Makes p (maker_of p M) w.procedure.last a w.bodies z → SeesMore (histories l.events.items) (λ c. of_class c made) now → Going p M l w →
      ThreadStands p w.number M w.start.value w.main w.in_main s (of_thread w.number l.events.items ++ made) now z
  answered_at l w s a made now z step makes sees g = takes_answer p w.number (maker_of p M) (OutsideOf p w.number M w.start.value w.main w.in_main) (NoneOpenOf p w.number M w.start.value w.main w.in_main) (goes_of M p w.number w.start.value w.main w.in_main) step makes sees g.stands

  answered_one : (l : EventLog) (w : Thread S) (s : Standing) (a : Answer) (c : ClassId) (k : Kind) (z : S) → Advances p w.number w.procedure a (event w.number c k ∷ []) s → Makes p (maker_of p M) w.procedure.last a w.bodies z → Allows (label_at l.events.items c) w.number k → Going p M l w → At w w.in_main s (l.events.items ++ event w.number c k ∷ []) z
  answered_one l w s a c k z step makes ok g =
      subst (λ (es : List Event). ThreadStands p w.number M w.start.value w.main w.in_main s es (histories (l.events.items ++ event w.number c k ∷ [])) z) (sym (own_more w.number l.events.items (event w.number c k) refl))
      (answered_at l w s a (event w.number c k ∷ []) (histories (l.events.items ++ event w.number c k ∷ [])) z step makes (sees_one w.number l.events.items c k ok) g)

  answered_none : (l : EventLog) (w : Thread S) (s : Standing) (a : Answer) (z : S) → Advances p w.number w.procedure a [] s → Makes p (maker_of p M) w.procedure.last a w.bodies z → Going p M l w → At w w.in_main s l.events.items z
  answered_none l w s a z step makes g =
      subst (λ (es : List Event). ThreadStands p w.number M w.start.value w.main w.in_main s es (histories l.events.items) z) (append-nil (of_thread w.number l.events.items))
      (answered_at l w s a [] (histories l.events.items) z step makes (sees_none l.events.items) g)

  -- the procedure is told an answer without an event, after which the machine may end the thread
  pub told : (l : EventLog) (w : Thread S) (s : Standing) (a : Answer) (z : S) (gave_up : Bool) → Advances p w.number w.procedure a [] s → Makes p (maker_of p M) w.procedure.last a w.bodies z → ((e : ClassId) → ending_error s ≡ Some e → IsWhy p M z l.threads.value gave_up e) →
      (gave_up ≡ false → (c : ClassId) → waits w.number (histories l.events.items c) ≡ true → is_waiting c s.frames ≡ true) → (gave_up ≡ true → ending_error s ≢ None) → Going p M l w → Going p M l (record w { procedure = s; bodies = z; gave_up = gave_up })
  told l w s a z gave_up step makes reason calm gone g =
      stepped l w l s z w.in_main gave_up l.events.items g.number refl g.main g.log refl (answered_none l w s a z step makes g) (λ b. has_last p w.number step) reason calm gone

  -- ---- a look

  pub look_files : (l : EventLog) (w : Thread S) (c : ClassId) → next_of w.procedure.frames ≡ next.Look c → Going p M l w → IsOfFiles p c
  look_files l w c q g = let x = looks_at w.procedure c q in in_files p w.procedure c (Looking x.0) x.1 g.stands.files

  -- the machine doesn't end a thread that looks
  pub look_goes_on : (l : EventLog) (w : Thread S) (c : ClassId) → next_of w.procedure.frames ≡ next.Look c → Going p M l w → ending_error w.procedure ≡ None
  look_goes_on l w c q g = let x = looks_at w.procedure c q in ap (λ (fs : List Frame). ending_error (standing fs w.procedure.last)) x.1.frames ∙ ap given_up (look_last x.1 g.stands.leads)

  -- the state of the class says whether the thread waits for it
  pub waiter : (l : EventLog) (w : Thread S) (c : ClassId) (r : State) → next_of w.procedure.frames ≡ next.Look c → IsStateAfter p l.events.items c r → Going p M l w → is_waiter r w.number ≡ is_waiting c w.procedure.frames
  waiter l w c r q st g = st.state.waiting w.number (let few = g.log.few in let low = g.number in omega arith) ∙ g.stands.waiting (look_goes_on l w c q g) c

  pub first_wait : (l : EventLog) (w : Thread S) (c : ClassId) (d : Decision) (r : State) → next_of w.procedure.frames ≡ next.Look c → IsStateAfter p l.events.items c r → (d ≡ decision.Waits true → is_waiter r w.number ≡ false) → Going p M l w → d ≡ decision.Waits true → is_waiting c w.procedure.frames ≡ false
  first_wait l w c d r q st first g is = sym (waiter l w c r q st g) ∙ first is

  pub may_be_told : (l : EventLog) (w : Thread S) (c : ClassId) (d : Decision) (r : State) → next_of w.procedure.frames ≡ next.Look c → IsStateAfter p l.events.items c r → (d ≡ decision.Waits true → is_waiter r w.number ≡ false) → Going p M l w → Fits p w.procedure (answer.Decided d)
  may_be_told l w c d r q st first g = may_look p c w.procedure d q (first_wait l w c d r q st first g)

  decides_at : (l : EventLog) (t : ℕ) (c : ClassId) (d : Decision) (r : State) → IsStateAfter p l.events.items c r → Decides r.label t d → Decides (label_at l.events.items c) t d
  decides_at l t c d r st ok = subst (λ (x : Label). Decides x t d) st.state.label ok

  pub look_allowed : (l : EventLog) (t : ℕ) (c : ClassId) (d : Decision) (r : State) (k : Kind) → k ≡ kind_of d → IsStateAfter p l.events.items c r → Decides r.label t d → Allows (label_at l.events.items c) t k
  look_allowed l t c d r k of_d st ok = subst (λ (j : Kind). Allows (label_at l.events.items c) t j) (sym of_d) (decides_at l t c d r st ok)

  -- a look in vain again
  pub still_waits : {W : Bool → S → Type 0} (l : EventLog) (w : Thread S) (c : ClassId) (d : Decision) (r : State) → d ≡ decision.Waits false → next_of w.procedure.frames ≡ next.Look c → IsStateAfter p l.events.items c r → Decides r.label w.number d → (d ≡ decision.Waits false → is_waiter r w.number ≡ true) → Going p M l w → W false w.bodies → IsPaused p M W l w
  still_waits l w c d r is q st ok again g used = at_class c g q (record {
    last = sym (st.state.waiting w.number (let few = g.log.few in let low = g.number in omega arith)) ∙ again is;
    other = subst (λ (x : Decision). Decides (label_at l.events.items c) w.number x) is (decides_at l w.number c d r st ok);
  }) used

  same_class : (c d : ClassId) → d.number ≡ c.number → d ≡ c
  same_class c d e = ap id e

  -- a look that makes an event isn't one of a thread that waits
  look_free : (l : EventLog) (w : Thread S) (c : ClassId) (d : Decision) (r : State) → d ≢ decision.Waits false → next_of w.procedure.frames ≡ next.Look c → IsStateAfter p l.events.items c r → Decides r.label w.number d → (d ≡ decision.Waits true → is_waiter r w.number ≡ false) → Going p M l w → w.gave_up ≡ false → (e : ClassId) → WaitsFor w.number l.events.items e → ⊥
  look_free l w c d r n q st ok first g none e f =
      let waiting = g.calm none e f.last in
      let x = waiting_looks e w.procedure.frames waiting in
      let same : next.Look x.0 ≡ next.Look c = sym x.1 ∙ q in
      let here : x.0 ≡ c = cc in
      let it : e ≡ c = sym (same_class e x.0 x.2) ∙ here in
      let y = only_waits w.number (label_at l.events.items c) d (subst (λ (v : ClassId). IsInProgressByOther w.number (label_at l.events.items v)) it f.other) (decides_at l w.number c d r st ok) in
      by y.0 y.1 (subst (λ (v : ClassId). is_waiting v w.procedure.frames ≡ true) it waiting) where
        by : (b : Bool) → d ≡ decision.Waits b → is_waiting c w.procedure.frames ≡ true → ⊥
        by false is at = n is
        by true is at = not_both (first_wait l w c d r q st first g is) at

  pub looked : (l : EventLog) (w : Thread S) (m : EventLog) (s : Standing) (c : ClassId) (d : Decision) (k : Kind) (r : State) → k ≡ kind_of d → d ≢ decision.Waits false → next_of w.procedure.frames ≡ next.Look c → IsStateAfter p l.events.items c r → Decides r.label w.number d → (d ≡ decision.Waits true → is_waiter r w.number ≡ false) →
      LeavesAt p w.procedure (answer.Decided d) s → m.threads ≡ l.threads → IsLog p m → m.events.items ≡ l.events.items ++ event w.number c k ∷ [] → Going p M l w → HasStepped p M l w m (record w { procedure = s })
  looked l w m s c d k r of_d n q st okay first told_so threads log is g =
      let ok = decides_at l w.number c d r st okay in
      let step : Advances p w.number w.procedure (answer.Decided d) (event w.number c (kind_of d) ∷ []) s = subst (λ (es : List Event). Advances p w.number w.procedure (answer.Decided d) es s) (once w.number c d n) (has_looked p w.number c w.procedure s d q (first_wait l w c d r q st first g) told_so) in
      let none = look_goes_on l w c q g in
      let more : m.events.items ≡ l.events.items ++ event w.number c (kind_of d) ∷ [] = is ∙ ap (λ (j : Kind). l.events.items ++ event w.number c j ∷ []) of_d in
      record {
        going = goes_on l w m s w.bodies w.in_main (l.events.items ++ event w.number c (kind_of d) ∷ []) none (no_error s (λ e z. ⊎_elim (λ y. let no_way : None ≡ Some e = sym none ∙ y in cc) (λ y. y) (error_after p w.number step (outer_of l w g) e z))) threads log more
            (answered_one l w s (answer.Decided d) c (kind_of d) w.bodies step refl ok g) (λ b. has_last p w.number step) g;
        made = made_one l m w.number c (kind_of d) ok threads more;
        just = looked_just (kind_of d) step n (outer_of l w g);
        free = look_free l w c d r n q st okay first g;
      } where
        none_else : (o : Option ClassId) → ((e : ClassId) → o ≡ Some e → ⊥) → o ≡ None
        none_else None f = refl
        none_else (Some e) f = absurd (f e refl)

        no_error : (v : Standing) → ((e : ClassId) → ending_error v ≡ Some e → ⊥) → ending_error v ≡ None
        no_error v f = none_else (ending_error v) f

  -- the request is given up
  pub gave_up_look : (l : EventLog) (w : Thread S) (s : Standing) (c : ClassId) → next_of w.procedure.frames ≡ next.Look c → WaitsFor w.number l.events.items c → s ≡ thread_ended w.procedure (limit_error p) → Going p M l w → Going p M l (record w { procedure = s; gave_up = true })
  gave_up_look l w s c q vain is g =
      let e = limit_error p in
      let step : Advances p w.number w.procedure (answer.GaveUp e false) [] s = gives_up p w.number w.procedure c e s q (inl refl) is in
      told l w s (answer.GaveUp e false) w.bodies true step refl
      (λ y z. ⊎_elim (λ u. absurd (let no_way : None ≡ Some y = sym (look_goes_on l w c q g) ∙ u in cc)) (λ u. subst (IsWhy p M w.bodies l.threads.value true) u (λ limits may. (refl, λ none. other (label_at l.events.items c) refl vain.other (may none).0))) (error_after p w.number step (outer_of l w g) y z))
      (λ n. cc) (λ y. ends_so) g where
        other : (x : Label) → label_at l.events.items c ≡ x → IsInProgressByOther w.number x → l.threads.value ≡ 1 → ⊥
        other (InProgress u) is_so n one = let a : u < l.threads.value = low_owner l.threads.value l.events.items c u (all_low p l.threads.value l.events.items g.log.events) is_so in let b = g.number in n (omega (arith, a, b, one))
        other Prepared is_so n one = n
        other Initialized is_so n one = n
        other Erroneous is_so n one = n

        ends_so : ending_error s ≢ None
        ends_so none = let x = looks_at w.procedure c q in
            let at : s ≡ after_word x.1.below c (Ended (limit_error p)) = is ∙ ap (λ (fs : List Frame). thread_ended (standing fs w.procedure.last) (limit_error p)) x.1.frames in
            let outer = subst AreOuterBelow x.1.frames (outer_of l w g) in
            let z : None ≡ Some (limit_error p) = sym none ∙ (ap ending_error at ∙ word_error x.1.below c (Ended (limit_error p)) outer) in cc

  -- ---- step 9

  run_at : (w : Thread S) (c : ClassId) → next_of w.procedure.frames ≡ next.Body c → is_running w.procedure.frames ≡ false → IsAt w.procedure c (Running false)
  run_at w c q n = runs_at w.procedure c false q n

  pub run_files : (l : EventLog) (w : Thread S) (c : ClassId) → next_of w.procedure.frames ≡ next.Body c → is_running w.procedure.frames ≡ false → Going p M l w → IsOfFiles p c
  run_files l w c q n g = in_files p w.procedure c (Running false) (run_at w c q n) g.stands.files

  pub run_allowed : (l : EventLog) (w : Thread S) (c : ClassId) → next_of w.procedure.frames ≡ next.Body c → is_running w.procedure.frames ≡ false → Going p M l w → label_at l.events.items c ≡ InProgress w.number
  run_allowed l w c q n g =
      let at = run_at w c q n in
      let mine : AllByRecursion (λ d. label_at l.events.items d ≡ InProgress w.number) (begun_classes (frame c (Running false) ∷ at.below)) = subst (λ (fs : List Frame). AllByRecursion (λ d. label_at l.events.items d ≡ InProgress w.number) (begun_classes fs)) at.frames g.stands.mine in
      mine.0

  -- its event is seen, and leaves what is known
  seen_run : (l : EventLog) (w : Thread S) (c : ClassId) (fs : List Frame) (own : List Event) (now : ClassId → List Event) (z : S) → SeesMore (histories l.events.items) (λ d. of_class d (event w.number c kind.Runs ∷ [])) now → ThreadStands p w.number M w.start.value w.main w.in_main (standing (frame c (Running true) ∷ fs) None) own (histories l.events.items) z →
      ThreadStands p w.number M w.start.value w.main w.in_main (standing (frame c (Running true) ∷ fs) None) own now z
  seen_run l w c fs own now z sees st = record {
    leads = st.leads;
    files = st.files;
    mine = mine_still w.number c kind.Runs sees (c ∷ begun_classes fs) refl st.mine;
    different = st.different;
    waiting = λ e d. calm w.number c kind.Runs sees refl (λ x q. st.waiting refl x) d;
    used = λ d q. cc;
  }

  pub ran : (l : EventLog) (w : Thread S) (m : EventLog) (s : Standing) (z : S) (c : ClassId) → next_of w.procedure.frames ≡ next.Body c → is_running w.procedure.frames ≡ false → s ≡ started w.procedure None → M.starts w.bodies c z → m.threads ≡ l.threads → IsLog p m → m.events.items ≡ l.events.items ++ event w.number c kind.Runs ∷ [] → Going p M l w → HasStepped p M l w m (record w { procedure = s; bodies = z })
  ran l w m s z c q n is starts threads log more g =
      let at = run_at w c q n in
      let none : w.procedure.last ≡ None = run_last at g.stands.leads in
      let from : w.procedure ≡ standing (frame c (Running false) ∷ at.below) None = ap (λ (fs : List Frame). standing fs w.procedure.last) at.frames ∙ ap (λ (x : Option Completed). standing (frame c (Running false) ∷ at.below) x) none in
      let to : s ≡ standing (frame c (Running true) ∷ at.below) None = is ∙ ap (λ (v : Standing). started v None) from in
      let st = runs_body p w.number (maker_of p M) (OutsideOf p w.number M w.start.value w.main w.in_main) (NoneOpenOf p w.number M w.start.value w.main w.in_main) (goes_of M p w.number w.start.value w.main w.in_main) starts
      (subst (λ (v : Standing). At w w.in_main v l.events.items w.bodies) from g.stands) in
      let events = l.events.items ++ event w.number c kind.Runs ∷ [] in
      record {
        going = goes_on l w m s z w.in_main events (ap ending_error from) (ap ending_error to) threads log more
            (subst (λ (v : Standing). At w w.in_main v events z) (sym to)
            (seen_run l w c at.below (of_thread w.number events) (histories events) z (sees_one w.number l.events.items c kind.Runs (run_allowed l w c q n g))
            (subst (λ (es : List Event). ThreadStands p w.number M w.start.value w.main w.in_main (standing (frame c (Running true) ∷ at.below) None) es (histories l.events.items) z) (sym (own_more w.number l.events.items (event w.number c kind.Runs) refl)) st)))
            (λ b e. absurd (let gone : frame c (Running true) ∷ at.below ≡ [] = ap (λ (v : Standing). v.frames) (sym to) ∙ e in cc)) g;
        made = made_one l m w.number c kind.Runs (run_allowed l w c q n g) threads more;
        just = subst (HasJustMade kind.Runs) (sym to) (begun_just c at.below);
        free = free_of l w (λ d r. let z : next.Body c ≡ next.Look d = sym q ∙ r in cc) g;
      }

  -- ---- the step that ends a class

  pub end_files : (l : EventLog) (w : Thread S) (c : ClassId) (j : Ending) → next_of w.procedure.frames ≡ next.End c j → Going p M l w → IsOfFiles p c
  end_files l w c j q g = let x = ends_at w.procedure c j q in in_files p w.procedure c (EndingBy j x.0) x.1 g.stands.files

  end_mine : (l : EventLog) (w : Thread S) (c : ClassId) (j : Ending) → next_of w.procedure.frames ≡ next.End c j → Going p M l w → Allows (label_at l.events.items c) w.number (kind_of_ending j)
  end_mine l w c j q g =
      let x = ends_at w.procedure c j q in
      let mine : AllByRecursion (λ d. label_at l.events.items d ≡ InProgress w.number) (begun_classes (frame c (EndingBy j x.0) ∷ x.1.below)) = subst (λ (fs : List Frame). AllByRecursion (λ d. label_at l.events.items d ≡ InProgress w.number) (begun_classes fs)) x.1.frames g.stands.mine in
      end_allowed w.number j mine.0

  pub end_may : (l : EventLog) (w : Thread S) (c : ClassId) (j : Ending) (k : Kind) → k ≡ kind_of_ending j → next_of w.procedure.frames ≡ next.End c j → Going p M l w → Allows (label_at l.events.items c) w.number k
  end_may l w c j k is q g = subst (λ (i : Kind). Allows (label_at l.events.items c) w.number i) (sym is) (end_mine l w c j q g)

  pub end_done : (l : EventLog) (w : Thread S) (c : ClassId) (j : Ending) → next_of w.procedure.frames ≡ next.End c j → Going p M l w → IsDoneAt p c (kind_of_ending j)
  end_done l w c j q g =
      let x = ends_at w.procedure c j q in
      ending_is_done p w.number c j x.0 x.1.below w.procedure.last (of_thread w.number l.events.items)
      (end_leads_at M p w.number w.start.value w.main w.in_main g.main (subst (λ (fs : List Frame). LeadsOf p w.number (maker_of p M) (OutsideOf p w.number M w.start.value w.main w.in_main) (NoneOpenOf p w.number M w.start.value w.main w.in_main) (standing fs w.procedure.last) (of_thread w.number l.events.items) w.bodies) x.1.frames g.stands.leads))

  pub ended : (l : EventLog) (w : Thread S) (m : EventLog) (s : Standing) (c : ClassId) (j : Ending) (k : Kind) → k ≡ kind_of_ending j → next_of w.procedure.frames ≡ next.End c j → ((d : ClassId) (i : Ending) (by_machine : Bool) (fs : List Frame) → w.procedure.frames ≡ frame d (EndingBy i by_machine) ∷ fs → s ≡ after_word fs d (outcome_of i by_machine)) →
      m.threads ≡ l.threads → IsLog p m → m.events.items ≡ l.events.items ++ event w.number c k ∷ [] → Going p M l w → HasStepped p M l w m (record w { procedure = s })
  ended l w m s c j k of_j q is threads log more g =
      let step : Advances p w.number w.procedure answer.Ended (event w.number c (kind_of_ending j) ∷ []) s = ends p w.number w.procedure c s j q is in
      let may = end_mine l w c j q g in
      let x = ends_at w.procedure c j q in
      let events = l.events.items ++ event w.number c (kind_of_ending j) ∷ [] in
      let here : m.events.items ≡ events = more ∙ ap (λ (i : Kind). l.events.items ++ event w.number c i ∷ []) of_j in
      let to : s ≡ after_word x.1.below c (outcome_of j x.0) = is c j x.0 x.1.below x.1.frames in
      let same : ending_error s ≡ ending_error w.procedure = ap ending_error to ∙ (word_error x.1.below c (outcome_of j x.0) (subst AreOuterBelow x.1.frames (outer_of l w g)) ∙ sym (ap (λ (fs : List Frame). ending_error (standing fs w.procedure.last)) x.1.frames)) in
      let sees = sees_one w.number l.events.items c (kind_of_ending j) may in
      let still : (d : ClassId) → is_waiting d w.procedure.frames ≡ false = λ d. ap (is_waiting d) x.1.frames in
      record {
        going = stepped l w m s w.bodies w.in_main w.gave_up events g.number threads g.main log here (answered_one l w s answer.Ended c (kind_of_ending j) w.bodies step refl may g) (λ b. has_last p w.number step)
            (λ e r. g.reason e (sym same ∙ r))
            (λ n d r. not_both (calm w.number c (kind_of_ending j) sees (ending_is_no_wait j) (λ y u. not_waits n y (still y)) d) r)
            (λ y r. g.gone y (sym same ∙ r));
        made = made_one l m w.number c (kind_of_ending j) may threads here;
        just = subst (HasJustMade (kind_of_ending j)) (sym to) (word_just (kind_of_ending j) x.1.below c (outcome_of j x.0) (subst AreOuterBelow x.1.frames (outer_of l w g)));
        free = free_of l w (λ d r. let z : next.End c j ≡ next.Look d = sym q ∙ r in cc) g;
      } where
        by : (n : w.gave_up ≡ false) (y : ClassId) (b : Bool) → waits w.number (histories l.events.items y) ≡ b → is_waiting y w.procedure.frames ≡ false → b ≡ false
        by n y true r z = not_both z (g.calm n y r)
        by n y false r z = refl

        not_waits : w.gave_up ≡ false → (y : ClassId) → is_waiting y w.procedure.frames ≡ false → waits w.number (histories l.events.items y) ≡ false
        not_waits n y z = by n y (waits w.number (histories l.events.items y)) refl z

  -- ---- between the procedure for the main class and main

  idle_frames : (l : EventLog) (w : Thread S) → next_of w.procedure.frames ≡ next.Idle → Going p M l w → w.procedure.frames ≡ []
  idle_frames l w q g = is_idle w.procedure.frames (are_asking g.stands.leads) q

  pub main_body : (l : EventLog) (w : Thread S) → next_of w.procedure.frames ≡ next.Idle → w.in_main ≡ true → Going p M l w → IsInBody w
  main_body l w q b g = record { requests = subst MayRequest (sym (idle_frames l w q g)) tt; main = λ e. b }

  -- in the body of a class
  pub class_body : (w : Thread S) → is_running w.procedure.frames ≡ true → IsInBody w
  class_body w q = let r = running_requests w.procedure.frames q in record { requests = r.0; main = λ e. absurd (r.1 e) }

  before_stands : (l : EventLog) (w : Thread S) (last : Option Completed) → w.procedure.frames ≡ [] → w.procedure.last ≡ last → w.in_main ≡ false → Going p M l w → At w false (standing [] last) l.events.items w.bodies
  before_stands l w last none is b g =
      subst (λ (x : Option Completed). At w false (standing [] x) l.events.items w.bodies) is
      (subst (λ (fs : List Frame). At w false (standing fs w.procedure.last) l.events.items w.bodies) none
      (subst (λ (x : Bool). At w x w.procedure l.events.items w.bodies) b g.stands))

  -- main begins
  pub entered_main : (l : EventLog) (w : Thread S) (s : Standing) (z : S) (d : Completed) → next_of w.procedure.frames ≡ next.Idle → w.procedure.last ≡ Some d → d.outcome ≡ Normal → w.in_main ≡ false → s ≡ standing w.procedure.frames None → M.enters w.bodies w.main z → Going p M l w →
      Going p M l (record w { procedure = s; bodies = z; in_main = true })
  entered_main l w s z d q last normal b is enters g =
      let none : w.procedure.frames ≡ [] = idle_frames l w q g in
      let to : s ≡ standing [] None = is ∙ ap (λ (fs : List Frame). standing fs None) none in
      let from : ending_error w.procedure ≡ None = ap (λ (fs : List Frame). ending_error (standing fs w.procedure.last)) none ∙ (ap given_up last ∙ ap ended_by normal) in
      goes_on l w l s z true l.events.items from (ap ending_error to) refl g.log refl
      (subst (λ (v : Standing). At w true v l.events.items z) (sym to) (enters_main p w.number (maker_of p M) w.start.value w.main enters (before_stands l w (Some (completed d.class Normal)) none (last ∙ ap (λ (r : Outcome). Some (completed d.class r)) normal) b g)))
      (λ e. cc) g

  -- or the procedure wasn't normal
  pub main_left : (l : EventLog) (w : Thread S) (d : Completed) → next_of w.procedure.frames ≡ next.Idle → w.procedure.last ≡ Some d → d.outcome ≢ Normal → w.in_main ≡ false → Going p M l w → IsOver p M l d.outcome w
  main_left l w d q last other b g =
      let none : w.procedure.frames ≡ [] = idle_frames l w q g in
      record {
        number = g.number;
        word = main_threw p w.number (maker_of p M) w.start.value w.main d.outcome other (before_stands l w (Some d) none last b g).leads;
        reason = λ e r. g.reason e (ap (λ (fs : List Frame). ending_error (standing fs w.procedure.last)) none ∙ (ap given_up last ∙ ap ended_by r));
        gave_up = λ y. by d.outcome (λ n. g.gone y (ap (λ (fs : List Frame). ending_error (standing fs w.procedure.last)) none ∙ (ap given_up last ∙ n)));
      } where
        by : (r : Outcome) → ended_by r ≢ None → (e : ClassId) × (r ≡ Ended e)
        by Normal n = absurd (n refl)
        by (Abrupt e) n = absurd (n refl)
        by (Ended e) n = (e, refl)

  -- something was completed
  pub has_begun : (l : EventLog) (w : Thread S) → next_of w.procedure.frames ≡ next.Idle → w.in_main ≡ false → w.procedure.last ≡ None → Going p M l w → ⊥
  has_begun l w q b last g = g.begun b (idle_frames l w q g) last

  -- the request of the main class
  pub starts : (l : EventLog) (w : Thread S) → w.number < l.threads.value → IsOfFiles p w.main → IsLog p l → l.events.items ≡ [] → w.procedure ≡ standing (frame w.main (Looking false) ∷ []) None → w.start.value ≡ w.bodies → w.in_main ≡ false → w.gave_up ≡ false → Going p M l w
  starts l w low within log none is first b n = record {
    number = low;
    main = within;
    log = log;
    stands = subst (λ (x : Bool). At w x w.procedure l.events.items w.bodies) (sym b)
        (subst (λ (es : List Event). At w false w.procedure es w.bodies) (sym none)
        (subst (λ (v : Standing). At w false v [] w.bodies) (sym is)
        (subst (λ (u : S). At w false (standing (frame w.main (Looking false) ∷ []) None) [] u) first (record {
          leads = main_looks p w.number (maker_of p M) w.start.value w.main;
          files = ((within, tt), tt);
          mine = tt;
          different = tt;
          waiting = λ e d. refl;
          used = λ d q. cc;
        }))));
    begun = λ c e. absurd (let gone : frame w.main (Looking false) ∷ [] ≡ [] = ap (λ (v : Standing). v.frames) (sym is) ∙ e in cc);
    reason = λ e q. absurd (let none_ends : None ≡ Some e = ap ending_error (sym is) ∙ q in cc);
    calm = λ x c q. absurd (let no_way : false ≡ true = ap (λ (es : List Event). waits w.number (histories es c)) (sym none) ∙ q in cc);
    gone = λ y. absurd (let no_way : false ≡ true = sym n ∙ y in cc);
  }
