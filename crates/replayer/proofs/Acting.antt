-- What a body does, as the calls tell it.
use Rattle.std.proofs.Common.{◌≡◌, ◌≢◌, ◌⊎◌, ℕ, ◌<◌, ◌≤◌, List, [], ◌∷◌, ◌++◌, Option, Some, None, Bool, true, false, length, slice_get, inl, ⊎_elim, refl, sym, subst, ap, ◌∙◌}
use Rattle.std.specs.Prelude.{Err, IfOk, MatchResult, Ok, OnOk, Result, slice_index_or}
use Rattle.std.specs.List.{AllByRecursion}
use Rattle.std.proofs.lemmas.List.Elements.{filter-append}
use Rattle.hierarchy.specs.declared.class.ClassId.{ClassId}
use Rattle.hierarchy.specs.declared.value.Value.{Value}
use Rattle.hierarchy.specs.LinkedProgram.{LinkedProgram, id}
use Rattle.hierarchy.specs.Subclasses.{IsError}
use Rattle.statics.specs.Statics.{statics_of, kept_by}
use Rattle.init_core.specs.declared.event.Event.{Event}
use Rattle.init_core.specs.declared.event.Kind.{Kind}
use Rattle.init_core.specs.declared.event.Kind.TheVariants as kind
use Rattle.init_core.specs.declared.event.TheConstants.{THREADS}
use Rattle.init_core.specs.declared.frames.Completed.{Completed}
use Rattle.init_core.specs.declared.frames.Ending.{Ending}
use Rattle.init_core.specs.declared.frames.Frame.{Frame}
use Rattle.init_core.specs.declared.frames.Outcome.{Outcome}
use Rattle.init_core.specs.declared.frames.Outcome.TheVariants.{Normal, Abrupt, Ended}
use Rattle.init_core.specs.declared.frames.Phase.TheVariants.{Running}
use Rattle.init_core.specs.declared.procedure.Answer.TheVariants as answer
use Rattle.init_core.specs.declared.procedure.Next.TheVariants as next
use Rattle.init_core.specs.Advance.{Advances, leaves_body, FitsBody, MayEndThread, after_body, is_running, is_waiting, next_of, requested, thread_ended}
use Rattle.init_core.specs.Decisions.{event, waits}
use Rattle.init_core.specs.ClassState.{State, IsStateOf}
use Rattle.init_core.specs.Interleaving.{of_class, of_thread, is_class, label_at}
use Rattle.init_core.specs.Lawful.{Allows, MayUse}
use Rattle.init_core.specs.Leads.{frame, standing, LeadsOf}
use Rattle.init_core.specs.ProcedureWord.{GoesOn, IsUse, IsStop, completed, given_up, printed}
use Rattle.init_core.specs.ProgramEvents.{IsDoneAt, IsProgramEvent, IsValueOf, prints_text}
use Rattle.init_core.specs.Standing.{Standing}
use Rattle.init_core.specs.StaticValue.{value_of}
use Rattle.init_core.specs.Stands.{SeesMore, ending_error}
use Rattle.init_core.proofs.Knowing.{others_go_on, request_calm}
use Rattle.init_core.proofs.Leading.{MakesEnd}
use Rattle.init_core.proofs.Mains.{ends_main}
use Rattle.bodies.specs.declared.report.Limit.{Limit}
use Rattle.bodies.specs.declared.report.Limit.TheVariants.{Steps}
use Rattle.bodies.specs.declared.does.Does.{Does}
use Rattle.bodies.specs.declared.does.Does.TheVariants as does
use Rattle.bodies.specs.Doing.{MayDo}
use Rattle.bodies.specs.Making.{Making, stays, comes, maker_of}
use Rattle.bodies.specs.ThreadStands.{OutsideOf, NoneOpenOf, ThreadStands}
use Rattle.bodies.proofs.Asking.{IsBodyAt, of_main, of_class as of_a_class, body_at, looks_at, runs_at, running_at, not_running, body_error}
use Rattle.bodies.proofs.HeldValues.{value_held}
use Rattle.bodies.proofs.ThreadSteps.{allows_use, asks_one, uses_one, goes_of, prints_at, makes_ended, stops_at}
use Rattle.init_core.proofs.InterleavingParts.{no_more}
use Rattle.replayer.specs.declared.log.EventLog.{EventLog}
use Rattle.replayer.specs.declared.thread.Thread.{Thread}
use Rattle.replayer.specs.Going.{Going, GoesOrEnds, HasStepped, IsWhy, IsInBody, HasComeTo, IsDoing, IsHeldUp, WaitsInside, IsOver, IsPaused, at_class, in_body, Resting, IsSameThread, TurnsTo, turn_by}
use Rattle.replayer.specs.declared.thread.Turn.{Turn}
use Rattle.replayer.specs.declared.thread.Turn.TheVariants as turn
use Rattle.replayer.specs.Logged.{IsLog, IsStateAfter, histories}
use Rattle.replayer.proofs.JustMade.{body_just, use_of_body}
use Rattle.replayer.specs.OrderedRun.{HasJustMade, WaitsFor}
use Rattle.replayer.proofs.Logged.{all_more, own_more, sees_one, writes_held}
use Rattle.replayer.proofs.Stepping.{At, limit_error, goes_on, told, made_one, free_of, not_both, gave_up_look, main_body}

pub none_of : (o : Option ClassId) → ((e : ClassId) → o ≢ Some e) → o ≡ None
none_of None n = refl
none_of (Some e) n = absurd (n e refl)

no_look : (fs : List Frame) → IsBodyAt fs → (d : ClassId) → next_of fs ≢ next.Look d
no_look [] of_main d q = cc
no_look (f ∷ fs) (of_a_class c gs) d q = cc

-- the same thread after two calls
pub same_then : {S : Type 0} {w v x : Thread S} → IsSameThread w v → IsSameThread v x → IsSameThread w x
same_then a b = record { number = b.number ∙ a.number; main = b.main ∙ a.main; start = b.start ∙ a.start; gave_up = b.gave_up ∙ a.gave_up; done = b.done ∙ a.done }

-- a turn without an event, by how the thread ended, isn't one in which it waits
pub no_wait_by : {A : Type 0} (t : Turn) (o : Option Outcome) → t ≡ turn_by o → t ≡ turn.Waits → A
no_wait_by t None is q = cc
no_wait_by t (Some r) is q = cc

-- what two facts of a value come to, where there is one
pub if_both : {T E : Type 0} (P Q R : T → Type 0) (r : Result T E) → ((x : T) → P x → Q x → R x) → IfOk r P → IfOk r Q → IfOk r R
if_both P Q R (Ok x) f p q = f x p q
if_both P Q R (Err e) f p q = tt

-- what holds of a turn in which an event was made, where it was
pub by_event : {T E : Type 0} (P : Turn → Type 0) (made : Result T E) (r : Result Turn E) → MatchResult made (λ x. r ≡ Ok turn.Event) (λ e. r ≡ Err e) → OnOk made (P turn.Event) → IfOk r P
by_event {E = E} P (Ok x) r is h = subst (λ (y : Result Turn E). IfOk y P) (sym is) h
by_event {E = E} P (Err e) r is h = subst (λ (y : Result Turn E). IfOk y P) (sym is) tt

-- one in which a thread waits is none of them
pub no_wait_event : {T E : Type 0} (A : Type 0) (made : Result T E) (r : Result Turn E) → MatchResult made (λ x. r ≡ Ok turn.Event) (λ e. r ≡ Err e) → IfOk r (λ t. t ≡ turn.Waits → A)
no_wait_event {E = E} A (Ok x) r is = subst (λ (y : Result Turn E). IfOk y (λ t. t ≡ turn.Waits → A)) (sym is) (λ q. absurd cc)
no_wait_event {E = E} A (Err e) r is = subst (λ (y : Result Turn E). IfOk y (λ t. t ≡ turn.Waits → A)) (sym is) tt

module _ {S : Type 0} (p : LinkedProgram) (M : Making S) where
  not_of_main : {A : Type 0} (w : Thread S) → IsInBody w → w.in_main ≡ false → w.procedure.frames ≡ [] → A
  not_of_main w body b e = not_both b (body.main e)

  goes_so : (w : Thread S) → IsInBody w → GoesOn w.procedure.last → ending_error w.procedure ≡ None
  goes_so w body on = body_error w.procedure.frames w.procedure.last body.requests ∙ on

  -- a body asks for no look, so it doesn't wait for a class
  body_free : (l : EventLog) (w : Thread S) (d : Does) → IsDoing p M l d w → w.gave_up ≡ false → (c : ClassId) → WaitsFor w.number l.events.items c → ⊥
  body_free l w d x n c f = free_of p M l (record w { bodies = x.from }) (no_look w.procedure.frames (body_at w.procedure.frames x.body.requests)) x.going n c f

  -- ---- an active use

  not_idle : (fs : List Frame) (last : Option Completed) (c : ClassId) → (requested (standing fs last) c).frames ≢ []
  not_idle fs last c e = cc

  pub asked : (l : EventLog) (w : Thread S) (s : Standing) (c : ClassId) → s ≡ requested w.procedure c → IsDoing p M l (does.Asks c) w → Going p M l (record w { procedure = s })
  asked l w s c is d =
      subst (λ (v : Standing). Going p M l (record w { procedure = v })) (sym is)
      (goes_on p M l (record w { bodies = d.from }) l (requested w.procedure c) w.bodies w.in_main l.events.items (goes_so w d.body d.goes_on) refl refl d.going.log refl
      (asks_one M p w.number w.start.value w.main w.in_main w.procedure.frames w.procedure.last (of_thread w.number l.events.items) (histories l.events.items) d.from w.bodies c (body_at w.procedure.frames d.body.requests) d.body.main d.goes_on d.fits d.does d.going.stands)
      (λ b e. absurd (not_idle w.procedure.frames w.procedure.last c e)) d.going)

  -- ---- reads and writes

  -- the class was made ready directly before
  may_use : (l : EventLog) (w : Thread S) (c : ClassId) → w.procedure.last ≡ Some (completed c Normal) → Going p M l w → MayUse w.number (label_at l.events.items c)
  may_use l w c last g = g.stands.used c last

  pub use_allowed : (l : EventLog) (w : Thread S) (d : Does) (c : ClassId) (k : Kind) → IsUse k → w.procedure.last ≡ Some (completed c Normal) → IsDoing p M l d w → Allows (label_at l.events.items c) w.number k
  use_allowed l w d c k is last x = allows_use (label_at l.events.items c) w.number k is (may_use l (record w { bodies = x.from }) c last x.going)

  used : (l : EventLog) (w : Thread S) (m : EventLog) (s : Standing) (z : S) (d : Does) (c : ClassId) (k : Kind) → w.procedure.last ≡ Some (completed c Normal) → IsUse k → (x : IsDoing p M l d w) → (maker_of p M).uses x.from c k z → m.threads ≡ l.threads → IsLog p m → m.events.items ≡ l.events.items ++ event w.number c k ∷ [] → s ≡ standing w.procedure.frames None →
      HasStepped p M l w m (record w { procedure = s; bodies = z })
  used l w m s z d c k last is x made threads log more to =
      let ok = use_allowed l w d c k is last x in
      let events = l.events.items ++ event w.number c k ∷ [] in
      record {
        going = subst (λ (v : Standing). Going p M m (record w { procedure = v; bodies = z })) (sym to)
            (goes_on p M l (record w { bodies = x.from }) m (standing w.procedure.frames None) z w.in_main events (goes_so w x.body x.goes_on) (body_error w.procedure.frames None x.body.requests) threads log more
            (subst (λ (es : List Event). ThreadStands p w.number M w.start.value w.main w.in_main (standing w.procedure.frames None) es (histories events) z) (sym (own_more w.number l.events.items (event w.number c k) refl))
            (uses_one M p w.number w.start.value w.main w.in_main w.procedure.frames (of_thread w.number l.events.items) (histories l.events.items) (histories events) x.from z c k (body_at w.procedure.frames x.body.requests) x.body.main is made (sees_one w.number l.events.items c k ok)
            (subst (λ (o : Option Completed). At p M w w.in_main (standing w.procedure.frames o) l.events.items x.from) last x.going.stands)))
            (λ b e. not_of_main w x.body b e) x.going);
        made = made_one p M l m w.number c k ok threads more;
        just = subst (HasJustMade k) (sym to) (body_just k w.procedure.frames (body_at w.procedure.frames x.body.requests) (use_of_body k is));
        free = body_free l w d x;
      }

  -- what is read is a value of the field
  pub read_done : (l : EventLog) (w : Thread S) (c : ClassId) (field : ℕ) (v : Value) → IsDoing p M l (does.Gets c field) w → value_of (statics_of p c) field (of_class c l.events.items) ≡ Some v → IsDoneAt p c (kind.Gets field v)
  read_done l w c field v x holds = value_held (statics_of p c) field v (of_class c l.events.items) x.fits.3 (writes_held p l.threads.value c l.events.items x.going.log.events) holds

  pub read_was_made : (l : EventLog) (w : Thread S) (m : EventLog) (s : Standing) (z : S) (c : ClassId) (field : ℕ) (v : Value) (x : IsDoing p M l (does.Gets c field) w) → M.gets w.bodies v z → m.threads ≡ l.threads → IsLog p m → m.events.items ≡ l.events.items ++ event w.number c (kind.Gets field v) ∷ [] → s ≡ standing w.procedure.frames None →
      HasStepped p M l w m (record w { procedure = s; bodies = z })
  read_was_made l w m s z c field v x gets threads log more to =
      used l w m s z (does.Gets c field) c (kind.Gets field v) x.fits.1 tt x (w.bodies, subst (λ (o : Option Completed). M.does x.from o (does.Gets c field) w.bodies) x.fits.1 x.does, gets) threads log more to

  -- what is written is what the field keeps
  pub write_done : (l : EventLog) (w : Thread S) (c : ClassId) (field : ℕ) (given v : Value) → v ≡ kept_by (statics_of p c) field given → IsDoing p M l (does.Puts c field given) w → IsDoneAt p c (kind.Puts field v)
  write_done l w c field given v is x = subst (λ (a : Value). IsValueOf (slice_get (statics_of p c) field) a) (sym is) x.fits.3

  pub write_was_made : (l : EventLog) (w : Thread S) (m : EventLog) (s : Standing) (c : ClassId) (field : ℕ) (given v : Value) → v ≡ kept_by (statics_of p c) field given → (x : IsDoing p M l (does.Puts c field given) w) → m.threads ≡ l.threads → IsLog p m → m.events.items ≡ l.events.items ++ event w.number c (kind.Puts field v) ∷ [] → s ≡ standing w.procedure.frames None →
      HasStepped p M l w m (record w { procedure = s })
  write_was_made l w m s c field given v is x threads log more to =
      used l w m s w.bodies (does.Puts c field given) c (kind.Puts field v) x.fits.1 tt x (given, subst (λ (o : Option Completed). M.does x.from o (does.Puts c field given) w.bodies) x.fits.1 x.does, is) threads log more to

  -- ---- a print

  -- it is of no class
  sees_print : (t : ℕ) (events : List Event) (text : List ℕ) → SeesMore (histories events) (λ d. []) (histories (events ++ printed t text ∷ []))
  sees_print t events text = record { adds = λ d. filter-append (λ e. is_class d e.class) events (printed t text ∷ []); agrees = λ d. tt }

  pub printed_log : (l m : EventLog) (t : ℕ) (text : List ℕ) → t < l.threads.value → IsLog p l → (z : S) → MayDo p M.limits None (does.Prints text) z → m.states ≡ l.states → m.threads ≡ l.threads → m.events.items ≡ l.events.items ++ printed t text ∷ [] → IsLog p m
  printed_log l m t text low log z is states threads more = record {
    few = subst (λ n. n.value ≤ THREADS) (sym threads) log.few;
    count = ap (λ ss. length ss.items) states ∙ log.count;
    states = λ n other below.
        subst (λ (es : List Event). IsStateAfter p es (id n) (slice_index_or m.states.items n other)) (sym more)
        (subst (λ (ss : List State). IsStateAfter p (l.events.items ++ printed t text ∷ []) (id n) (slice_index_or ss n other)) (sym (ap (λ ss. ss.items) states)) (at n other (log.states n other below)));
    events = subst (λ n. AllByRecursion (λ e. IsProgramEvent p n.value e) m.events.items) (sym threads) (subst (λ (es : List Event). AllByRecursion (λ e. IsProgramEvent p l.threads.value e) es) (sym more) (all_more (λ e. IsProgramEvent p l.threads.value e) l.events.items (printed t text) log.events (prints_text text low is)));
  } where
    at : (n : ℕ) (other : State) → IsStateAfter p l.events.items (id n) (slice_index_or l.states.items n other) → IsStateAfter p (l.events.items ++ printed t text ∷ []) (id n) (slice_index_or l.states.items n other)
    at n other o = record { class = o.class; fields = o.fields; state = subst (IsStateOf (slice_index_or l.states.items n other)) (sym (no_more l.events.items (printed t text) (id n) refl)) o.state }

  pub has_printed : (l : EventLog) (w : Thread S) (m : EventLog) (s : Standing) (text : List ℕ) → m.states ≡ l.states → m.threads ≡ l.threads → m.events.items ≡ l.events.items ++ printed w.number text ∷ [] → s ≡ standing w.procedure.frames None → IsDoing p M l (does.Prints text) w → HasStepped p M l w m (record w { procedure = s })
  has_printed l w m s text states threads more to x =
      let events = l.events.items ++ printed w.number text ∷ [] in
      let st = prints_at M p w.number w.start.value w.main w.in_main w.procedure.frames w.procedure.last (of_thread w.number l.events.items) (histories l.events.items) x.from w.bodies text (body_at w.procedure.frames x.body.requests) x.body.main x.goes_on x.does x.going.stands in
      record {
        going = subst (λ (v : Standing). Going p M m (record w { procedure = v })) (sym to)
            (goes_on p M l (record w { bodies = x.from }) m (standing w.procedure.frames None) w.bodies w.in_main events (goes_so w x.body x.goes_on) (body_error w.procedure.frames None x.body.requests) threads (printed_log l m w.number text x.going.number x.going.log w.bodies x.fits states threads more) more
            (others_go_on p w.number (maker_of p M) (OutsideOf p w.number M w.start.value w.main w.in_main) (NoneOpenOf p w.number M w.start.value w.main w.in_main) (goes_of M p w.number w.start.value w.main w.in_main) (sees_print w.number l.events.items text) (λ d. tt)
            (subst (λ (es : List Event). ThreadStands p w.number M w.start.value w.main w.in_main (standing w.procedure.frames None) es (histories l.events.items) w.bodies) (sym (own_more w.number l.events.items (printed w.number text) refl)) st))
            (λ b e. not_of_main w x.body b e) x.going);
        made = record {
          event = printed w.number text;
          thread = refl;
          events = more;
          sees = subst (λ (es : List Event). SeesMore (histories l.events.items) (λ d. of_class d (printed w.number text ∷ [])) (histories es)) (sym more) (sees_print w.number l.events.items text);
          threads = threads;
        };
        just = subst (HasJustMade (kind.Prints text)) (sym to) (body_just (kind.Prints text) w.procedure.frames (body_at w.procedure.frames x.body.requests) tt);
        free = body_free l w (does.Prints text) x;
      }

  -- ---- the end of a body

  -- in a body no wait is last while the machine doesn't end it
  body_calm : (l : EventLog) (w : Thread S) (fs : List Frame) → IsInBody w → Going p M l w → w.gave_up ≡ false → (c : ClassId) → waits w.number (histories l.events.items c) ≡ true → is_waiting c fs ≡ true
  body_calm l w fs body g n c q = not_both (request_calm c w.procedure.frames body.requests) (g.calm n c q)

  -- a body in which it gave up isn't ended for another reason
  so_before : (l : EventLog) (w : Thread S) (gave_up : Bool) → ((w.gave_up ≡ false) ⊎ (gave_up ≡ w.gave_up)) → gave_up ≡ false → w.gave_up ≡ false
  so_before l w gave_up h n = ⊎_elim (λ x. x) (λ x. sym x ∙ n) h

  -- where the machine has ended a body at a limit, it has ended the next at this limit too
  abbrev LimitsStay : Type 0
  LimitsStay = (k : Limit) (s z : S) → M.limits k s → M.is_ended s z → M.limits k z

  why_stays : LimitsStay → (threads : ℕ) (gave_up : Bool) (e : ClassId) (s z : S) → M.is_ended s z → IsWhy p M s threads gave_up e → IsWhy p M z threads gave_up e
  why_stays stay threads true e s z ended why = why
  why_stays stay threads false e s z ended why = λ limits may. (let x = why limits may in (x.0, stay Steps s z x.1 ended))

  -- the machine ended the body of a class
  pub left : LimitsStay → (l : EventLog) (w : Thread S) (s : Standing) (z : S) (e : ClassId) (gave_up : Bool) → ((w.gave_up ≡ false) ⊎ (gave_up ≡ w.gave_up)) → is_running w.procedure.frames ≡ true → ((f : Frame) (fs : List Frame) → w.procedure.frames ≡ f ∷ fs → s ≡ after_body f.class fs (Ended e)) → FitsBody p (given_up w.procedure.last) (Ended e) → IsWhy p M w.bodies l.threads.value gave_up e →
      M.is_ended w.bodies z → HasComeTo p M l w → Going p M l (record w { procedure = s; bodies = z; gave_up = gave_up })
  left stay l w s z e gave_up was q is fits why ended h =
      let at = running_at w.procedure.frames q in
      let to : s ≡ after_body at.0 at.1 (Ended e) = is (frame at.0 (Running true)) at.1 at.2 in
      let step : Advances p w.number w.procedure (answer.BodyEnded (Ended e)) [] s = subst (λ (v : Standing). Advances p w.number w.procedure (answer.BodyEnded (Ended e)) [] v) (sym to)
      (subst (λ (fs : List Frame). Advances p w.number (standing fs w.procedure.last) (answer.BodyEnded (Ended e)) [] (after_body at.0 at.1 (Ended e))) (sym at.2) (leaves_body fits)) in
      told p M l (record w { bodies = h.from }) s (answer.BodyEnded (Ended e)) z gave_up step (makes_ended M p w.number w.start.value w.main w.procedure.last (given_up w.procedure.last) e h.from z (w.bodies, h.come, ended))
      (λ y r. let same : Some e ≡ Some y = ap ending_error (sym to) ∙ r in let it : e ≡ y = cc in subst (IsWhy p M z l.threads.value gave_up) it (why_stays stay l.threads.value gave_up e w.bodies z ended why))
      (λ n. body_calm l (record w { bodies = h.from }) s.frames (record { requests = h.body.requests; main = h.body.main }) h.going (so_before l w gave_up was n))
      (λ y n. let no_way : None ≡ Some e = sym n ∙ ap ending_error to in cc) h.going

  in_main_leads : (l : EventLog) (w : Thread S) (y : S) → w.procedure.frames ≡ [] → w.in_main ≡ true → At p M w w.in_main w.procedure l.events.items y →
      LeadsOf p w.number (maker_of p M) (OutsideOf p w.number M w.start.value w.main true) (NoneOpenOf p w.number M w.start.value w.main true) (standing [] w.procedure.last) (of_thread w.number l.events.items) y
  in_main_leads l w y e b st =
      subst (λ (fs : List Frame). LeadsOf p w.number (maker_of p M) (OutsideOf p w.number M w.start.value w.main true) (NoneOpenOf p w.number M w.start.value w.main true) (standing fs w.procedure.last) (of_thread w.number l.events.items) y) e
      (subst (λ (x : Bool). LeadsOf p w.number (maker_of p M) (OutsideOf p w.number M w.start.value w.main x) (NoneOpenOf p w.number M w.start.value w.main x) w.procedure (of_thread w.number l.events.items) y) b st.leads)

  -- the machine ended that of main
  pub left_main : LimitsStay → (l : EventLog) (w : Thread S) (z : S) (e : ClassId) (gave_up : Bool) → is_running w.procedure.frames ≡ false → FitsBody p (given_up w.procedure.last) (Ended e) → IsWhy p M w.bodies l.threads.value gave_up e → M.is_ended w.bodies z → HasComeTo p M l w → IsOver p M l (Ended e) (record w { bodies = z; gave_up = gave_up })
  left_main stay l w z e gave_up q fits why ended h =
      let none : w.procedure.frames ≡ [] = not_running w.procedure.frames h.body.requests q in
      record {
        number = h.going.number;
        word = stops_at M p w.number w.start.value w.main w.procedure.last e (of_thread w.number l.events.items) h.from z fits (w.bodies, h.come, ended) (in_main_leads l w h.from none (h.body.main none) h.going.stands);
        reason = λ y r. let it : e ≡ y = cc in subst (IsWhy p M z l.threads.value gave_up) it (why_stays stay l.threads.value gave_up e w.bodies z ended why);
        gave_up = λ y. (e, refl);
      }

  -- the body of a class is over
  body_over : (l : EventLog) (w : Thread S) (s : Standing) (z : S) (d : Does) (r : Outcome) → is_running w.procedure.frames ≡ true → ((f : Frame) (fs : List Frame) → w.procedure.frames ≡ f ∷ fs → s ≡ after_body f.class fs r) → FitsBody p None r → ((e : ClassId) → r ≢ Ended e) → (x : IsDoing p M l d w) →
      MakesEnd p (maker_of p M) w.procedure.last None r x.from z → Going p M l (record w { procedure = s; bodies = z })
  body_over l w s z d r q is fits other x made =
      let at = running_at w.procedure.frames q in
      let to : s ≡ after_body at.0 at.1 r = is (frame at.0 (Running true)) at.1 at.2 in
      let on : given_up w.procedure.last ≡ None = x.goes_on in
      let step : Advances p w.number w.procedure (answer.BodyEnded r) [] s = subst (λ (v : Standing). Advances p w.number w.procedure (answer.BodyEnded r) [] v) (sym to)
      (subst (λ (fs : List Frame). Advances p w.number (standing fs w.procedure.last) (answer.BodyEnded r) [] (after_body at.0 at.1 r)) (sym at.2) (leaves_body (subst (λ (o : Option ClassId). FitsBody p o r) (sym on) fits))) in
      told p M l (record w { bodies = x.from }) s (answer.BodyEnded r) z w.gave_up step (subst (λ (o : Option ClassId). MakesEnd p (maker_of p M) w.procedure.last o r x.from z) (sym on) made)
      (λ y e. no_error_of r other at.0 at.1 y (ap ending_error (sym to) ∙ e))
      (λ n. body_calm l (record w { bodies = x.from }) s.frames (record { requests = x.body.requests; main = x.body.main }) x.going n)
      (λ y. absurd (x.going.gone y (goes_so w x.body x.goes_on))) x.going where
        no_error_of : {A : Type 0} (o : Outcome) → ((e : ClassId) → o ≢ Ended e) → (c : ClassId) (fs : List Frame) (y : ClassId) → ending_error (after_body c fs o) ≡ Some y → A
        no_error_of Normal n c fs y e = absurd cc
        no_error_of (Abrupt v) n c fs y e = absurd cc
        no_error_of (Ended v) n c fs y e = absurd (n v refl)

  -- and that of main
  main_over : (l : EventLog) (w : Thread S) (d : Does) (r : Outcome) → is_running w.procedure.frames ≡ false → IsStop p r → ((e : ClassId) → r ≢ Ended e) → (x : IsDoing p M l d w) → (maker_of p M).stops x.from w.procedure.last r w.bodies → IsOver p M l r w
  main_over l w d r q is other x made =
      let none : w.procedure.frames ≡ [] = not_running w.procedure.frames x.body.requests q in
      record {
        number = x.going.number;
        word = ends_main p w.number (maker_of p M) w.start.value w.main r x.goes_on is made (in_main_leads l w x.from none (x.body.main none) x.going.stands);
        reason = λ e z. absurd (other e z);
        gave_up = λ y. absurd (x.going.gone y (goes_so w x.body x.goes_on));
      }

  pub main_returns : (l : EventLog) (w : Thread S) (thrown : Option ClassId) → thrown ≡ None → is_running w.procedure.frames ≡ false → IsDoing p M l (does.Over thrown) w → IsOver p M l Normal w
  main_returns l w thrown is q x =
      let y : IsDoing p M l (does.Over None) w = subst (λ (o : Option ClassId). IsDoing p M l (does.Over o) w) is x in
      main_over l w (does.Over None) Normal q tt (λ e z. cc) y y.does

  pub main_throws : (l : EventLog) (w : Thread S) (thrown : Option ClassId) (e : ClassId) → thrown ≡ Some e → is_running w.procedure.frames ≡ false → IsDoing p M l (does.Over thrown) w → IsOver p M l (Abrupt e) w
  main_throws l w thrown e is q x =
      let y : IsDoing p M l (does.Over (Some e)) w = subst (λ (o : Option ClassId). IsDoing p M l (does.Over o) w) is x in
      main_over l w (does.Over (Some e)) (Abrupt e) q y.fits (λ e z. cc) y y.does

  pub class_returns : (l : EventLog) (w : Thread S) (s : Standing) (thrown : Option ClassId) → thrown ≡ None → is_running w.procedure.frames ≡ true → ((f : Frame) (fs : List Frame) → w.procedure.frames ≡ f ∷ fs → s ≡ after_body f.class fs Normal) → IsDoing p M l (does.Over thrown) w → Going p M l (record w { procedure = s })
  class_returns l w s thrown is q to x =
      let y : IsDoing p M l (does.Over None) w = subst (λ (o : Option ClassId). IsDoing p M l (does.Over o) w) is x in
      body_over l w s w.bodies (does.Over None) Normal q to tt (λ e z. cc) y y.does

  pub class_throws : (l : EventLog) (w : Thread S) (s : Standing) (z : S) (thrown : Option ClassId) (e error : ClassId) → thrown ≡ Some e → is_running w.procedure.frames ≡ true → ((f : Frame) (fs : List Frame) → w.procedure.frames ≡ f ∷ fs → s ≡ after_body f.class fs (Abrupt error)) → IsError p error → M.replaces w.bodies e error z →
      IsDoing p M l (does.Over thrown) w → Going p M l (record w { procedure = s; bodies = z })
  class_throws l w s z thrown e error is q to is_error replaced x =
      let y : IsDoing p M l (does.Over (Some e)) w = subst (λ (o : Option ClassId). IsDoing p M l (does.Over o) w) is x in
      body_over l w s z (does.Over (Some e)) (Abrupt error) q to is_error (λ e z. cc) y (e, w.bodies, y.fits, y.does, replaced)

  -- ---- a body that goes on

  -- what it does next, also after it was held up
  pub next_does : (l : EventLog) (w : Thread S) (last : Option Completed) (d : Does) (z : S) → ((s u x : S) (o : Option Completed) → M.does s o does.Touches u → M.waits u → M.does u o d x → M.does s o d x) → last ≡ w.procedure.last → M.does w.bodies last d z → MayDo p M.limits last d z → IsInBody w → GoesOn w.procedure.last → Resting p M l w → IsDoing p M l d (record w { bodies = z })
  next_does l w last d z law is made fits body on resting = ⊎_elim fresh again resting where
    does_now : M.does w.bodies w.procedure.last d z
    does_now = subst (λ (o : Option Completed). M.does w.bodies o d z) is made

    fits_now : MayDo p M.limits w.procedure.last d z
    fits_now = subst (λ (o : Option Completed). MayDo p M.limits o d z) is fits

    fresh : Going p M l w → IsDoing p M l d (record w { bodies = z })
    fresh g = record { from = w.bodies; going = g; body = record { requests = body.requests; main = body.main }; goes_on = on; does = does_now; fits = fits_now }

    again : IsHeldUp p M l w → IsDoing p M l d (record w { bodies = z })
    again x = record { from = x.doing.from; going = x.doing.going; body = record { requests = body.requests; main = body.main }; goes_on = on; does = law x.doing.from w.bodies z w.procedure.last x.doing.does x.waits does_now; fits = fits_now }

  -- it stands where it did, where it isn't in a body that was held up
  pub stands_still : (l : EventLog) (w : Thread S) → (IsInBody w → ⊥) → Resting p M l w → Going p M l w
  stands_still l w other resting = ⊎_elim (λ g. g) (λ x. absurd (other (record { requests = x.doing.body.requests; main = x.doing.body.main }))) resting

  -- ---- where the machine may end a body

  -- where it stands
  pub has_come : (l : EventLog) (w : Thread S) → IsInBody w → Resting p M l w → HasComeTo p M l w
  has_come l w body resting = ⊎_elim (λ g. record { from = w.bodies; going = g; body = body; come = stays }) (λ x. record { from = x.doing.from; going = x.doing.going; body = body; come = comes does.Touches x.doing.goes_on x.doing.does }) resting

  -- or at what it does next
  pub has_come_on : (l : EventLog) (w : Thread S) (d : Does) → IsDoing p M l d w → HasComeTo p M l w
  has_come_on l w d x = record { from = x.from; going = x.going; body = record { requests = x.body.requests; main = x.body.main }; come = comes d x.goes_on x.does }

  -- why the machine is ending it
  pub why_ended : (l : EventLog) (w : Thread S) (e : ClassId) → ending_error w.procedure ≡ Some e → Resting p M l w → IsWhy p M w.bodies l.threads.value w.gave_up e
  why_ended l w e q resting = ⊎_elim (λ g. g.reason e q) (λ x. absurd (let z : None ≡ Some e = sym (goes_so w x.doing.body x.doing.goes_on) ∙ q in cc)) resting

  -- the machine ended an active use in the body
  pub was_ended : (w : Thread S) (e : ClassId) → IsInBody w → ending_error w.procedure ≡ Some e → FitsBody p (given_up w.procedure.last) (Ended e)
  was_ended w e body q =
      let same : given_up w.procedure.last ≡ Some e = sym (body_error w.procedure.frames w.procedure.last body.requests) ∙ q in
      subst (λ (o : Option ClassId). FitsBody p o (Ended e)) (sym same) refl

  pub goes_on_in : (w : Thread S) → IsInBody w → ending_error w.procedure ≡ None → GoesOn w.procedure.last
  goes_on_in w body q = sym (body_error w.procedure.frames w.procedure.last body.requests) ∙ q

  -- a limit ends it
  pub fits_limit : (w : Thread S) → GoesOn w.procedure.last → FitsBody p (given_up w.procedure.last) (Ended (limit_error p))
  fits_limit w on = subst (λ (o : Option ClassId). FitsBody p o (Ended (limit_error p))) (sym on) (inl refl)

  pub not_gone : (b : Bool) → (b ≡ true → ⊥) → b ≡ false
  not_gone true n = absurd (n refl)
  not_gone false n = refl

  -- a body that goes on isn't one of a thread that gave up
  pub hasnt_given_up : (l : EventLog) (w : Thread S) (d : Does) → IsDoing p M l d w → w.gave_up ≡ false
  hasnt_given_up l w d x = not_gone w.gave_up (λ y. x.going.gone y (goes_so w x.body x.goes_on))

  -- nor one that is at something that another thread holds
  pub kept_calm : {W : Bool → S → Type 0} (l : EventLog) (w : Thread S) → WaitsInside p M W l w → w.gave_up ≡ false
  kept_calm l w x = ⊎_elim (λ g. not_gone w.gave_up (λ y. g.gone y (goes_so w x.body x.goes_on))) (λ d. hasnt_given_up l w does.Touches d.doing) x.resting

  -- where a body is at such a thing
  pub is_kept : {W : Bool → S → Type 0} (l : EventLog) (w : Thread S) → IsInBody w → ending_error w.procedure ≡ None → Resting p M l w → W true w.bodies → IsPaused p M W l w
  is_kept l w body q resting waits = in_body (record { resting = resting; body = body; goes_on = goes_on_in w body q; waits = waits })

  -- and then it may give up
  pub gives_up_waiting : {W : Bool → S → Type 0} → ((s : S) → W true s → M.waits s) → (l : EventLog) (w : Thread S) → WaitsInside p M W l w → IsWhy p M w.bodies l.threads.value true (limit_error p)
  gives_up_waiting tells l w x limits may = (refl, λ none. (may none).1 w.bodies (tells w.bodies x.waits))

  -- the step of a thread whose bodies alone went on before
  pub stepped_from : (l : EventLog) (w v : Thread S) (m : EventLog) (x : Thread S) → IsSameThread w v → HasStepped p M l v m x → HasStepped p M l w m x
  stepped_from l w v m x same h = record {
    going = h.going;
    made = record { event = h.made.event; thread = h.made.thread ∙ same.number; events = h.made.events; sees = h.made.sees; threads = h.made.threads };
    just = h.just;
    free = λ n c f. h.free (same.gave_up ∙ n) c (subst (λ (t : ℕ). WaitsFor t l.events.items c) (sym same.number) f);
  }

  -- ---- giving up

  -- where a look is asked for, the thread waits for that class
  pub paused_look : {W : Bool → S → Type 0} (l : EventLog) (w : Thread S) (s : Standing) (c : ClassId) → next_of w.procedure.frames ≡ next.Look c → s ≡ thread_ended w.procedure (limit_error p) → IsPaused p M W l w → Going p M l (record w { procedure = s; gave_up = true })
  paused_look l w s c q is (at_class d g r f used) = gave_up_look p M l w s d r f is g
  paused_look l w s c q is (in_body x) = absurd (no_look w.procedure.frames (body_at w.procedure.frames x.body.requests) c q)

  pub paused_may_end : (l : EventLog) (w : Thread S) (c : ClassId) → next_of w.procedure.frames ≡ next.Look c → MayEndThread w.procedure.frames
  paused_may_end l w c q = let x = looks_at w.procedure c q in subst MayEndThread (sym x.1.frames) tt

  pub paused_body : {W : Bool → S → Type 0} (l : EventLog) (w : Thread S) → ((c : ClassId) → next_of w.procedure.frames ≢ next.Look c) → IsPaused p M W l w → WaitsInside p M W l w
  paused_body l w other (at_class c g q f used) = absurd (other c q)
  paused_body l w other (in_body x) = x

  -- ---- where a turn goes

  pub stands_at : (l : EventLog) (w : Thread S) → is_running w.procedure.frames ≡ false → w.procedure.frames ≢ [] → Resting p M l w → Going p M l w
  stands_at l w q some resting = stands_still l w (λ body. some (not_running w.procedure.frames body.requests q)) resting

  pub before_main : (l : EventLog) (w : Thread S) → w.in_main ≡ false → next_of w.procedure.frames ≡ next.Idle → Resting p M l w → Going p M l w
  before_main l w b q resting = stands_still l w (λ body. by (body_at w.procedure.frames body.requests) q body.main) resting where
    by : {fs : List Frame} → IsBodyAt fs → next_of fs ≡ next.Idle → (fs ≡ [] → w.in_main ≡ true) → ⊥
    by of_main r main = not_both b (main refl)
    by (of_a_class c fs) r main = cc

  pub looks_still : (l : EventLog) (w : Thread S) (c : ClassId) → next_of w.procedure.frames ≡ next.Look c → Resting p M l w → Going p M l w
  looks_still l w c q resting = stands_still l w (λ body. no_look w.procedure.frames (body_at w.procedure.frames body.requests) c q) resting

  pub ends_still : (l : EventLog) (w : Thread S) (c : ClassId) (j : Ending) → next_of w.procedure.frames ≡ next.End c j → Resting p M l w → Going p M l w
  ends_still l w c j q resting = stands_still l w (λ body. by (body_at w.procedure.frames body.requests) q) resting where
    by : {fs : List Frame} → IsBodyAt fs → next_of fs ≡ next.End c j → ⊥
    by of_main r = cc
    by (of_a_class d fs) r = cc

  pub runs_still : (l : EventLog) (w : Thread S) (c : ClassId) → next_of w.procedure.frames ≡ next.Body c → is_running w.procedure.frames ≡ false → Resting p M l w → Going p M l w
  runs_still l w c q n resting = let x = runs_at w.procedure c false q n in stands_at l w n (λ e. let z : frame c (Running false) ∷ x.below ≡ [] = sym x.frames ∙ e in cc) resting

  pub main_rests : (l : EventLog) (w : Thread S) → next_of w.procedure.frames ≡ next.Idle → w.in_main ≡ true → Resting p M l w → IsInBody w
  main_rests l w q b resting = ⊎_elim (λ g. main_body p M l w q b g) (λ x. record { requests = x.doing.body.requests; main = x.doing.body.main }) resting

  -- and else the body that waits is ended
  pub paused_come : {W : Bool → S → Type 0} (l : EventLog) (w : Thread S) → ((c : ClassId) → next_of w.procedure.frames ≢ next.Look c) → IsPaused p M W l w → HasComeTo p M l w
  paused_come l w other h = let x = paused_body l w other h in has_come l w x.body x.resting

  pub paused_fits : {W : Bool → S → Type 0} (l : EventLog) (w : Thread S) (e : ClassId) → e ≡ limit_error p → ((c : ClassId) → next_of w.procedure.frames ≢ next.Look c) → IsPaused p M W l w → FitsBody p (given_up w.procedure.last) (Ended e)
  paused_fits l w e is other h = subst (λ (v : ClassId). FitsBody p (given_up w.procedure.last) (Ended v)) (sym is) (fits_limit w (paused_body l w other h).goes_on)

  pub paused_why : {W : Bool → S → Type 0} → ((s : S) → W true s → M.waits s) → (l : EventLog) (w : Thread S) (e : ClassId) → e ≡ limit_error p → ((c : ClassId) → next_of w.procedure.frames ≢ next.Look c) → IsPaused p M W l w → IsWhy p M w.bodies l.threads.value true e
  paused_why tells l w e is other h = subst (IsWhy p M w.bodies l.threads.value true) (sym is) (gives_up_waiting tells l w (paused_body l w other h))

  pub paused_was : {W : Bool → S → Type 0} (l : EventLog) (w : Thread S) → ((c : ClassId) → next_of w.procedure.frames ≢ next.Look c) → IsPaused p M W l w → w.gave_up ≡ false
  paused_was l w other h = kept_calm l w (paused_body l w other h)

  -- what comes of a step after which it goes on, or has ended
  pub turn_done : (W : Bool → S → Type 0) (l : EventLog) (w x : Thread S) (t : Turn) (o : Option Outcome) → t ≡ turn_by o → GoesOrEnds p M l x o → TurnsTo p M W l w l x t
  turn_done W l w x t None is h = subst (TurnsTo p M W l w l x) (sym is) (inl h, refl)
  turn_done W l w x t (Some r) is h = subst (TurnsTo p M W l w l x) (sym is) (h, refl)

  -- a turn after turns without an event
  pub turns_from : (W : Bool → S → Type 0) (l k : EventLog) (w v : Thread S) (m : EventLog) (x : Thread S) (t : Turn) → k ≡ l → IsSameThread w v → TurnsTo p M W k v m x t → TurnsTo p M W l w m x t
  turns_from W l k w v m x turn.Event is same h = stepped_from l w v m x same (subst (λ (y : EventLog). HasStepped p M y v m x) is h)
  turns_from W l k w v m x turn.Silent is same h = (h.0, h.1 ∙ is)
  turns_from W l k w v m x turn.Comes is same h = (h.0, h.1 ∙ is)
  turns_from W l k w v m x turn.Waits is same h = (h.0, h.1 ∙ is)
  turns_from W l k w v m x (turn.Ended r) is same h = (h.0, h.1 ∙ is)
