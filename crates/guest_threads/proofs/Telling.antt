-- The steps of a thread's procedures, as the calls tell them.
use Rattle.std.proofs.Common.{◌≡◌, ◌≢◌, ℕ, ◌+◌, ◌-◌, ◌≤◌, inl, inr, ⊎_elim, List, [], ◌∷◌, ◌++◌, Option, Some, None, Bool, true, false, length, refl, sym, subst, ap, ◌∙◌, append-nil, arith}
use Rattle.std.specs.List.{AllByRecursion}
use Rattle.hierarchy.specs.declared.built_in.BuiltIn.TheVariants.{NoClassDefFoundError, OutOfMemoryError}
use Rattle.hierarchy.specs.declared.class.ClassId.{ClassId}
use Rattle.hierarchy.specs.LinkedProgram.{LinkedProgram, built_in}
use Rattle.init_core.specs.declared.event.Decision.{Decision}
use Rattle.init_core.specs.declared.event.Decision.TheVariants as decision
use Rattle.init_core.specs.declared.event.Event.{Event}
use Rattle.init_core.specs.declared.event.Kind.{Kind}
use Rattle.init_core.specs.declared.event.Kind.TheVariants as kind
use Rattle.init_core.specs.declared.event.Label.{Label}
use Rattle.init_core.specs.declared.event.Label.TheVariants.{InProgress, Initialized}
use Rattle.init_core.specs.declared.frames.Completed.{Completed}
use Rattle.init_core.specs.declared.frames.Ending.{Ending}
use Rattle.init_core.specs.declared.frames.Ending.TheVariants as ending
use Rattle.init_core.specs.declared.frames.Frame.{Frame}
use Rattle.init_core.specs.declared.frames.Outcome.TheVariants.{Abrupt, Ended, Normal}
use Rattle.init_core.specs.declared.frames.Phase.TheVariants.{Looking, Running, EndingBy}
use Rattle.init_core.specs.declared.procedure.Answer.TheVariants as answer
use Rattle.init_core.specs.declared.procedure.Next.TheVariants as next
use Rattle.init_core.specs.Advance.{Advances, step_2, still_step_2, step_3, step_4, step_5, step_6, LeavesAt, after_word, has_waited, is_running, is_waiting, next_of, started, thread_ended}
use Rattle.init_core.specs.Decisions.{event, entered, kind_of, Decides, waits}
use Rattle.init_core.specs.History.{History}
use Rattle.init_core.specs.Label.{label_of, is_completion}
use Rattle.init_core.specs.Lawful.{Allows, AgreesWithLabels}
use Rattle.init_core.specs.Leads.{frame, standing, kind_of_ending, outcome_of, LeadsOf}
use Rattle.init_core.specs.Needs.{needs}
use Rattle.init_core.specs.Numbers.{IsInRange}
use Rattle.init_core.specs.ProcedureWord.{word, ThreadWordOf, was_ended, gives_up as gave_up_word, IsMachineError, IsOfFiles, given_up}
use Rattle.init_core.specs.ProgramEvents.{IsDoneAt, IsProgramEvent, at_class}
use Rattle.init_core.specs.Standing.{Standing}
use Rattle.init_core.specs.Stands.{begun_classes, ending_error}
use Rattle.init_core.proofs.Errors.{ending_in_range, ending_is_done}
use Rattle.init_core.proofs.Knowing.{AreOuterBelow, needs_begun, word_begun, others_go_on, runs_body, passes_by}
use Rattle.init_core.proofs.Mains.{main_looks}
use Rattle.init_lock.specs.declared.journal.Stamped.{Stamped}
use Rattle.init_lock.specs.Known.{HeldFacts, seen_at, IsSamePass, IsAway}
use Rattle.init_lock.specs.Settled.{KnowsDone}
use Rattle.init_lock.specs.declared.views.PlaceView.{PlaceView}
use Rattle.guest_threads.specs.Drawing.{MayDraw}
use Rattle.guest_threads.proofs.Settled.{is_ready}
use Rattle.bodies.specs.declared.report.Limit.{Limit}
use Rattle.bodies.specs.declared.report.Limit.TheVariants.{Steps, Patience, Memory}
use Rattle.bodies.specs.declared.report.ThreadOutcome.{ThreadOutcome}
use Rattle.bodies.specs.declared.report.ThreadOutcome.TheVariants as outcome
use Rattle.bodies.specs.Making.{Making, maker_of}
use Rattle.bodies.proofs.ThreadSteps.{end_leads_at}
use Rattle.guest_threads.specs.declared.guarded.Guarded.{Guarded}
use Rattle.guest_threads.specs.declared.task.Work.{Work}
use Rattle.guest_threads.specs.declared.work.Worked.{Worked}
use Rattle.guest_threads.specs.Tasks.{TaskFacts, error_of, room_of, IsWhy, IsLimitOf}
use Rattle.bodies.specs.Runs.{IsOutcome}
use Rattle.guest_threads.specs.ThreadWork.{IsDone}
use Rattle.guest_threads.specs.Working.{Working, Works, StandsAt, Took, GaveBack, drawn, seen_of}
use Rattle.bodies.proofs.Asking.{IsAt, looks_at, runs_at, ends_at, in_files, gives_up, gives_up_run, ends, is_told, look_last, run_last}
use Rattle.bodies.proofs.Counting.{one_less, has_last, error_after}
use Rattle.guest_threads.proofs.Passing.{View, OuterOf, IdleOf, one, nothing as none_made, goes_of, outer_of, answered_at, told, with_record, with_ready, visited, drew, drawn_more, same_on, stepped, look_made}

pub machine_of : (p : LinkedProgram) (l : Limit) → IsMachineError p (error_of p l)
machine_of p Memory = inr refl
machine_of p Steps = inl refl
machine_of p Patience = inl refl

-- a look that isn't in vain makes one event
pub entered_once : (t : ℕ) (c : ClassId) (d : Decision) → d ≢ decision.Waits false → entered t c d ≡ event t c (kind_of d) ∷ []
entered_once t c (decision.Waits true) n = refl
entered_once t c (decision.Waits false) n = absurd (n refl)
entered_once t c decision.Recurs n = refl
entered_once t c decision.FindsInitialized n = refl
entered_once t c decision.FindsErroneous n = refl
entered_once t c decision.Begins n = refl

pub entered_none : (t : ℕ) (c : ClassId) (d : Decision) → d ≡ decision.Waits false → entered t c d ≡ []
entered_none t c d e = ap (λ (z : Decision). entered t c z) e

ending_allowed : (k : Ending) {l : Label} {t : ℕ} → l ≡ InProgress t → Allows l t (kind_of_ending k)
ending_allowed ending.Completes e = e
ending_allowed (ending.SuperFails x) e = e
ending_allowed (ending.Fails x) e = e

stays : (p : LinkedProgram) (t : ℕ) {s z : Standing} {made : List Event} → Advances p t s (answer.Decided (decision.Waits false)) made z → s.last ≡ None → z ≡ s
stays p t (still_step_2 {c = c} {fs = fs} {waited = w}) e = ap (λ (o : Option Completed). standing (frame c (Looking w) ∷ fs) o) (sym e)

-- a look begins a class where it takes room for the step that ends it, and else none
begun_more : (p : LinkedProgram) (t : ℕ) {s z : Standing} {d : Decision} {made : List Event} → Advances p t s (answer.Decided d) made z → AreOuterBelow s.frames → length (begun_classes z.frames) + 1 ≤ length (begun_classes s.frames) + room_of d
begun_more p t step_2 n = omega arith
begun_more p t still_step_2 n = omega arith
begun_more p t (step_3 {c = c} {fs = fs}) n = let e = ap length (word_begun fs c Normal n) in omega arith
begun_more p t (step_4 {c = c} {fs = fs}) n = let e = ap length (word_begun fs c Normal n) in omega arith
begun_more p t (step_5 {c = c} {fs = fs}) n = let e = ap length (word_begun fs c (Abrupt (built_in p NoClassDefFoundError)) n) in omega arith
begun_more p t (step_6 {c = c} {fs = fs}) n = let e = ap length (needs_begun c (needs p c) fs) in omega arith

-- what a record was given is what is drawn
pub keeps_drawn : {p : LinkedProgram} {c : ClassId} {x y : View} {h : HeldFacts Guarded} → Took p c x y h → (found : History) → found ≡ h.kept.record → (after : List Event) (t : ℕ) (j : Kind) (e : Event) → after ≡ found.events ++ event t found.class j ∷ [] → e ≡ event t c j →
    after ≡ seen_at h.place y.places ++ e ∷ []
keeps_drawn {c = c} {y = y} {h = h} took found kept after t j e more is =
    let before : found.events ≡ seen_at h.place y.places = ap (λ (r : History). r.events) kept ∙ sym (ap (λ n. seen_at n y.places) took.place ∙ took.seen) in
    let given : event t found.class j ≡ e = ap (λ (d : ClassId). event t d j) (ap (λ (r : History). r.class) kept ∙ took.class) ∙ sym is in
    more ∙ (ap (λ (es : List Event). es ++ event t found.class j ∷ []) before ∙ ap (λ (z : Event). seen_at h.place y.places ++ z ∷ []) given)

module _ {S : Type 0} (M : Making S) (k : TaskFacts S) where
  -- the machine doesn't end a thread that looks
  pub look_goes_on : (w : Work S) (c : ClassId) → next_of w.procedure.frames ≡ next.Look c → Working M k w → ending_error w.procedure ≡ None
  look_goes_on w c q o =
      let l = looks_at w.procedure c q in
      ap (λ (fs : List Frame). ending_error (standing fs w.procedure.last)) l.1.frames ∙ ap given_up (look_last l.1 o.stands.leads)

  -- the request gave up
  pub gave_up : (w : Work S) (s : Standing) (c : ClassId) (l : Limit) → next_of w.procedure.frames ≡ next.Look c → IsLimitOf M k w.bodies l → s ≡ thread_ended w.procedure (error_of k.program l) → Working M k w → Working M k (record w { procedure = s; why = l })
  gave_up w s c l q limit is o =
      let e = error_of k.program l in
      let step : Advances k.program k.number w.procedure (answer.GaveUp e false) [] s = gives_up k.program k.number w.procedure c e s q (machine_of k.program l) is in
      let none = look_goes_on w c q o in
      told M k w s (answer.GaveUp e false) w.bodies l step refl (λ y r. ⊎_elim (λ z. absurd (let no_way : None ≡ Some y = sym none ∙ z in cc)) (λ z. subst (IsWhy M k w.bodies l) z limit)
      (error_after k.program k.number step (outer_of M k w.in_main w.procedure (drawn w.pass.journal) (seen_of w.pass) w.bodies o.stands) y r)) o

  -- step 9 can't be made since memory ran out
  pub gave_up_run : (w : Work S) (s : Standing) (c e : ClassId) → next_of w.procedure.frames ≡ next.Body c → is_running w.procedure.frames ≡ false → e ≡ built_in k.program OutOfMemoryError → LeavesAt k.program w.procedure (answer.GaveUp e true) s → Working M k w → Working M k (record w { procedure = s; why = Memory })
  gave_up_run w s c e q n is_error is o =
      let oom : ClassId = built_in k.program OutOfMemoryError in
      let at : IsAt w.procedure c (Running false) = runs_at w.procedure c false q n in
      let none : ending_error w.procedure ≡ None = ap (λ (fs : List Frame). ending_error (standing fs w.procedure.last)) at.frames ∙ ap given_up (run_last at o.stands.leads) in
      let step : Advances k.program k.number w.procedure (answer.GaveUp oom true) [] s = is_told k.program k.number w.procedure s (answer.GaveUp oom true) (gives_up_run k.program k.number w.procedure c q n) (subst (λ (y : ClassId). LeavesAt k.program w.procedure (answer.GaveUp y true) s) is_error is) in
      told M k w s (answer.GaveUp oom true) w.bodies Memory step refl (λ y r. ⊎_elim (λ z. absurd (let no_way : None ≡ Some y = sym none ∙ z in cc)) (λ z. sym z)
      (error_after k.program k.number step (outer_of M k w.in_main w.procedure (drawn w.pass.journal) (seen_of w.pass) w.bodies o.stands) y r)) o

  -- step 9 was made
  pub ran : (w : Work S) (s : Standing) (z : S) (c : ClassId) (y : View) (made : Stamped Event) → next_of w.procedure.frames ≡ next.Body c → is_running w.procedure.frames ≡ false → IsSamePass w.pass y → y.journal ≡ w.pass.journal ++ made ∷ [] → made.event ≡ event k.number c kind.Runs → y.places ≡ w.pass.places → s ≡ started w.procedure None → M.starts w.bodies c z →
      y.room + 1 ≡ w.pass.room → 1 ≤ w.slack → Working M k w → Working M k (record w { pass = y; procedure = s; bodies = z; slack = w.slack - 1 })
  ran w s z c y made q n same journal is_run places is starts room slack o =
      let at : IsAt w.procedure c (Running false) = runs_at w.procedure c false q n in
      let none : w.procedure.last ≡ None = run_last at o.stands.leads in
      let from : w.procedure ≡ standing (frame c (Running false) ∷ at.below) None = ap (λ (fs : List Frame). standing fs w.procedure.last) at.frames ∙ ap (λ (l : Option Completed). standing (frame c (Running false) ∷ at.below) l) none in
      let to : s ≡ standing (frame c (Running true) ∷ at.below) None = is ∙ ap (λ (v : Standing). started v None) from in
      let few : length (begun_classes s.frames) ≡ length (begun_classes w.procedure.frames) = ap (λ (v : Standing). length (begun_classes v.frames)) to ∙ ap (λ (v : Standing). length (begun_classes v.frames)) (sym from) in
      drew M k w s z (w.slack - 1) w.looks y made (event k.number c kind.Runs) is_run same journal places (at_class kind.Runs o.works.within (in_files k.program w.procedure c (Running false) at o.stands.files) tt)
      (λ st. subst (λ (v : Standing). StandsAt M k w.in_main v (drawn w.pass.journal ++ event k.number c kind.Runs ∷ []) (seen_of w.pass) z) (sym to) (runs_body k.program k.number (maker_of k.program M) (OuterOf M k w.in_main) (IdleOf M k w.in_main) (goes_of M k w.in_main) starts
      (subst (λ (v : Standing). StandsAt M k w.in_main v (drawn w.pass.journal) (seen_of w.pass) w.bodies) from st)))
      (λ b e. absurd (let gone : frame c (Running true) ∷ at.below ≡ [] = ap (λ (v : Standing). v.frames) (sym to) ∙ e in cc))
      (λ x e. absurd (let none_ends : None ≡ Some x = ap ending_error (sym to) ∙ e in cc))
      (let r = o.room in omega arith) o

  -- what the look finds says whether the request waits
  pub look_waits : (w : Work S) (c : ClassId) (y : View) (h : HeldFacts Guarded) (found : History) → next_of w.procedure.frames ≡ next.Look c → Took k.program c w.pass y h → found ≡ h.kept.record → Working M k w → waits k.number found.events ≡ is_waiting found.class w.procedure.frames
  look_waits w c y h found q took kept o =
      let st = with_record M k w c y h took o in
      let same : waits k.number h.kept.record.events ≡ is_waiting c w.procedure.frames = ap (waits k.number) (sym took.seen) ∙ st.waiting (look_goes_on w c q o) c in
      let of_class : found.class ≡ c = ap (λ (r : History). r.class) kept ∙ took.class in
      ap (λ (r : History). waits k.number r.events) kept ∙ (same ∙ ap (λ (d : ClassId). is_waiting d w.procedure.frames) (sym of_class))

  -- a look
  pub looked : (w : Work S) (s : Standing) (slack : ℕ) (c : ClassId) (y v : View) (h : HeldFacts Guarded) (n : ℕ) (d : Decision) (found : History) (events : List Event) → next_of w.procedure.frames ≡ next.Look c → n ≡ c.number → Took k.program c w.pass y h → found ≡ h.kept.record → Decides (label_of found.events) k.number d →
      Advances k.program k.number w.procedure (answer.Decided d) (entered k.number found.class d) s → events ≡ found.events ++ entered k.number found.class d → GaveBack n events y v → drawn v.journal ≡ drawn y.journal ++ entered k.number c d →
      (length (begun_classes s.frames) + 1 ≤ length (begun_classes w.procedure.frames) + room_of d → length (begun_classes s.frames) + slack ≤ v.room) → Working M k w → Working M k (record w { pass = v; procedure = s; slack = slack })
  looked w s slack c y v h n d found events q place took kept ok step more back journal room o =
      let of_class : found.class ≡ c = ap (λ (r : History). r.class) kept ∙ took.class in
      let its : found.events ≡ h.kept.record.events = ap (λ (r : History). r.events) kept in
      let here : Advances k.program k.number w.procedure (answer.Decided d) (entered k.number c d) s = subst (λ (b : ClassId). Advances k.program k.number w.procedure (answer.Decided d) (entered k.number b d) s) of_class step in
      let decides : Decides (label_of h.kept.record.events) k.number d = subst (λ (es : List Event). Decides (label_of es) k.number d) its ok in
      let l = looks_at w.procedure c q in
      let outer = outer_of M k w.in_main w.procedure (drawn w.pass.journal) (seen_of w.pass) w.bodies o.stands in
      let none = look_goes_on w c q o in
      visited M k w s w.bodies slack w.looks c y v h n events (entered k.number c d) place took back
      (more ∙ (ap (λ (es : List Event). es ++ entered k.number found.class d) its ∙ ap (λ (b : ClassId). h.kept.record.events ++ entered k.number b d) of_class))
      journal (look_made k.program k.number c h.kept.record.events d decides) (in_files k.program w.procedure c (Looking l.0) l.1 o.stands.files)
      (λ sees st. answered_at M k w.in_main w.procedure s (answer.Decided d) (entered k.number c d) (drawn w.pass.journal) (seen_of y) (seen_of v) w.bodies w.bodies here refl sees st)
      (λ b. has_last k.program k.number here)
      (λ x e. ⊎_elim (λ z. absurd (let no_way : None ≡ Some x = sym none ∙ z in cc)) (λ z. absurd z) (error_after k.program k.number here outer x e))
      (room (begun_more k.program k.number here outer)) o

  -- a class was passed without its lock
  pub passed : (w : Work S) (s : Standing) (c : ClassId) (y v : View) (made : Stamped Event) → next_of w.procedure.frames ≡ next.Look c → has_waited w.procedure.frames ≡ false → KnowsDone MayDraw is_completion AgreesWithLabels c.number w.pass y →
      IsSamePass y v → v.journal ≡ y.journal ++ made ∷ [] → made.event ≡ event k.number c kind.FindsInitialized → v.places ≡ y.places → v.room + 1 ≡ y.room → 2 ≤ w.slack →
      ((f : Frame) (fs : List Frame) → w.procedure.frames ≡ f ∷ fs → s ≡ after_word fs f.class Normal) → Working M k w → Working M k (record w { pass = v; procedure = s; slack = w.slack - 1 })
  passed w s c y v made q fresh knows same journal is_four places room slack is o =
      let e : Event = event k.number c kind.FindsInitialized in
      let l = looks_at w.procedure c q in
      let below : List Frame = l.1.below in
      let waited : l.0 ≡ false = ap has_waited (sym l.1.frames) ∙ fresh in
      let frames : w.procedure.frames ≡ frame c (Looking false) ∷ below = l.1.frames ∙ ap (λ (b : Bool). frame c (Looking b) ∷ below) waited in
      let from : w.procedure ≡ standing (frame c (Looking false) ∷ below) w.procedure.last = ap (λ (fs : List Frame). standing fs w.procedure.last) frames in
      let to : s ≡ after_word below c Normal = is (frame c (Looking false)) below frames in
      let outer : AreOuterBelow w.procedure.frames = outer_of M k w.in_main w.procedure (drawn w.pass.journal) (seen_of w.pass) w.bodies o.stands in
      let few : length (begun_classes s.frames) ≡ length (begun_classes w.procedure.frames) =
      ap (λ (z : Standing). length (begun_classes z.frames)) to ∙ (ap length (word_begun below c Normal (subst AreOuterBelow frames outer)) ∙ sym (ap (λ (fs : List Frame). length (begun_classes fs)) frames)) in
      let step : Advances k.program k.number w.procedure (answer.Decided decision.FindsInitialized) (e ∷ []) s =
      subst (λ (z : Standing × Standing). Advances k.program k.number z.0 (answer.Decided decision.FindsInitialized) (e ∷ []) z.1) (λ i. (sym from i, sym to i)) step_4 in
      let none = look_goes_on w c q o in
      let ready : label_of (seen_of y c) ≡ Initialized = is_ready (seen_of y c) knows.lawful_now knows.settled_now in
      let st : StandsAt M k w.in_main (after_word below c Normal) (drawn w.pass.journal ++ e ∷ []) (seen_of y) w.bodies =
      passes_by k.program k.number (maker_of k.program M) (OuterOf M k w.in_main) (IdleOf M k w.in_main) (goes_of M k w.in_main) ready
      (subst (λ (z : Standing). StandsAt M k w.in_main z (drawn w.pass.journal) (seen_of y) w.bodies) from (with_ready M k w c y knows o)) in
      let own : drawn v.journal ≡ drawn w.pass.journal ++ e ∷ [] = ap drawn journal ∙ (drawn_more y.journal made ∙ (λ i. drawn (knows.journal i) ++ is_four i ∷ [])) in
      stepped M k w v s w.bodies w.why (w.slack - 1) w.looks (e ∷ []) o (same_on w.pass y v knows.same same) (subst IsAway (sym places) (knows.away o.works.away)) own
      (at_class kind.FindsInitialized o.works.within (in_files k.program w.procedure c (Looking l.0) l.1 o.stands.files) tt, tt)
      (subst (λ (z : Standing). StandsAt M k w.in_main z (drawn w.pass.journal ++ e ∷ []) (seen_of v) w.bodies) (sym to)
      (subst (λ (ps : List (PlaceView Guarded Event)). StandsAt M k w.in_main (after_word below c Normal) (drawn w.pass.journal ++ e ∷ []) (λ d. seen_at d.number ps) w.bodies) (sym places) st))
      (λ b. has_last k.program k.number step)
      (λ x r. ⊎_elim (λ z. absurd (let no_way : None ≡ Some x = sym none ∙ z in cc)) (λ z. absurd z) (error_after k.program k.number step outer x r))
      (let r = o.room in let t = knows.room in omega arith)

  -- a look in vain again
  pub looked_again : (w : Work S) (s : Standing) (c : ClassId) (d : Decision) (made : List Event) → next_of w.procedure.frames ≡ next.Look c → d ≡ decision.Waits false → Advances k.program k.number w.procedure (answer.Decided d) made s → Working M k w → s ≡ w.procedure
  looked_again w s c d made q again step o =
      stays k.program k.number (subst (λ (v : Decision). Advances k.program k.number w.procedure (answer.Decided v) made s) again step) (look_last (looks_at w.procedure c q).1 o.stands.leads)

  -- a record went back as it was found
  pub untouched : (w : Work S) (c : ClassId) (y v : View) (h : HeldFacts Guarded) (n : ℕ) (events : List Event) (found : History) → IsOfFiles k.program c → n ≡ c.number → events ≡ found.events → found ≡ h.kept.record → Took k.program c w.pass y h → GaveBack n events y v → v.journal ≡ y.journal → v.room ≡ y.room → Working M k w → Working M k (record w { pass = v })
  untouched w c y v h n events found within place same kept took back journal room o =
      visited M k w w.procedure w.bodies w.slack w.looks c y v h n events [] place took back
      (same ∙ (ap (λ (r : History). r.events) kept ∙ sym (append-nil h.kept.record.events))) (ap drawn journal ∙ sym (append-nil (drawn y.journal))) none_made within
      (λ sees st. subst (λ (es : List Event). StandsAt M k w.in_main w.procedure es (seen_of v) w.bodies) (sym (append-nil (drawn w.pass.journal)))
      (others_go_on k.program k.number (maker_of k.program M) (OuterOf M k w.in_main) (IdleOf M k w.in_main) (goes_of M k w.in_main) sees (λ d. tt) st))
      o.begun o.reason (let r = o.room in let q = took.room in omega arith) o

  -- before the step that ends a class, this is known of its record
  pub end_label : (w : Work S) (c : ClassId) (j : Ending) (y : View) (h : HeldFacts Guarded) → next_of w.procedure.frames ≡ next.End c j → Took k.program c w.pass y h → Working M k w → label_of h.kept.record.events ≡ InProgress k.number
  end_label w c j y h q took o =
      let l = ends_at w.procedure c j q in
      let st = with_record M k w c y h took o in
      let mine : AllByRecursion (λ d. label_of (seen_of y d) ≡ InProgress k.number) (begun_classes (frame c (EndingBy j l.0) ∷ l.1.below)) = subst (λ (fs : List Frame). AllByRecursion (λ d. label_of (seen_of y d) ≡ InProgress k.number) (begun_classes fs)) l.1.frames st.mine in
      ap label_of (sym took.seen) ∙ mine.0

  -- and of the step
  pub end_done : (w : Work S) (c : ClassId) (j : Ending) → next_of w.procedure.frames ≡ next.End c j → Working M k w → IsDoneAt k.program c (kind_of_ending j)
  end_done w c j q o =
      let l = ends_at w.procedure c j q in
      ending_is_done k.program k.number c j l.0 l.1.below w.procedure.last (drawn w.pass.journal)
      (end_leads_at M k.program k.number k.start k.main w.in_main o.main (subst (λ (fs : List Frame). LeadsOf k.program k.number (maker_of k.program M) (OuterOf M k w.in_main) (IdleOf M k w.in_main) (standing fs w.procedure.last) (drawn w.pass.journal) w.bodies) l.1.frames o.stands.leads))

  pub end_range : (w : Work S) (c : ClassId) (j : Ending) → next_of w.procedure.frames ≡ next.End c j → Working M k w → IsInRange (kind_of_ending j)
  end_range w c j q o = ending_in_range k.program c j o.works.places.few_classes (end_done w c j q o)

  -- a class is ended
  pub ended : (w : Work S) (s : Standing) (c : ClassId) (j : Ending) (y v : View) (h : HeldFacts Guarded) (n : ℕ) (found : History) (events : List Event) → next_of w.procedure.frames ≡ next.End c j → n ≡ c.number → Took k.program c w.pass y h → found ≡ h.kept.record →
      ((d : ClassId) (i : Ending) (by_machine : Bool) (fs : List Frame) → w.procedure.frames ≡ frame d (EndingBy i by_machine) ∷ fs → s ≡ after_word fs d (outcome_of i by_machine)) →
      events ≡ found.events ++ event k.number found.class (kind_of_ending j) ∷ [] → GaveBack n events y v → drawn v.journal ≡ drawn y.journal ++ event k.number c (kind_of_ending j) ∷ [] → v.room + 1 ≡ y.room → Working M k w → Working M k (record w { pass = v; procedure = s })
  ended w s c j y v h n found events q place took kept is more back journal room o =
      let of_class : found.class ≡ c = ap (λ (r : History). r.class) kept ∙ took.class in
      let its : found.events ≡ h.kept.record.events = ap (λ (r : History). r.events) kept in
      let step : Advances k.program k.number w.procedure answer.Ended (event k.number c (kind_of_ending j) ∷ []) s = ends k.program k.number w.procedure c s j q is in
      let l = ends_at w.procedure c j q in
      let outer = outer_of M k w.in_main w.procedure (drawn w.pass.journal) (seen_of w.pass) w.bodies o.stands in
      visited M k w s w.bodies w.slack w.looks c y v h n events (event k.number c (kind_of_ending j) ∷ []) place took back
      (more ∙ (ap (λ (es : List Event). es ++ event k.number found.class (kind_of_ending j) ∷ []) its ∙ ap (λ (b : ClassId). h.kept.record.events ++ event k.number b (kind_of_ending j) ∷ []) of_class))
      journal (one (kind_of_ending j) (ending_allowed j (end_label w c j y h q took o)) (end_done w c j q o)) (in_files k.program w.procedure c (EndingBy j l.0) l.1 o.stands.files)
      (λ sees st. answered_at M k w.in_main w.procedure s answer.Ended (event k.number c (kind_of_ending j) ∷ []) (drawn w.pass.journal) (seen_of y) (seen_of v) w.bodies w.bodies step refl sees st)
      (λ b. has_last k.program k.number step)
      (λ x e. ⊎_elim (λ z. o.reason x z) (λ z. absurd z) (error_after k.program k.number step outer x e))
      (let f = one_less k.program k.number step outer in let r = o.room in let t = took.room in omega arith) o

  -- the request of the main class
  pub starts : (x : View) (s : Standing) (z : S) → IsOfFiles k.program k.main → Works k.program k.table k.number x → x.journal ≡ [] → ((n : ℕ) → seen_at n x.places ≡ []) → s ≡ standing (frame k.main (Looking false) ∷ []) None → z ≡ k.start →
      Working M k (record { pass = x; procedure = s; bodies = z; in_main = false; why = Memory; slack = 0; looks = 0 })
  starts x s z within works none seen is first = record {
    main = within;
    works = works;
    stands = subst (λ (v : Standing). StandsAt M k false v (drawn x.journal) (seen_of x) z) (sym is) (subst (λ (u : S). StandsAt M k false (standing (frame k.main (Looking false) ∷ []) None) (drawn x.journal) (seen_of x) u) (sym first)
        (subst (λ (js : List (Stamped Event)). StandsAt M k false (standing (frame k.main (Looking false) ∷ []) None) (drawn js) (seen_of x) k.start) (sym none) (record {
          leads = main_looks k.program k.number (maker_of k.program M) k.start k.main;
          files = ((within, tt), tt);
          mine = tt;
          different = tt;
          waiting = λ e d. ap (waits k.number) (seen d.number);
          used = λ d q. cc;
        })));
    events = subst (λ (js : List (Stamped Event)). AllByRecursion (λ e. IsProgramEvent k.program k.table.threads e) (drawn js)) (sym none) tt;
    begun = λ b e. absurd (let gone : frame k.main (Looking false) ∷ [] ≡ [] = ap (λ (v : Standing). v.frames) (sym is) ∙ e in cc);
    reason = λ e q. absurd (let none_ends : None ≡ Some e = ap ending_error (sym is) ∙ q in cc);
    room = (let few : length (begun_classes s.frames) ≡ 0 = ap (λ (v : Standing). length (begun_classes v.frames)) is in omega arith);
  }

  -- a thread whose first request was refused memory, or which never began
  pub refused : (w : Worked) → w.pass.number ≡ k.number → w.outcome ≡ outcome.Ended Memory → w.pass.journal ≡ [] → IsDone k.program M k.start k.table k.limits k.main w
  refused w number how none = record {
    run = record {
      result = Ended (built_in k.program OutOfMemoryError);
      end = k.start;
      word = subst (λ (js : List (Stamped Event)). ThreadWordOf k.program w.pass.number (maker_of k.program M) k.start k.main (drawn js) (Ended (built_in k.program OutOfMemoryError)) k.start) (sym none) (was_ended (word false (gave_up_word (inr refl))));
      outcome = subst (λ (x : ThreadOutcome). IsOutcome k.program M k.limits k.start (Ended (built_in k.program OutOfMemoryError)) x) (sym how) refl;
    };
    events = subst (λ (js : List (Stamped Event)). AllByRecursion (λ e. IsProgramEvent k.program k.table.threads e) (drawn js)) (sym none) tt;
  }
