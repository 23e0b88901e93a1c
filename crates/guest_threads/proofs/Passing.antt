-- What the steps of a thread leave of what it knows.
use Rattle.std.proofs.Common.{◌≡◌, ◌≢◌, ℕ, ◌+◌, ◌<◌, ◌≤◌, List, [], ◌∷◌, ◌++◌, Option, Some, None, Bool, true, false, ◌==◌, cond, length, refl, sym, subst, ap, ◌∙◌, eq-eqb, append-nil, arith}
use Rattle.std.specs.List.{AllByRecursion}
use Rattle.std.proofs.lemmas.Bool.{eqb-true}
use Rattle.hierarchy.specs.declared.class.ClassId.{ClassId}
use Rattle.hierarchy.specs.LinkedProgram.{LinkedProgram, id}
use Rattle.init_core.specs.declared.event.Decision.{Decision}
use Rattle.init_core.specs.declared.event.Decision.TheVariants as decision
use Rattle.init_core.specs.declared.event.Event.{Event}
use Rattle.init_core.specs.declared.event.Kind.{Kind}
use Rattle.init_core.specs.declared.event.Kind.TheVariants as kind
use Rattle.init_core.specs.declared.frames.Completed.{Completed}
use Rattle.init_core.specs.declared.frames.Outcome.{Outcome}
use Rattle.init_core.specs.declared.procedure.Answer.{Answer}
use Rattle.init_core.specs.Advance.{Advances}
use Rattle.init_core.specs.Decisions.{event, entered, Decides}
use Rattle.init_core.specs.Interleaving.{of_class}
use Rattle.init_core.specs.Label.{label_of, is_completion}
use Rattle.init_core.specs.Lawful.{Allows, AgreesAfter, AgreesWithLabels}
use Rattle.init_core.specs.ProcedureWord.{Word, IsOfFiles, completed}
use Rattle.init_core.specs.ProgramEvents.{IsDoneAt, IsProgramEvent, at_class}
use Rattle.init_core.specs.Standing.{Standing}
use Rattle.init_core.specs.Stands.{SeesMore, AreOfOthers, begun_classes, ending_error}
use Rattle.init_core.proofs.Knowing.{AreOuterBelow, leads_outer, others_go_on, takes_answer}
use Rattle.init_core.proofs.Leading.{Makes}
use Rattle.init_lock.specs.declared.journal.Stamped.{Stamped}
use Rattle.init_lock.specs.declared.views.PlaceView.{PlaceView}
use Rattle.init_lock.specs.Known.{PassFacts, HeldFacts, TableFacts, seen_at, IsSamePass, IsAway}
use Rattle.init_lock.specs.Log.{Grew}
use Rattle.init_lock.specs.Settled.{KnowsDone}
use Rattle.bodies.specs.declared.report.Limit.{Limit}
use Rattle.bodies.specs.Making.{Making, maker_of}
use Rattle.bodies.specs.ThreadStands.{OutsideOf, NoneOpenOf}
use Rattle.guest_threads.specs.declared.guarded.Guarded.{Guarded}
use Rattle.guest_threads.specs.declared.task.Work.{Work}
use Rattle.guest_threads.specs.Tasks.{TaskFacts, IsWhy}
use Rattle.guest_threads.specs.Working.{Working, Works, StandsAt, Took, GaveBack, Finds, ArePrepared, drawn, seen_of}
use Rattle.guest_threads.specs.Drawing.{MayDraw}
use Rattle.guest_threads.proofs.Finding.{finds_ready}
use Rattle.bodies.proofs.Counting.{few_more, has_last}
use Rattle.bodies.proofs.ThreadSteps.{goes_of as thread_goes_of}

abbrev pub View : Type 0
View = PassFacts Guarded Event

pub same_on : (x y z : View) → IsSamePass x y → IsSamePass y z → IsSamePass x z
same_on x y z a b = record { table = b.table ∙ a.table; number = b.number ∙ a.number; opening = b.opening ∙ a.opening }

pub works_on : (p : LinkedProgram) (table : TableFacts) (t : ℕ) (x y : View) → Works p table t x → IsSamePass x y → IsAway y.places → Works p table t y
works_on p table t x y w s a = record {
  places = w.places;
  of_table = s.table ∙ w.of_table;
  number = s.number ∙ w.number;
  within = w.within;
  away = a;
  prepared = subst (ArePrepared p) (sym s.opening) w.prepared;
  whole = subst (λ (rs : List Guarded). length p.classes ≤ length rs) (sym s.opening) w.whole;
}

pub drawn_more : (js : List (Stamped Event)) (s : Stamped Event) → drawn (js ++ s ∷ []) ≡ drawn js ++ s.event ∷ []
drawn_more [] s = refl
drawn_more (x ∷ js) s = ap (λ (z : List Event). x.event ∷ z) (drawn_more js s)

pub all_both : {A : Type 0} (Q : A → Type 0) (xs ys : List A) → AllByRecursion Q xs → AllByRecursion Q ys → AllByRecursion Q (xs ++ ys)
all_both Q [] ys a b = b
all_both Q (x ∷ xs) ys a b = (a.0, all_both Q xs ys a.1 b)

-- ---- what is seen

-- these events at one class
abbrev at_one : ClassId → List Event → ClassId → List Event
at_one c more d = cond (c.number == d.number) more []

same_class : (c d : ClassId) → (c.number == d.number) ≡ true → c ≡ d
same_class c d e = ap id (eqb-true c.number d.number e)

other_class : (c d : ClassId) → (c.number == d.number) ≡ false → d.number ≢ c.number
other_class c d e q = let z : (c.number == d.number) ≡ true = eq-eqb c.number d.number (sym q) in let no_way : false ≡ true = sym e ∙ z in cc

module _ (c : ClassId) (before now : ClassId → List Event) where
  sees_here : (more : List Event) → now c ≡ before c ++ more → ((d : ClassId) → d.number ≢ c.number → now d ≡ before d) → AgreesAfter (before c) more → SeesMore before (at_one c more) now
  sees_here more here others agrees = record { adds = λ d. adds_at d (c.number == d.number) refl; agrees = λ d. agrees_at d (c.number == d.number) refl } where
    adds_at : (d : ClassId) (b : Bool) → (c.number == d.number) ≡ b → now d ≡ before d ++ cond b more []
    adds_at d true e = subst (λ (x : ClassId). now x ≡ before x ++ more) (same_class c d e) here
    adds_at d false e = others d (other_class c d e) ∙ sym (append-nil (before d))

    agrees_at : (d : ClassId) (b : Bool) → (c.number == d.number) ≡ b → AgreesAfter (before d) (cond b more [])
    agrees_at d true e = subst (λ (x : ClassId). AgreesAfter (before x) more) (same_class c d e) agrees
    agrees_at d false e = tt

-- what a thread makes of a class under its lock, where this was found: no event, or one that the label allows
pub data IsMade (p : LinkedProgram) (t : ℕ) (c : ClassId) (found : List Event) : List Event → Type 0 where
  nothing : IsMade p t c found []
  one : (k : Kind) → Allows (label_of found) t k → IsDoneAt p c k → IsMade p t c found (event t c k ∷ [])

module _ (p : LinkedProgram) (t : ℕ) (c : ClassId) (before now : ClassId → List Event) where
  sees_made : {found made : List Event} → IsMade p t c found made → before c ≡ found → now c ≡ found ++ made → ((d : ClassId) → d.number ≢ c.number → now d ≡ before d) → SeesMore before (λ d. of_class d made) now
  sees_made {found = found} nothing was here others = record { adds = λ d. adds_at d (c.number == d.number) refl; agrees = λ d. tt } where
    adds_at : (d : ClassId) (b : Bool) → (c.number == d.number) ≡ b → now d ≡ before d ++ []
    adds_at d true e = subst (λ (x : ClassId). now x ≡ before x ++ []) (same_class c d e) (here ∙ ap (λ (es : List Event). es ++ []) (sym was))
    adds_at d false e = others d (other_class c d e) ∙ sym (append-nil (before d))
  sees_made (one k allowed done) was here others =
      sees_here c before now (event t c k ∷ []) (here ∙ ap (λ (es : List Event). es ++ event t c k ∷ []) (sym was)) others (subst (λ (es : List Event). Allows (label_of es) t k) (sym was) allowed, tt)

made_events : (p : LinkedProgram) (n t : ℕ) (c : ClassId) {found made : List Event} → t < n → IsOfFiles p c → IsMade p t c found made → AllByRecursion (λ e. IsProgramEvent p n e) made
made_events p n t c low within nothing = tt
made_events p n t c low within (one k allowed done) = (at_class k low within done, tt)

-- a look
pub look_made : (p : LinkedProgram) (t : ℕ) (c : ClassId) (found : List Event) (d : Decision) → Decides (label_of found) t d → IsMade p t c found (entered t c d)
look_made p t c found (decision.Waits true) ok = one kind.Waits ok tt
look_made p t c found (decision.Waits false) ok = nothing
look_made p t c found decision.Recurs ok = one kind.Recurs ok tt
look_made p t c found decision.FindsInitialized ok = one kind.FindsInitialized ok tt
look_made p t c found decision.FindsErroneous ok = one kind.FindsErroneous ok tt
look_made p t c found decision.Begins ok = one kind.Begins ok tt

-- what a thread makes under no lock
pub seen_same : (x y : View) → y.places ≡ x.places → SeesMore (seen_of x) (λ d. []) (seen_of y)
seen_same x y e = record { adds = λ d. ap (λ (ps : List (PlaceView Guarded Event)). seen_at d.number ps) e ∙ sym (append-nil (seen_of x d)); agrees = λ d. tt }

-- what may come before a request from outside of any class
abbrev pub OuterOf : {S : Type 0} → Making S → TaskFacts S → Bool → ClassId → List Event → S → Type 0
OuterOf M k b = OutsideOf k.program k.number M k.start k.main b

-- what comes there where no class is open
abbrev pub IdleOf : {S : Type 0} → Making S → TaskFacts S → Bool → Option Completed → List Event → S → Type 0
IdleOf M k b = NoneOpenOf k.program k.number M k.start k.main b

module _ {S : Type 0} (M : Making S) (k : TaskFacts S) where
  -- the procedure for a class is completed outside of any class
  pub goes_of : (b : Bool) (c : ClassId) (xs w : List Event) (r : Outcome) (y z : S) → OuterOf M k b c xs y → Word k.program k.number (maker_of k.program M) y c w r z → IdleOf M k b (Some (completed c r)) (xs ++ w) z
  goes_of b = thread_goes_of M k.program k.number k.start k.main b

  pub outer_of : (b : Bool) (s : Standing) (own : List Event) (seen : ClassId → List Event) (z : S) → StandsAt M k b s own seen z → AreOuterBelow s.frames
  outer_of b s own seen z st = leads_outer k.program k.number (maker_of k.program M) st.leads

  -- an answer
  pub answered_at : (b : Bool) (s z : Standing) (a : Answer) (made own : List Event) (seen now : ClassId → List Event) (x y : S) → Advances k.program k.number s a made z → Makes k.program (maker_of k.program M) s.last a x y → SeesMore seen (λ c. of_class c made) now →
      StandsAt M k b s own seen x → StandsAt M k b z (own ++ made) now y
  answered_at b s z a made own seen now x y step makes sees st = takes_answer k.program k.number (maker_of k.program M) (OuterOf M k b) (IdleOf M k b) (goes_of b) step makes sees st

  -- a step of the work
  pub stepped : (w : Work S) (y : View) (s : Standing) (z : S) (why : Limit) (slack looks : ℕ) (made : List Event) → Working M k w → IsSamePass w.pass y → IsAway y.places → drawn y.journal ≡ drawn w.pass.journal ++ made →
      AllByRecursion (λ e. IsProgramEvent k.program k.table.threads e) made → StandsAt M k w.in_main s (drawn w.pass.journal ++ made) (seen_of y) z →
      (w.in_main ≡ false → s.frames ≡ [] → s.last ≢ None) → ((e : ClassId) → ending_error s ≡ Some e → IsWhy M k z why e) → length (begun_classes s.frames) + slack ≤ y.room →
      Working M k (record { pass = y; procedure = s; bodies = z; in_main = w.in_main; why = why; slack = slack; looks = looks })
  stepped w y s z why slack looks made o same away own done st begun reason room = record {
    main = o.main;
    works = works_on k.program k.table k.number w.pass y o.works same away;
    stands = subst (λ (es : List Event). StandsAt M k w.in_main s es (seen_of y) z) (sym own) st;
    events = subst (λ (es : List Event). AllByRecursion (λ e. IsProgramEvent k.program k.table.threads e) es) (sym own) (all_both (λ e. IsProgramEvent k.program k.table.threads e) (drawn w.pass.journal) made o.events done);
    begun = begun;
    reason = reason;
    room = room;
  }

  -- nothing is drawn
  pub still : (w : Work S) (s : Standing) (z : S) (why : Limit) → Working M k w → StandsAt M k w.in_main s (drawn w.pass.journal) (seen_of w.pass) z → (w.in_main ≡ false → s.frames ≡ [] → s.last ≢ None) → ((e : ClassId) → ending_error s ≡ Some e → IsWhy M k z why e) →
      length (begun_classes s.frames) ≤ length (begun_classes w.procedure.frames) → Working M k (record w { procedure = s; bodies = z; why = why })
  still w s z why o st begun reason few = record {
    main = o.main;
    works = o.works;
    stands = st;
    events = o.events;
    begun = begun;
    reason = reason;
    room = (let r = o.room in omega arith);
  }

  -- the procedure is told an answer that adds no event
  pub told : (w : Work S) (s : Standing) (a : Answer) (z : S) (why : Limit) → Advances k.program k.number w.procedure a [] s → Makes k.program (maker_of k.program M) w.procedure.last a w.bodies z →
      ((e : ClassId) → ending_error s ≡ Some e → IsWhy M k z why e) → Working M k w → Working M k (record w { procedure = s; bodies = z; why = why })
  told w s a z why step makes reason o =
      let outer = outer_of w.in_main w.procedure (drawn w.pass.journal) (seen_of w.pass) w.bodies o.stands in
      let st : StandsAt M k w.in_main s (drawn w.pass.journal) (seen_of w.pass) z = subst (λ (es : List Event). StandsAt M k w.in_main s es (seen_of w.pass) z) (append-nil (drawn w.pass.journal))
      (answered_at w.in_main w.procedure s a [] (drawn w.pass.journal) (seen_of w.pass) (seen_of w.pass) w.bodies z step makes (seen_same w.pass w.pass refl) o.stands) in
      still w s z why o st (λ b. has_last k.program k.number step) reason (let f = few_more k.program k.number step outer in omega arith)

  -- what the thread knows while it has a record
  pub with_record : (w : Work S) (c : ClassId) (y : View) (h : HeldFacts Guarded) → Took k.program c w.pass y h → Working M k w → StandsAt M k w.in_main w.procedure (drawn w.pass.journal) (seen_of y) w.bodies
  with_record w c y h took o =
      let f : Finds k.number (seen_of w.pass c) h.kept.record.events = subst (λ (n : ℕ). Finds n (seen_of w.pass c) h.kept.record.events) o.works.number took.finds in
      others_go_on k.program k.number (maker_of k.program M) (OuterOf M k w.in_main) (IdleOf M k w.in_main) (goes_of w.in_main)
      (sees_here c (seen_of w.pass) (seen_of y) f.more (took.seen ∙ f.begins) (λ d other. (took.others d.number other).seen) f.agrees)
      (λ d. others_at f (c.number == d.number)) o.stands where
        others_at : (f : Finds k.number (seen_of w.pass c) h.kept.record.events) (b : Bool) → AreOfOthers k.number (cond b f.more [])
        others_at f true = f.others
        others_at f false = tt

  -- what it knows once it has seen that a class is initialized
  pub with_ready : (w : Work S) (c : ClassId) (y : View) → KnowsDone MayDraw is_completion AgreesWithLabels c.number w.pass y → Working M k w → StandsAt M k w.in_main w.procedure (drawn w.pass.journal) (seen_of y) w.bodies
  with_ready w c y knows o =
      let f : Finds k.number (seen_of w.pass c) (seen_of y c) = finds_ready k.number c.number (seen_of w.pass c) (seen_of y c) (subst (λ (n : ℕ). Grew MayDraw n c.number (seen_of w.pass c) (seen_of y c)) o.works.number knows.grew) knows.lawful_now in
      others_go_on k.program k.number (maker_of k.program M) (OuterOf M k w.in_main) (IdleOf M k w.in_main) (goes_of w.in_main)
      (sees_here c (seen_of w.pass) (seen_of y) f.more f.begins (λ d other. (knows.others d.number other).seen) f.agrees)
      (λ d. others_at f (c.number == d.number)) o.stands where
        others_at : (f : Finds k.number (seen_of w.pass c) (seen_of y c)) (b : Bool) → AreOfOthers k.number (cond b f.more [])
        others_at f true = f.others
        others_at f false = tt

  -- a record was taken, and went back with what the thread made of its class
  pub visited : (w : Work S) (s : Standing) (z : S) (slack looks : ℕ) (c : ClassId) (y v : View) (h : HeldFacts Guarded) (n : ℕ) (events made : List Event) → n ≡ c.number → Took k.program c w.pass y h → GaveBack n events y v →
      events ≡ h.kept.record.events ++ made → drawn v.journal ≡ drawn y.journal ++ made → IsMade k.program k.number c h.kept.record.events made → IsOfFiles k.program c →
      (SeesMore (seen_of y) (λ d. of_class d made) (seen_of v) → StandsAt M k w.in_main w.procedure (drawn w.pass.journal) (seen_of y) w.bodies → StandsAt M k w.in_main s (drawn w.pass.journal ++ made) (seen_of v) z) →
      (w.in_main ≡ false → s.frames ≡ [] → s.last ≢ None) → ((e : ClassId) → ending_error s ≡ Some e → IsWhy M k z w.why e) → length (begun_classes s.frames) + slack ≤ v.room → Working M k w →
      Working M k (record { pass = v; procedure = s; bodies = z; in_main = w.in_main; why = w.why; slack = slack; looks = looks })
  visited w s z slack looks c y v h n events made place took back more journal is_made within step begun reason room o =
      let own : drawn v.journal ≡ drawn w.pass.journal ++ made = journal ∙ ap (λ (js : List (Stamped Event)). drawn js ++ made) took.journal in
      let here : seen_of v c ≡ h.kept.record.events ++ made = ap (λ (i : ℕ). seen_at i v.places) (sym place) ∙ (back.seen ∙ more) in
      let sees : SeesMore (seen_of y) (λ d. of_class d made) (seen_of v) = sees_made k.program k.number c (seen_of y) (seen_of v) is_made took.seen here (λ d other. (back.others d.number (λ q. other (q ∙ place))).seen) in
      stepped w v s z w.why slack looks made o (same_on w.pass y v took.same back.same) back.away own (made_events k.program k.table.threads k.number c o.works.within within is_made) (step sees (with_record w c y h took o)) begun reason room

  -- an event was drawn under no lock
  pub drew : (w : Work S) (s : Standing) (z : S) (slack looks : ℕ) (y : View) (made : Stamped Event) (e : Event) → made.event ≡ e → IsSamePass w.pass y → y.journal ≡ w.pass.journal ++ made ∷ [] → y.places ≡ w.pass.places → IsProgramEvent k.program k.table.threads e →
      (StandsAt M k w.in_main w.procedure (drawn w.pass.journal) (seen_of w.pass) w.bodies → StandsAt M k w.in_main s (drawn w.pass.journal ++ e ∷ []) (seen_of w.pass) z) →
      (w.in_main ≡ false → s.frames ≡ [] → s.last ≢ None) → ((x : ClassId) → ending_error s ≡ Some x → IsWhy M k z w.why x) → length (begun_classes s.frames) + slack ≤ y.room → Working M k w →
      Working M k (record { pass = y; procedure = s; bodies = z; in_main = w.in_main; why = w.why; slack = slack; looks = looks })
  drew w s z slack looks y made e is same journal places done step begun reason room o =
      let own : drawn y.journal ≡ drawn w.pass.journal ++ e ∷ [] = ap drawn journal ∙ (drawn_more w.pass.journal made ∙ ap (λ (x : Event). drawn w.pass.journal ++ x ∷ []) is) in
      stepped w y s z w.why slack looks (e ∷ []) o same (subst IsAway (sym places) o.works.away) own (done, tt)
      (subst (λ (ps : List (PlaceView Guarded Event)). StandsAt M k w.in_main s (drawn w.pass.journal ++ e ∷ []) (λ d. seen_at d.number ps) z) (sym places) (step o.stands)) begun reason room

  -- there is room for more events
  pub roomier : (w : Work S) (y : View) (slack : ℕ) → IsSamePass w.pass y → y.journal ≡ w.pass.journal → y.places ≡ w.pass.places → length (begun_classes w.procedure.frames) + slack ≤ y.room → Working M k w → Working M k (record w { pass = y; slack = slack })
  roomier w y slack same journal places room o = stepped w y w.procedure w.bodies w.why slack w.looks [] o same (subst IsAway (sym places) o.works.away) (ap drawn journal ∙ sym (append-nil (drawn w.pass.journal))) tt
      (subst (λ (ps : List (PlaceView Guarded Event)). StandsAt M k w.in_main w.procedure (drawn w.pass.journal ++ []) (λ d. seen_at d.number ps) w.bodies) (sym places) (subst (λ (es : List Event). StandsAt M k w.in_main w.procedure es (seen_of w.pass) w.bodies) (sym (append-nil (drawn w.pass.journal))) o.stands))
      o.begun o.reason room
