-- What a body does, as the calls tell it.
use Rattle.std.proofs.Common.{◌≡◌, ◌≢◌, ℕ, ◌+◌, ◌-◌, ◌≤◌, List, [], ◌∷◌, ◌++◌, Option, Some, None, Bool, true, false, length, slice_get, refl, sym, subst, ap, ◌∙◌, arith}
use Rattle.std.specs.List.{AllByRecursion}
use Rattle.hierarchy.specs.declared.class.ClassId.{ClassId}
use Rattle.hierarchy.specs.declared.value.Value.{Value}
use Rattle.statics.specs.declared.static_field.StaticField.{StaticField}
use Rattle.statics.specs.Statics.{statics_of, kept_by}
use Rattle.hierarchy.specs.Subclasses.{IsError}
use Rattle.init_core.specs.declared.event.Event.{Event}
use Rattle.init_core.specs.declared.event.Kind.{Kind}
use Rattle.init_core.specs.declared.event.Kind.TheVariants as kind
use Rattle.init_core.specs.declared.frames.Completed.{Completed}
use Rattle.init_core.specs.declared.frames.Frame.{Frame}
use Rattle.init_core.specs.declared.frames.Outcome.{Outcome}
use Rattle.init_core.specs.declared.frames.Outcome.TheVariants.{Normal, Abrupt, Ended}
use Rattle.init_core.specs.declared.frames.Phase.TheVariants.{Running}
use Rattle.init_core.specs.declared.procedure.Answer.TheVariants as answer
use Rattle.init_core.specs.declared.procedure.Next.TheVariants as next
use Rattle.init_core.specs.Advance.{Advances, leaves_body, FitsBody, MayRequest, after_body, is_running, next_of, requested}
use Rattle.init_core.specs.Decisions.{event}
use Rattle.init_core.specs.History.{History}
use Rattle.init_core.specs.Numbers.{IsEventOf, IsInRange}
use Rattle.init_core.specs.Label.{label_of}
use Rattle.init_core.specs.Lawful.{MayUse}
use Rattle.init_core.specs.Leads.{frame, standing, LeadsOf}
use Rattle.init_core.specs.ProcedureWord.{GoesOn, IsOfFiles, IsUse, IsStop, completed, ended_by, given_up, printed}
use Rattle.init_core.specs.ProgramEvents.{IsDoneAt, IsValueOf, prints_text}
use Rattle.init_core.specs.StaticValue.{value_of}
use Rattle.init_core.specs.Standing.{Standing}
use Rattle.init_core.specs.Stands.{begun_classes, ending_error}
use Rattle.init_core.proofs.Doing.{enters_main}
use Rattle.init_core.proofs.Leading.{MakesEnd}
use Rattle.init_core.proofs.Mains.{main_threw, ends_main}
use Rattle.init_lock.specs.declared.journal.Stamped.{Stamped}
use Rattle.init_lock.specs.Known.{HeldFacts, IsSamePass}
use Rattle.bodies.specs.declared.report.Limit.{Limit}
use Rattle.bodies.specs.declared.report.Limit.TheVariants.{Steps, Patience, Memory}
use Rattle.bodies.specs.declared.does.Does.{Does}
use Rattle.bodies.specs.declared.does.Does.TheVariants as does
use Rattle.bodies.specs.Doing.{MayDo}
use Rattle.bodies.specs.Making.{Making, stays, comes, maker_of}
use Rattle.bodies.proofs.ThreadSteps.{allows_use, asks_one, uses_one, prints_at, makes_ended, stops_at}
use Rattle.guest_threads.specs.declared.guarded.Guarded.{Guarded}
use Rattle.guest_threads.specs.declared.task.Work.{Work}
use Rattle.guest_threads.specs.Tasks.{TaskFacts, error_of, IsWhy}
use Rattle.guest_threads.specs.Working.{Working, StandsAt, IsRoomier, IsInBody, HasComeTo, IsDoing, IsOver, Took, GaveBack, drawn, seen_of}
use Rattle.bodies.proofs.Asking.{IsBodyAt, of_main, of_class as of_a_class, body_at, running_at, running_requests, not_running, body_error, is_idle, are_asking}
use Rattle.guest_threads.proofs.Passing.{View, OuterOf, IdleOf, one, still, told, with_record, visited, drew}
use Rattle.bodies.proofs.HeldValues.{value_held, written_value}
use Rattle.guest_threads.proofs.Telling.{machine_of}

pub none_of : (o : Option ClassId) → ((e : ClassId) → o ≢ Some e) → o ≡ None
none_of None n = refl
none_of (Some e) n = absurd (n e refl)

not_true : {A : Type 0} → false ≡ true → A
not_true e = absurd cc

last_of : {A : Type 0} (Q : A → Type 0) (xs : List A) (y : A) → AllByRecursion Q (xs ++ y ∷ []) → Q y
last_of Q [] y a = a.0
last_of Q (x ∷ xs) y a = last_of Q xs y a.1

-- the numbers of an event that was added last are in their range
pub range_of_last : (c : ClassId) (before : List Event) (e : Event) (now : List Event) → now ≡ before ++ e ∷ [] → AllByRecursion (λ x. IsEventOf c x) now → IsInRange e.kind
range_of_last c before e now is a = (last_of (λ x. IsEventOf c x) before e (subst (λ (es : List Event). AllByRecursion (λ x. IsEventOf c x) es) is a)).kind

-- where the machine has ended a body at a limit, and then ends the next, it has ended that one at the limit too
abbrev pub LimitsStay : {S : Type 0} → Making S → Type 0
LimitsStay {S} M = (l : Limit) (s z : S) → M.limits l s → M.is_ended s z → M.limits l z

module _ {S : Type 0} (M : Making S) (k : TaskFacts S) where
  -- ---- the work

  -- the pass alone moved
  pub still_doing : (w : Work S) (v : View) (d : Does) (x : IsDoing M k d w) → Working M k (record w { pass = v; bodies = x.from }) → IsDoing M k d (record w { pass = v })
  still_doing w v d x o = record {
    from = x.from;
    working = o;
    body = record { requests = x.body.requests; main = x.body.main };
    goes_on = x.goes_on;
    does = x.does;
    fits = x.fits;
  }

  not_of_main : {A : Type 0} (w : Work S) → IsInBody w → w.in_main ≡ false → w.procedure.frames ≡ [] → A
  not_of_main w body b e = not_true (sym b ∙ body.main e)

  none_ends : {A : Type 0} (w : Work S) (e : ClassId) → IsInBody w → ending_error (standing w.procedure.frames None) ≡ Some e → A
  none_ends w e body q = absurd (let z : None ≡ Some e = sym (body_error w.procedure.frames None body.requests) ∙ q in cc)

  -- the class is asked for
  pub asked : (w : Work S) (s : Standing) (c : ClassId) → s ≡ requested w.procedure c → IsDoing M k (does.Asks c) w → Working M k (record w { procedure = s })
  asked w s c is d =
      let st : StandsAt M k w.in_main (requested w.procedure c) (drawn w.pass.journal) (seen_of w.pass) w.bodies =
      asks_one M k.program k.number k.start k.main w.in_main w.procedure.frames w.procedure.last (drawn w.pass.journal) (seen_of w.pass) d.from w.bodies c (body_at w.procedure.frames d.body.requests) d.body.main d.goes_on d.fits d.does d.working.stands in
      let few : (fs : List Frame) → IsBodyAt fs → length (begun_classes (requested (standing fs w.procedure.last) c).frames) ≤ length (begun_classes fs) = few_of in
      subst (λ (v : Standing). Working M k (record w { procedure = v })) (sym is)
      (still M k (record w { bodies = d.from }) (requested w.procedure c) w.bodies w.why d.working st (λ b e. cc) (λ e q. cc) (few w.procedure.frames (body_at w.procedure.frames d.body.requests))) where
        few_of : (fs : List Frame) → IsBodyAt fs → length (begun_classes (requested (standing fs w.procedure.last) c).frames) ≤ length (begun_classes fs)
        few_of fs of_main = omega arith
        few_of fs (of_a_class b gs) = omega arith

  -- the class may be used, as its record was found
  pub may_use_found : (w : Work S) (c : ClassId) (y : View) (h : HeldFacts Guarded) → w.procedure.last ≡ Some (completed c Normal) → Took k.program c w.pass y h → Working M k w → MayUse k.number (label_of h.kept.record.events)
  may_use_found w c y h last took o = subst (λ (es : List Event). MayUse k.number (label_of es)) took.seen ((with_record M k w c y h took o).used c last)

  -- a read or a write was made
  pub used : (w : Work S) (s : Standing) (z : S) (d : Does) (c : ClassId) (j : Kind) (y v : View) (h : HeldFacts Guarded) (n : ℕ) (events : List Event) (x : IsDoing M k d w) → w.procedure.last ≡ Some (completed c Normal) → IsUse j → (maker_of k.program M).uses x.from c j z →
      IsDoneAt k.program c j → IsOfFiles k.program c → n ≡ c.number → Took k.program c w.pass y h → GaveBack n events y v → events ≡ h.kept.record.events ++ event k.number c j ∷ [] → drawn v.journal ≡ drawn y.journal ++ event k.number c j ∷ [] → v.room + 1 ≡ y.room → 1 ≤ w.slack →
      s ≡ standing w.procedure.frames None → Working M k (record w { pass = v; procedure = s; bodies = z; slack = w.slack - 1 })
  used w s z d c j y v h n events x last is made done within place took back more journal room slack to =
      let from : Work S = record w { bodies = x.from } in
      subst (λ (a : Standing). Working M k (record w { pass = v; procedure = a; bodies = z; slack = w.slack - 1 })) (sym to)
      (visited M k from (standing w.procedure.frames None) z (w.slack - 1) w.looks c y v h n events (event k.number c j ∷ []) place took back more journal (one j (allows_use _ k.number j is (may_use_found from c y h last took x.working)) done) within
      (λ sees st. uses_one M k.program k.number k.start k.main w.in_main w.procedure.frames (drawn w.pass.journal) (seen_of y) (seen_of v) x.from z c j (body_at w.procedure.frames x.body.requests) x.body.main is made sees
      (subst (λ (l : Option Completed). StandsAt M k w.in_main (standing w.procedure.frames l) (drawn w.pass.journal) (seen_of y) x.from) last st))
      (λ b e. not_of_main w x.body b e) (λ e q. none_ends w e x.body q) (let r = x.working.room in let q = took.room in omega arith) x.working)

  -- a read
  pub read_was_made : (w : Work S) (s : Standing) (z : S) (c : ClassId) (field : ℕ) (value : Value) (y v : View) (h : HeldFacts Guarded) (n : ℕ) (found : History) (events : List Event) (x : IsDoing M k (does.Gets c field) w) → Took k.program c w.pass y h → found ≡ h.kept.record →
      value_of found.fields field found.events ≡ Some value → events ≡ found.events ++ event k.number found.class (kind.Gets field value) ∷ [] → M.gets w.bodies value z → n ≡ c.number → GaveBack n events y v → drawn v.journal ≡ drawn y.journal ++ event k.number c (kind.Gets field value) ∷ [] →
      v.room + 1 ≡ y.room → 1 ≤ w.slack → s ≡ standing w.procedure.frames None → Working M k (record w { pass = v; procedure = s; bodies = z; slack = w.slack - 1 })
  read_was_made w s z c field value y v h n found events x took kept holds more gets place back journal room slack to =
      let last = x.fits.1 in
      let fields : found.fields ≡ statics_of k.program c = ap (λ (r : History). r.fields) kept ∙ took.fields in
      let its : found.events ≡ h.kept.record.events = ap (λ (r : History). r.events) kept in
      let of_it : found.class ≡ c = ap (λ (r : History). r.class) kept ∙ took.class in
      let here : value_of (statics_of k.program c) field h.kept.record.events ≡ Some value = subst (λ (es : List Event). value_of (statics_of k.program c) field es ≡ Some value) its (subst (λ (fs : List StaticField). value_of fs field found.events ≡ Some value) fields holds) in
      used w s z (does.Gets c field) c (kind.Gets field value) y v h n events x last tt (w.bodies, subst (λ (l : Option Completed). M.does x.from l (does.Gets c field) w.bodies) last x.does, gets)
      (value_held (statics_of k.program c) field value h.kept.record.events x.fits.3 took.held here) x.fits.0 place took back
      (more ∙ (ap (λ (es : List Event). es ++ event k.number found.class (kind.Gets field value) ∷ []) its ∙ ap (λ (b : ClassId). h.kept.record.events ++ event k.number b (kind.Gets field value) ∷ []) of_it)) journal room slack to

  -- a write
  pub write_was_made : (w : Work S) (s : Standing) (c : ClassId) (field : ℕ) (given value : Value) (y v : View) (h : HeldFacts Guarded) (n : ℕ) (found now : History) (x : IsDoing M k (does.Puts c field given) w) → Took k.program c w.pass y h → found ≡ h.kept.record → now.fields ≡ found.fields →
      now.events ≡ found.events ++ event k.number found.class (kind.Puts field (kept_by found.fields field given)) ∷ [] → value_of now.fields field now.events ≡ Some value → n ≡ c.number → GaveBack n now.events y v → drawn v.journal ≡ drawn y.journal ++ event k.number c (kind.Puts field value) ∷ [] →
      v.room + 1 ≡ y.room → 1 ≤ w.slack → s ≡ standing w.procedure.frames None → Working M k (record w { pass = v; procedure = s; slack = w.slack - 1 })
  write_was_made w s c field given value y v h n found now x took kept same more holds place back journal room slack to =
      let last = x.fits.1 in
      let fields : found.fields ≡ statics_of k.program c = ap (λ (r : History). r.fields) kept ∙ took.fields in
      let its : found.events ≡ h.kept.record.events = ap (λ (r : History). r.events) kept in
      let of_it : found.class ≡ c = ap (λ (r : History). r.class) kept ∙ took.class in
      let put : value ≡ kept_by found.fields field given = written_value now.fields k.number field found.class (kept_by found.fields field given) value found.events (subst (λ (es : List Event). value_of now.fields field es ≡ Some value) more holds) in
      let is : value ≡ kept_by (statics_of k.program c) field given = put ∙ ap (λ (fs : List StaticField). kept_by fs field given) fields in
      used w s w.bodies (does.Puts c field given) c (kind.Puts field value) y v h n now.events x last tt (given, subst (λ (l : Option Completed). M.does x.from l (does.Puts c field given) w.bodies) last x.does, is)
      (subst (λ (a : Value). IsValueOf (slice_get (statics_of k.program c) field) a) (sym is) x.fits.3) x.fits.0 place took back
      (more ∙ (ap (λ (a : Value). found.events ++ event k.number found.class (kind.Puts field a) ∷ []) (sym put) ∙ (ap (λ (es : List Event). es ++ event k.number found.class (kind.Puts field value) ∷ []) its ∙ ap (λ (b : ClassId). h.kept.record.events ++ event k.number b (kind.Puts field value) ∷ []) of_it))) journal room slack to

  -- a print was made
  pub has_printed : (w : Work S) (s : Standing) (text : List ℕ) (y : View) (made : Stamped Event) → made.event ≡ printed k.number text → IsSamePass w.pass y → y.journal ≡ w.pass.journal ++ made ∷ [] → y.places ≡ w.pass.places → y.room + 1 ≡ w.pass.room → 1 ≤ w.slack → s ≡ standing w.procedure.frames None →
      IsDoing M k (does.Prints text) w → Working M k (record w { pass = y; procedure = s; slack = w.slack - 1 })
  has_printed w s text y made is same journal places room slack to x =
      subst (λ (a : Standing). Working M k (record w { pass = y; procedure = a; slack = w.slack - 1 })) (sym to)
      (drew M k (record w { bodies = x.from }) (standing w.procedure.frames None) w.bodies (w.slack - 1) w.looks y made (printed k.number text) is same journal places (prints_text text x.working.works.within x.fits)
      (λ st. prints_at M k.program k.number k.start k.main w.in_main w.procedure.frames w.procedure.last (drawn w.pass.journal) (seen_of w.pass) x.from w.bodies text (body_at w.procedure.frames x.body.requests) x.body.main x.goes_on x.does st)
      (λ b e. not_of_main w x.body b e) (λ e q. none_ends w e x.body q) (let r = x.working.room in omega arith) x.working)

  -- ---- the end of a body

  -- what the machine may end the thread for stays, where it ends a body
  why_stays : (s z : S) (l : Limit) (e : ClassId) → LimitsStay M → M.is_ended s z → IsWhy M k s l e → IsWhy M k z l e
  why_stays s z Steps e stay ended why = (why.0, stay Steps s z why.1 ended)
  why_stays s z Patience e stay ended why = why
  why_stays s z Memory e stay ended why = why

  -- the machine ended the body of a class
  pub left : (w : Work S) (s : Standing) (z : S) (e : ClassId) → is_running w.procedure.frames ≡ true → ((f : Frame) (fs : List Frame) → w.procedure.frames ≡ f ∷ fs → s ≡ after_body f.class fs (Ended e)) → FitsBody k.program (given_up w.procedure.last) (Ended e) →
      LimitsStay M → IsWhy M k w.bodies w.why e → M.is_ended w.bodies z → HasComeTo M k w → Working M k (record w { procedure = s; bodies = z })
  left w s z e q is fits stay why ended h =
      let at = running_at w.procedure.frames q in
      let to : s ≡ after_body at.0 at.1 (Ended e) = is (frame at.0 (Running true)) at.1 at.2 in
      let step : Advances k.program k.number w.procedure (answer.BodyEnded (Ended e)) [] s = subst (λ (v : Standing). Advances k.program k.number w.procedure (answer.BodyEnded (Ended e)) [] v) (sym to)
      (subst (λ (fs : List Frame). Advances k.program k.number (standing fs w.procedure.last) (answer.BodyEnded (Ended e)) [] (after_body at.0 at.1 (Ended e))) (sym at.2) (leaves_body fits)) in
      told M k (record w { bodies = h.from }) s (answer.BodyEnded (Ended e)) z w.why step (makes_ended M k.program k.number k.start k.main w.procedure.last (given_up w.procedure.last) e h.from z (w.bodies, h.come, ended))
      (λ y r. let same : Some e ≡ Some y = ap ending_error (sym to) ∙ r in let it : e ≡ y = cc in subst (IsWhy M k z w.why) it (why_stays w.bodies z w.why e stay ended why)) h.working

  in_main_leads : (w : Work S) (y : S) → w.procedure.frames ≡ [] → w.in_main ≡ true → StandsAt M k w.in_main w.procedure (drawn w.pass.journal) (seen_of w.pass) y → LeadsOf k.program k.number (maker_of k.program M) (OuterOf M k true) (IdleOf M k true) (standing [] w.procedure.last) (drawn w.pass.journal) y
  in_main_leads w y e b st =
      subst (λ (fs : List Frame). LeadsOf k.program k.number (maker_of k.program M) (OuterOf M k true) (IdleOf M k true) (standing fs w.procedure.last) (drawn w.pass.journal) y) e
      (subst (λ (x : Bool). LeadsOf k.program k.number (maker_of k.program M) (OuterOf M k x) (IdleOf M k x) w.procedure (drawn w.pass.journal) y) b st.leads)

  -- the machine ended that of main
  pub left_main : (w : Work S) (z : S) (e : ClassId) → is_running w.procedure.frames ≡ false → FitsBody k.program (given_up w.procedure.last) (Ended e) →
      LimitsStay M → IsWhy M k w.bodies w.why e → M.is_ended w.bodies z → HasComeTo M k w → IsOver M k (Ended e) (record w { bodies = z })
  left_main w z e q fits stay why ended h =
      let none : w.procedure.frames ≡ [] = not_running w.procedure.frames h.body.requests q in
      record {
        works = h.working.works;
        word = stops_at M k.program k.number k.start k.main w.procedure.last e (drawn w.pass.journal) h.from z fits (w.bodies, h.come, ended) (in_main_leads w h.from none (h.body.main none) h.working.stands);
        events = h.working.events;
        reason = λ y r. let it : e ≡ y = cc in subst (IsWhy M k z w.why) it (why_stays w.bodies z w.why e stay ended why);
      }

  -- the body of a class is over
  pub body_over : (w : Work S) (s : Standing) (z : S) (d : Does) (r : Outcome) → is_running w.procedure.frames ≡ true → ((f : Frame) (fs : List Frame) → w.procedure.frames ≡ f ∷ fs → s ≡ after_body f.class fs r) → FitsBody k.program None r → ((e : ClassId) → r ≢ Ended e) → (x : IsDoing M k d w) →
      MakesEnd k.program (maker_of k.program M) w.procedure.last None r x.from z → Working M k (record w { procedure = s; bodies = z })
  body_over w s z d r q is fits other x made =
      let at = running_at w.procedure.frames q in
      let to : s ≡ after_body at.0 at.1 r = is (frame at.0 (Running true)) at.1 at.2 in
      let on : given_up w.procedure.last ≡ None = x.goes_on in
      let step : Advances k.program k.number w.procedure (answer.BodyEnded r) [] s = subst (λ (v : Standing). Advances k.program k.number w.procedure (answer.BodyEnded r) [] v) (sym to)
      (subst (λ (fs : List Frame). Advances k.program k.number (standing fs w.procedure.last) (answer.BodyEnded r) [] (after_body at.0 at.1 r)) (sym at.2) (leaves_body (subst (λ (o : Option ClassId). FitsBody k.program o r) (sym on) fits))) in
      told M k (record w { bodies = x.from }) s (answer.BodyEnded r) z w.why step (subst (λ (o : Option ClassId). MakesEnd k.program (maker_of k.program M) w.procedure.last o r x.from z) (sym on) made)
      (λ y e. no_error_of r other at.0 at.1 y (ap ending_error (sym to) ∙ e)) x.working where
        no_error_of : {A : Type 0} (o : Outcome) → ((e : ClassId) → o ≢ Ended e) → (c : ClassId) (fs : List Frame) (y : ClassId) → ending_error (after_body c fs o) ≡ Some y → A
        no_error_of Normal n c fs y e = absurd cc
        no_error_of (Abrupt v) n c fs y e = absurd cc
        no_error_of (Ended v) n c fs y e = absurd (n v refl)

  -- and that of main
  pub main_over : (w : Work S) (d : Does) (r : Outcome) → is_running w.procedure.frames ≡ false → IsStop k.program r → ((e : ClassId) → r ≢ Ended e) → (x : IsDoing M k d w) → (maker_of k.program M).stops x.from w.procedure.last r w.bodies → IsOver M k r w
  main_over w d r q is other x made =
      let none : w.procedure.frames ≡ [] = not_running w.procedure.frames x.body.requests q in
      record {
        works = x.working.works;
        word = ends_main k.program k.number (maker_of k.program M) k.start k.main r x.goes_on is made (in_main_leads w x.from none (x.body.main none) x.working.stands);
        events = x.working.events;
        reason = λ e z. absurd (other e z);
      }

  pub main_returns : (w : Work S) (thrown : Option ClassId) → thrown ≡ None → is_running w.procedure.frames ≡ false → IsDoing M k (does.Over thrown) w → IsOver M k Normal w
  main_returns w thrown is q x =
      let y : IsDoing M k (does.Over None) w = subst (λ (o : Option ClassId). IsDoing M k (does.Over o) w) is x in
      main_over w (does.Over None) Normal q tt (λ e z. cc) y y.does

  pub main_throws : (w : Work S) (thrown : Option ClassId) (e : ClassId) → thrown ≡ Some e → is_running w.procedure.frames ≡ false → IsDoing M k (does.Over thrown) w → IsOver M k (Abrupt e) w
  main_throws w thrown e is q x =
      let y : IsDoing M k (does.Over (Some e)) w = subst (λ (o : Option ClassId). IsDoing M k (does.Over o) w) is x in
      main_over w (does.Over (Some e)) (Abrupt e) q y.fits (λ e z. cc) y y.does

  pub class_returns : (w : Work S) (s : Standing) (thrown : Option ClassId) → thrown ≡ None → is_running w.procedure.frames ≡ true → ((f : Frame) (fs : List Frame) → w.procedure.frames ≡ f ∷ fs → s ≡ after_body f.class fs Normal) → IsDoing M k (does.Over thrown) w → Working M k (record w { procedure = s })
  class_returns w s thrown is q to x =
      let y : IsDoing M k (does.Over None) w = subst (λ (o : Option ClassId). IsDoing M k (does.Over o) w) is x in
      body_over w s w.bodies (does.Over None) Normal q to tt (λ e z. cc) y y.does

  pub class_throws : (w : Work S) (s : Standing) (z : S) (thrown : Option ClassId) (e error : ClassId) → thrown ≡ Some e → is_running w.procedure.frames ≡ true → ((f : Frame) (fs : List Frame) → w.procedure.frames ≡ f ∷ fs → s ≡ after_body f.class fs (Abrupt error)) → IsError k.program error → M.replaces w.bodies e error z →
      IsDoing M k (does.Over thrown) w → Working M k (record w { procedure = s; bodies = z })
  class_throws w s z thrown e error is q to is_error replaced x =
      let y : IsDoing M k (does.Over (Some e)) w = subst (λ (o : Option ClassId). IsDoing M k (does.Over o) w) is x in
      body_over w s z (does.Over (Some e)) (Abrupt error) q to is_error (λ e z. cc) y (e, w.bodies, y.fits, y.does, replaced)

  -- ---- between the procedure for the main class and main

  idle_frames : (w : Work S) → next_of w.procedure.frames ≡ next.Idle → Working M k w → w.procedure.frames ≡ []
  idle_frames w q o = is_idle w.procedure.frames (are_asking o.stands.leads) q

  pub main_body : (w : Work S) → next_of w.procedure.frames ≡ next.Idle → w.in_main ≡ true → Working M k w → IsInBody w
  main_body w q b o = record { requests = subst MayRequest (sym (idle_frames w q o)) tt; main = λ e. b }

  before_stands : (w : Work S) (last : Option Completed) → w.procedure.frames ≡ [] → w.procedure.last ≡ last → w.in_main ≡ false → Working M k w → StandsAt M k false (standing [] last) (drawn w.pass.journal) (seen_of w.pass) w.bodies
  before_stands w last none is b o =
      subst (λ (l : Option Completed). StandsAt M k false (standing [] l) (drawn w.pass.journal) (seen_of w.pass) w.bodies) is
      (subst (λ (fs : List Frame). StandsAt M k false (standing fs w.procedure.last) (drawn w.pass.journal) (seen_of w.pass) w.bodies) none
      (subst (λ (x : Bool). StandsAt M k x w.procedure (drawn w.pass.journal) (seen_of w.pass) w.bodies) b o.stands))

  -- main begins
  pub entered_main : (w : Work S) (s : Standing) (z : S) (d : Completed) → next_of w.procedure.frames ≡ next.Idle → w.procedure.last ≡ Some d → d.outcome ≡ Normal → w.in_main ≡ false → s ≡ standing w.procedure.frames None → M.enters w.bodies k.main z → Working M k w →
      Working M k (record w { procedure = s; bodies = z; in_main = true })
  entered_main w s z d q last normal b is enters o =
      let none : w.procedure.frames ≡ [] = idle_frames w q o in
      let to : s ≡ standing [] None = is ∙ ap (λ (fs : List Frame). standing fs None) none in
      subst (λ (v : Standing). Working M k (record w { procedure = v; bodies = z; in_main = true })) (sym to) (record {
        main = o.main;
        works = o.works;
        stands = enters_main k.program k.number (maker_of k.program M) k.start k.main enters (before_stands w (Some (completed d.class Normal)) none (last ∙ ap (λ (r : Outcome). Some (completed d.class r)) normal) b o);
        events = o.events;
        begun = λ e. cc;
        reason = λ e r. cc;
        room = (let r = o.room in let f : length (begun_classes w.procedure.frames) ≡ 0 = ap (λ (fs : List Frame). length (begun_classes fs)) none in omega arith);
      })

  -- or the procedure wasn't normal
  pub main_left : (w : Work S) (d : Completed) → next_of w.procedure.frames ≡ next.Idle → w.procedure.last ≡ Some d → d.outcome ≢ Normal → w.in_main ≡ false → Working M k w → IsOver M k d.outcome w
  main_left w d q last other b o =
      let none : w.procedure.frames ≡ [] = idle_frames w q o in
      record {
        works = o.works;
        word = main_threw k.program k.number (maker_of k.program M) k.start k.main d.outcome other (before_stands w (Some d) none last b o).leads;
        events = o.events;
        reason = λ e r. o.reason e (ap (λ (fs : List Frame). ending_error (standing fs w.procedure.last)) none ∙ (ap given_up last ∙ ap ended_by r));
      }

  -- something was completed
  pub has_begun : (w : Work S) → next_of w.procedure.frames ≡ next.Idle → w.in_main ≡ false → w.procedure.last ≡ None → Working M k w → ⊥
  has_begun w q b last o = o.begun b (idle_frames w q o) last

  -- the machine may end a body where it stands
  pub has_come : (w : Work S) → IsInBody w → Working M k w → HasComeTo M k w
  has_come w body o = record { from = w.bodies; working = o; body = body; come = stays }

  -- or at what it does next
  pub has_come_on : (w : Work S) (d : Does) → IsDoing M k d w → HasComeTo M k w
  has_come_on w d x = record { from = x.from; working = x.working; body = x.body; come = comes d x.goes_on x.does }

  -- the machine ended an active use in the body
  pub was_ended : (w : Work S) (e : ClassId) → IsInBody w → ending_error w.procedure ≡ Some e → FitsBody k.program (given_up w.procedure.last) (Ended e)
  was_ended w e body q =
      let same : given_up w.procedure.last ≡ Some e = sym (body_error w.procedure.frames w.procedure.last body.requests) ∙ q in
      subst (λ (o : Option ClassId). FitsBody k.program o (Ended e)) (sym same) refl

  pub goes_on_in : (w : Work S) → IsInBody w → ending_error w.procedure ≡ None → GoesOn w.procedure.last
  goes_on_in w body q = sym (body_error w.procedure.frames w.procedure.last body.requests) ∙ q

  -- a limit ends it
  pub fits_limit : (w : Work S) (l : Limit) → GoesOn w.procedure.last → FitsBody k.program (given_up w.procedure.last) (Ended (error_of k.program l))
  fits_limit w l on = subst (λ (o : Option ClassId). FitsBody k.program o (Ended (error_of k.program l))) (sym on) (machine_of k.program l)

  -- what the machine ends the thread for is noted, where it doesn't yet
  pub noted : (w : Work S) (l : Limit) → GoesOn w.procedure.last → HasComeTo M k w → HasComeTo M k (record w { why = l })
  noted w l on h = record {
    from = h.from;
    working = record {
      main = h.working.main;
      works = h.working.works;
      stands = h.working.stands;
      events = h.working.events;
      begun = h.working.begun;
      reason = λ e q. absurd (let z : None ≡ Some e = sym (body_error w.procedure.frames w.procedure.last h.body.requests ∙ on) ∙ q in cc);
      room = h.working.room;
    };
    body = record { requests = h.body.requests; main = h.body.main };
    come = h.come;
  }

  -- in the body of a class
  pub class_body : (w : Work S) → is_running w.procedure.frames ≡ true → IsInBody w
  class_body w q = let r = running_requests w.procedure.frames q in record { requests = r.0; main = λ e. absurd (r.1 e) }

  -- what it does next
  pub is_doing : (w : Work S) (d : Does) (z : S) → Working M k w → IsInBody w → GoesOn w.procedure.last → M.does w.bodies w.procedure.last d z → MayDo k.program M.limits w.procedure.last d z → IsDoing M k d (record w { bodies = z })
  is_doing w d z o body on does fits = record { from = w.bodies; working = o; body = record { requests = body.requests; main = body.main }; goes_on = on; does = does; fits = fits }

  pub body_on : (w v : Work S) → IsRoomier w v → IsInBody w → IsInBody v
  body_on w v r body = record {
    requests = subst (λ (s : Standing). MayRequest s.frames) (sym r.procedure) body.requests;
    main = λ e. r.in_main ∙ body.main (ap (λ (s : Standing). s.frames) (sym r.procedure) ∙ e);
  }
