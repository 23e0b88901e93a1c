-- What each answer leaves of a procedure's standing.
use Rattle.std.proofs.Common.{◌≡◌, ℕ, List, [], ◌∷◌, Option, Bool, true, false, ◌==◌, eq-eqb, refl, sym, ap, subst, ◌∙◌}
use Rattle.hierarchy.specs.declared.class.ClassId.{ClassId}
use Rattle.hierarchy.specs.declared.built_in.BuiltIn.TheVariants.{NoClassDefFoundError}
use Rattle.hierarchy.specs.LinkedProgram.{LinkedProgram, built_in}
use Rattle.init_core.specs.Needs.{needs}
use Rattle.init_core.specs.declared.event.Decision.{Decision}
use Rattle.init_core.specs.declared.event.Decision.TheVariants as decision
use Rattle.init_core.specs.declared.event.Event.{Event}
use Rattle.init_core.specs.declared.event.Label.TheVariants.{Prepared}
use Rattle.init_core.specs.declared.procedure.Answer.TheVariants as answer
use Rattle.init_core.specs.declared.procedure.Next.TheVariants as next
use Rattle.init_core.specs.declared.frames.Completed.{Completed}
use Rattle.init_core.specs.declared.frames.Frame.{Frame}
use Rattle.init_core.specs.declared.frames.Outcome.TheVariants.{Normal, Abrupt, Ended}
use Rattle.init_core.specs.declared.frames.Phase.{Phase}
use Rattle.init_core.specs.declared.frames.Phase.TheVariants.{Looking, Needing, Running, EndingBy}
use Rattle.init_core.specs.Decisions.{Decides, entered, waits}
use Rattle.init_core.specs.Label.{label_of}
use Rattle.init_core.specs.Lawful.{IsInProgressByOther}
use Rattle.init_core.specs.Leads.{frame, standing}
use Rattle.init_core.specs.Standing.{Standing}
use Rattle.init_core.specs.declared.procedure.Answer.{Answer}
use Rattle.init_core.specs.ProcedureWord.{GoesOn, IsMachineError}
use Rattle.init_core.specs.Advance.{leaves_body, after_body, is_running, MayEndThread, thread_ended, Advances, step_2, still_step_2, step_3, step_4, step_5, step_6, ends_class, gives_up_look, MayStandFor, knows_all, Fits, LeavesAt, IsAtEnd, after_needs, after_word, next_of, is_waiting}

at_end : {p : LinkedProgram} {t : ℕ} {s u m : Standing} {made : List Event} → Advances p t u answer.Ended made m → MayStandFor s u → IsAtEnd s.frames
at_end ends_class knows_all = tt

pub is_at_end : (p : LinkedProgram) (s : Standing) → Fits p s answer.Ended → IsAtEnd s.frames
is_at_end p s fits = at_end (fits 0).3 (fits 0).4

-- where the procedures stand that had these classes open
abbrev Inner : Standing → Standing → (ClassId → List Frame → Standing) → Type 0
Inner s m after = (f : Frame) (fs : List Frame) → s.frames ≡ f ∷ fs → m ≡ after f.class fs

module _ (p : LinkedProgram) (s m : Standing) where
  pub has_recurred : Inner s m (λ c fs. after_word fs c Normal) → LeavesAt p s (answer.Decided decision.Recurs) m
  has_recurred is t u made after x k = by x k is where
    by : {s u after : Standing} {made : List Event} → Advances p t u (answer.Decided decision.Recurs) made after → MayStandFor s u → Inner s m (λ c fs. after_word fs c Normal) → m ≡ after
    by step_3 knows_all is = is _ _ refl

  pub was_initialized : Inner s m (λ c fs. after_word fs c Normal) → LeavesAt p s (answer.Decided decision.FindsInitialized) m
  was_initialized is t u made after x k = by x k is where
    by : {s u after : Standing} {made : List Event} → Advances p t u (answer.Decided decision.FindsInitialized) made after → MayStandFor s u → Inner s m (λ c fs. after_word fs c Normal) → m ≡ after
    by step_4 knows_all is = is _ _ refl

  pub was_erroneous : Inner s m (λ c fs. after_word fs c (Abrupt (built_in p NoClassDefFoundError))) → LeavesAt p s (answer.Decided decision.FindsErroneous) m
  was_erroneous is t u made after x k = by x k is where
    by : {s u after : Standing} {made : List Event} → Advances p t u (answer.Decided decision.FindsErroneous) made after → MayStandFor s u → Inner s m (λ c fs. after_word fs c (Abrupt (built_in p NoClassDefFoundError))) → m ≡ after
    by step_5 knows_all is = is _ _ refl

  pub has_begun : Inner s m (λ c fs. after_needs c (needs p c) fs) → LeavesAt p s (answer.Decided decision.Begins) m
  has_begun is t u made after x k = by x k is where
    by : {s u after : Standing} {made : List Event} → Advances p t u (answer.Decided decision.Begins) made after → MayStandFor s u → Inner s m (λ c fs. after_needs c (needs p c) fs) → m ≡ after
    by step_6 knows_all is = is _ _ refl

  pub look_is_given_up : (e : ClassId) → Inner s m (λ c fs. after_word fs c (Ended e)) → LeavesAt p s (answer.GaveUp e false) m
  look_is_given_up e is t u made after x k = by x k is where
    by : {e : ClassId} {s u after : Standing} {made : List Event} → Advances p t u (answer.GaveUp e false) made after → MayStandFor s u → Inner s m (λ c fs. after_word fs c (Ended e)) → m ≡ after
    by (gives_up_look machine) knows_all is = is _ _ refl

-- what a look comes to, where its class is asked for
look_at : (p : LinkedProgram) (t : ℕ) (b c : ClassId) (phase : Phase) (fs : List Frame) (last : Option Completed) (d : Decision) → next_of (frame b phase ∷ fs) ≡ next.Look c → (d ≡ decision.Waits true → is_waiting c (frame b phase ∷ fs) ≡ false) →
    (m : Standing) × Advances p t (standing (frame b phase ∷ fs) last) (answer.Decided d) (entered t c d) m
look_at p t b c (Looking false) fs last (decision.Waits true) asks first = let same : b ≡ c = cc in rw (← same) (_, step_2)
look_at p t b c (Looking true) fs last (decision.Waits true) asks first =
    let same : b ≡ c = cc in
    let waits : (b.number == c.number) ≡ true = rw same (eq-eqb c.number c.number refl) in
    let new : (b.number == c.number) ≡ false = first refl in
    let no : true ≡ false = sym waits ∙ new in
    cc
look_at p t b c (Looking w) fs last (decision.Waits false) asks first = (_, still_step_2)
look_at p t b c (Looking w) fs last decision.Recurs asks first = let same : b ≡ c = cc in rw (← same) (_, step_3)
look_at p t b c (Looking w) fs last decision.FindsInitialized asks first = let same : b ≡ c = cc in rw (← same) (_, step_4)
look_at p t b c (Looking w) fs last decision.FindsErroneous asks first = let same : b ≡ c = cc in rw (← same) (_, step_5)
look_at p t b c (Looking w) fs last decision.Begins asks first = let same : b ≡ c = cc in rw (← same) (_, step_6)
look_at p t b c (Needing rest) fs last d asks first = cc
look_at p t b c (Running ran) fs last d asks first = cc
look_at p t b c (EndingBy k by_machine) fs last d asks first = cc

look_frames : (p : LinkedProgram) (t : ℕ) (c : ClassId) (frames : List Frame) (last : Option Completed) (d : Decision) → next_of frames ≡ next.Look c → (d ≡ decision.Waits true → is_waiting c frames ≡ false) →
    (m : Standing) × Advances p t (standing frames last) (answer.Decided d) (entered t c d) m
look_frames p t c [] last d asks first = cc
look_frames p t c (f ∷ fs) last d asks first = look_at p t f.class c f.phase fs last d asks first

pub may_look : (p : LinkedProgram) (c : ClassId) (s : Standing) (d : Decision) → next_of s.frames ≡ next.Look c → (d ≡ decision.Waits true → is_waiting c s.frames ≡ false) → Fits p s (answer.Decided d)
may_look p c s d asks first t = let x = look_frames p t c s.frames s.last d asks first in (s, entered t c d, x.0, x.1, knows_all)

pub has_looked : (p : LinkedProgram) (t : ℕ) (c : ClassId) (s m : Standing) (d : Decision) → next_of s.frames ≡ next.Look c → (d ≡ decision.Waits true → is_waiting c s.frames ≡ false) → LeavesAt p s (answer.Decided d) m → Advances p t s (answer.Decided d) (entered t c d) m
has_looked p t c s m d asks first is = let x = look_frames p t c s.frames s.last d asks first in rw (is t s (entered t c d) x.0 x.1 knows_all) x.1

-- whether the request waits already, where the look comes to a wait
pub waits_so : (t : ℕ) {h g : List Event} {d : Decision} {first is waited : Bool} → g ≡ h → Decides (label_of g) t d → d ≡ decision.Waits first → (IsInProgressByOther t (label_of h) → waits t h ≡ is) → waits t g ≡ waited → is ≡ waited
waits_so t {h = h} {g = g} same ok e waiting was =
    let other : IsInProgressByOther t (label_of g) = rw e at ok in
    sym (waiting (subst (λ (l : List Event). IsInProgressByOther t (label_of l)) same other)) ∙ (ap (λ (l : List Event). waits t l) (sym same) ∙ was)

-- the machine ends the thread in a body
pub body_is_stopped : (s m : Standing) (e : ClassId) → is_running s.frames ≡ true → Inner s m (λ c fs. after_body c fs (Ended e)) → m ≡ thread_ended s e
body_is_stopped s m e q is = by s.frames q is where
  at : (b : ClassId) (phase : Phase) (fs : List Frame) → is_running (frame b phase ∷ fs) ≡ true → m ≡ after_body b fs (Ended e) → m ≡ thread_ended (standing (frame b phase ∷ fs) s.last) e
  at b (Running true) fs q is = is
  at b (Running false) fs q is = cc
  at b (Looking waited) fs q is = cc
  at b (Needing rest) fs q is = cc
  at b (EndingBy k by_machine) fs q is = cc

  by : (frames : List Frame) → is_running frames ≡ true → ((f : Frame) (fs : List Frame) → frames ≡ f ∷ fs → m ≡ after_body f.class fs (Ended e)) → m ≡ thread_ended (standing frames s.last) e
  by [] q is = cc
  by (f ∷ fs) q is = at f.class f.phase fs q (is f fs refl)

-- that is an answer
pub ends_thread : (p : LinkedProgram) (t : ℕ) (s : Standing) (e : ClassId) → MayEndThread s.frames → GoesOn s.last → IsMachineError p e → (a : Answer) × Advances p t s a [] (thread_ended s e)
ends_thread p t s e may on machine = by s.frames may where
  at : (b : ClassId) (phase : Phase) (fs : List Frame) → MayEndThread (frame b phase ∷ fs) → (a : Answer) × Advances p t (standing (frame b phase ∷ fs) s.last) a [] (thread_ended (standing (frame b phase ∷ fs) s.last) e)
  at b (Looking waited) fs may = (answer.GaveUp e false, gives_up_look machine)
  at b (Running true) fs may = (answer.BodyEnded (Ended e), leaves_body (rw on machine))
  at b (Running false) fs may = absurd may
  at b (Needing rest) fs may = absurd may
  at b (EndingBy k by_machine) fs may = absurd may

  by : (frames : List Frame) → MayEndThread frames → (a : Answer) × Advances p t (standing frames s.last) a [] (thread_ended (standing frames s.last) e)
  by [] may = absurd may
  by (f ∷ fs) may = at f.class f.phase fs may
