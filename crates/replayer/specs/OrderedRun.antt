-- What the ordered run of several main classes makes.
use Rattle.std.specs.Prelude.{◌≡◌, ◌≢◌, ◌⊎◌, ℕ, ◌<◌, List, [], ◌∷◌, ◌++◌, Some, None, Bool, true, false, length, map, slice_get}
use Rattle.std.specs.List.{AllByRecursion, Contains}
use Rattle.hierarchy.specs.declared.class.ClassId.{ClassId}
use Rattle.hierarchy.specs.LinkedProgram.{LinkedProgram}
use Rattle.init_core.specs.declared.event.Event.{Event}
use Rattle.init_core.specs.declared.event.Kind.{Kind}
use Rattle.init_core.specs.declared.event.Kind.TheVariants as kind
use Rattle.init_core.specs.declared.frames.Ending.{Ending}
use Rattle.init_core.specs.declared.frames.Ending.TheVariants as ending
use Rattle.init_core.specs.declared.frames.Frame.{Frame}
use Rattle.init_core.specs.declared.frames.Phase.TheVariants.{Looking, EndingBy}
use Rattle.init_core.specs.Advance.{MayRequest, is_waiting}
use Rattle.init_core.specs.Decisions.{waits}
use Rattle.init_core.specs.Interleaving.{of_thread, of_class, label_at}
use Rattle.init_core.specs.Lawful.{IsInProgressByOther}
use Rattle.init_core.specs.Leads.{frame}
use Rattle.init_core.specs.Standing.{Standing}
use Rattle.bodies.specs.declared.report.Limit.TheVariants.{Memory, Patience}
use Rattle.bodies.specs.declared.report.Limits.{Limits}
use Rattle.bodies.specs.declared.report.Report.{Report}
use Rattle.bodies.specs.declared.report.ThreadOutcome.{ThreadOutcome}
use Rattle.bodies.specs.declared.report.ThreadOutcome.TheVariants as outcome
use Rattle.bodies.specs.declared.does.Does.TheVariants.{Touches}
use Rattle.bodies.specs.Sharing.{Sharing, Used, used_at_start, used_bodies}
use Rattle.bodies.specs.Making.{Making}
use Rattle.bodies.specs.Runs.{IsRunOf, IsThreadRun}
use Rattle.bodies.specs.ThreadStands.{ThreadStands}
use Rattle.replayer.specs.Turns.{AreOf, left_by, uses_of}

-- these bodies never wait
abbrev pub NeverWait : {S : Type 0} → Making S → Type 0
NeverWait {S} M = (s : S) → M.waits s → ⊥

-- within these limits a thread that waits may give up: they have a patience, or it is alone and never waits
abbrev pub MayGiveUp : {S : Type 0} → Making S → ℕ → Limits → Type 0
MayGiveUp M threads limits = limits.patience ≡ 0 → (threads ≡ 1) × NeverWait M

-- after the events h of all threads, t's last event at c is a step 2, and another thread initializes c
pub record WaitsFor (t : ℕ) (h : List Event) (c : ClassId) : Type 0 where
  pub last : waits t (of_class c h) ≡ true
  pub other : IsInProgressByOther t (label_at h c)

-- after the events h, t stands in such a way; U says which states it may be in
pub record IsAt {S : Type 0} (p : LinkedProgram) (M : Making S) (Such : Standing → Type 0) (U : S → Type 0) (starts : List S) (mains : List ClassId) (t : ℕ) (h : List Event) : Type 0 where
  pub start : S
  pub main : ClassId
  pub its_start : slice_get starts t ≡ Some start
  pub its_main : slice_get mains t ≡ Some main
  pub in_main : Bool
  pub standing : Standing
  pub state : S
  pub stands : ThreadStands p t M start main in_main standing (of_thread t h) (λ c. of_class c h) state
  pub such : Such standing
  pub used : U state

-- after the events h of all threads, t stands so in a body: of an initializer after step 9, or of main
pub record IsInBodyAt {S : Type 0} (p : LinkedProgram) (M : Making S) (starts : List S) (mains : List ClassId) (t : ℕ) (h : List Event) (s : S) : Type 0 where
  pub start : S
  pub main : ClassId
  pub its_start : slice_get starts t ≡ Some start
  pub its_main : slice_get mains t ≡ Some main
  pub in_main : Bool
  pub standing : Standing
  pub stands : ThreadStands p t M start main in_main standing (of_thread t h) (λ c. of_class c h) s
  pub requests : MayRequest standing.frames
  pub body : standing.frames ≡ [] → in_main ≡ true

-- after the events h, t waits in a body; W says which bodies wait
pub record WaitsInBody {S : Type 0} (p : LinkedProgram) (M : Making S) (W : S → Type 0) (starts : List S) (mains : List ClassId) (t : ℕ) (h : List Event) : Type 0 where
  pub before : S
  pub body : IsInBodyAt p M starts mains t h before
  pub now : S
  pub come : (now ≡ before) ⊎ M.does before body.standing.last Touches now
  pub waits : W now

-- t waits, and is none of those that have given up; W says in which states, in a body or (false) for a class
pub record IsWaiting {S : Type 0} (p : LinkedProgram) (M : Making S) (W : Bool → S → Type 0) (starts : List S) (mains : List ClassId) (gone : List ℕ) (t : ℕ) (h : List Event) : Type 0 where
  pub goes_on : Contains gone t → ⊥
  pub waits : ((c : ClassId) × WaitsFor t h c × IsAt p M (λ s. is_waiting c s.frames ≡ true) (W false) starts mains t h) ⊎ WaitsInBody p M (W true) starts mains t h

-- t has none of the events and none of the turns to come; it was ended for patience if it has given up, and not otherwise
pub record HasEnded {H : Type 0} (outcomes : List ThreadOutcome) (gone : List ℕ) (t : ℕ) (rest : List Event) (more : List (ℕ × H)) : Type 0 where
  pub none : of_thread t rest ≡ []
  pub turns : AllByRecursion (λ turn. turn.0 ≢ t) more
  pub patient : slice_get outcomes t ≡ Some (outcome.Ended Patience) → Contains gone t
  pub gave_up : Contains gone t → slice_get outcomes t ≡ Some (outcome.Ended Patience)

-- after the events h, with these events and turns to come, t can't go on
abbrev pub IsStuck : {S H : Type 0} → LinkedProgram → Making S → (ℕ → Bool → S → Type 0) → List S → List ClassId → List ThreadOutcome → List ℕ → ℕ → List Event → List Event → List (ℕ × H) → Type 0
IsStuck p M W starts mains outcomes gone t h rest more = HasEnded outcomes gone t rest more ⊎ IsWaiting p M (W t) starts mains gone t h

-- what a body makes itself
abbrev pub IsOfBody : Kind → Type 0
IsOfBody (kind.Gets field value) = Unit {0}
IsOfBody (kind.Puts field value) = Unit {0}
IsOfBody (kind.Prints text) = Unit {0}
IsOfBody k = ⊥

-- Procedures that stand so have done nothing since an event of this kind: no body has asked for a class, none is over, and main has begun
-- only where the event is its own.
pub record HasJustMade (k : Kind) (s : Standing) : Type 0 where
  pub asked : (c : ClassId) (fs : List Frame) → s.frames ≡ frame c (Looking false) ∷ fs → MayRequest fs → ⊥
  pub over : (c : ClassId) (j : Ending) (by_machine : Bool) (fs : List Frame) → s.frames ≡ frame c (EndingBy j by_machine) ∷ fs → (e : ClassId) × (j ≡ ending.SuperFails e)
  pub entered : s.frames ≡ [] → s.last ≡ None → IsOfBody k

-- After the events h and the turns g, with this much of the order left, and once these threads have given up, the events to come
-- are `rest`, and the turns to come `more`. U says in which states a thread may be after which turns, and W in which of them it waits, in a body or (false) for a class.
pub data Follows {S H : Type 0} (p : LinkedProgram) (M : Making S) (U : List (ℕ × H) → ℕ → S → Type 0) (W : List (ℕ × H) → ℕ → Bool → S → Type 0) (starts : List S) (mains : List ClassId) (outcomes : List ThreadOutcome) : List ℕ → List ℕ → List Event → List (ℕ × H) → List Event → List (ℕ × H) → Type 0 where
  -- the next number of the order is of a thread that goes on: after turns of its own it makes the next event
  made : {order : List ℕ} {h rest : List Event} {g more : List (ℕ × H)} (e : Event) (own : List (ℕ × H)) → AreOf e.thread own → ((c : ClassId) → WaitsFor e.thread h c → ⊥) → IsAt p M (HasJustMade e.kind) (U (g ++ own) e.thread) starts mains e.thread (h ++ e ∷ []) →
      Follows p M U W starts mains outcomes order [] (h ++ e ∷ []) (g ++ own) rest more → Follows p M U W starts mains outcomes (e.thread ∷ order) [] h g (e ∷ rest) (own ++ more)
  -- or of one that can't, or can't any more: the number is used up
  skipped : {order : List ℕ} {h rest : List Event} {g more : List (ℕ × H)} (t : ℕ) (own : List (ℕ × H)) → AreOf t own → IsStuck p M (W (g ++ own)) starts mains outcomes [] t h rest more →
      Follows p M U W starts mains outcomes order [] h (g ++ own) rest more → Follows p M U W starts mains outcomes (t ∷ order) [] h g rest (own ++ more)
  -- the order is used up: the lowest thread that can go on makes the next event
  lowest : {gone : List ℕ} {h rest : List Event} {g more : List (ℕ × H)} (e : Event) (own : List (ℕ × H)) → AreOf e.thread own → ((u : ℕ) → u < e.thread → IsStuck p M (W g) starts mains outcomes gone u h (e ∷ rest) (own ++ more)) →
      ((c : ClassId) → WaitsFor e.thread h c → Contains gone e.thread) → IsAt p M (HasJustMade e.kind) (U (g ++ own) e.thread) starts mains e.thread (h ++ e ∷ []) →
      Follows p M U W starts mains outcomes [] gone (h ++ e ∷ []) (g ++ own) rest more → Follows p M U W starts mains outcomes [] gone h g (e ∷ rest) (own ++ more)
  -- or it goes on without an event, until it can't any more
  goes_on : {gone : List ℕ} {h rest : List Event} {g more : List (ℕ × H)} (t : ℕ) (own : List (ℕ × H)) → AreOf t own → t < length mains → ((u : ℕ) → u < t → IsStuck p M (W g) starts mains outcomes gone u h rest (own ++ more)) →
      IsStuck p M (W (g ++ own)) starts mains outcomes gone t h rest more →
      Follows p M U W starts mains outcomes [] gone h (g ++ own) rest more → Follows p M U W starts mains outcomes [] gone h g rest (own ++ more)
  -- none can go on: the lowest thread that waits gives up
  gives_up : {gone : List ℕ} {h rest : List Event} {g more : List (ℕ × H)} (t : ℕ) (own : List (ℕ × H)) → AreOf t own → t < length mains → IsWaiting p M (W g t) starts mains gone t h → ((u : ℕ) → u < t → HasEnded outcomes gone u rest (own ++ more)) →
      ((u : ℕ) → u < length mains → IsStuck p M (W g) starts mains outcomes gone u h rest (own ++ more)) →
      Follows p M U W starts mains outcomes [] (t ∷ gone) h (g ++ own) rest more → Follows p M U W starts mains outcomes [] gone h g rest (own ++ more)
  -- all threads have ended
  ended : {gone : List ℕ} {h : List Event} {g : List (ℕ × H)} → ((t : ℕ) → t < length mains → HasEnded {H = H} outcomes gone t [] []) → Follows p M U W starts mains outcomes [] gone h g [] []

-- thread t has used in its turns what is shared, where this was shared at first
abbrev pub HasUsed : {S H : Type 0} → H → List (ℕ × H) → ℕ → Used S H → Type 0
HasUsed first turns t s = s.uses ≡ uses_of t first turns

-- it waits in a body where this is shared; it waits for a class whatever is
abbrev pub WaitsAt : {S H : Type 0} → Sharing S H → H → Bool → Used S H → Type 0
WaitsAt M met false s = Unit {0}
WaitsAt M met true s = M.waits s.state met

-- and it waits with what they left
abbrev pub WaitsAfter : {S H : Type 0} → Sharing S H → H → List (ℕ × H) → ℕ → Bool → Used S H → Type 0
WaitsAfter M first turns t in_body s = HasUsed first turns t s × WaitsAt M (left_by first turns) in_body s

-- Thread t of main class m did this and ended so, from this start, and then left what it held. What it met and left of what is
-- shared is what these turns have of it, where `first` was shared at first.
pub record IsTurnsOf {S H : Type 0} (p : LinkedProgram) (M : Making (Used S H)) (first : H) (turns : List (ℕ × H)) (start : Used S H) (limits : Limits) (t : ℕ) (m : ClassId) (events : List Event) (o : ThreadOutcome) : Type 0 where
  pub run : IsThreadRun p M start limits t m events o
  pub last : Used S H
  pub ends : M.ends run.end last
  pub uses : HasUsed first turns t last

-- each thread has done so
abbrev pub AreTurnsOf : {S H : Type 0} → LinkedProgram → Making (Used S H) → H → List (ℕ × H) → List (Used S H) → List ClassId → Limits → List Event → List ThreadOutcome → Type 0
AreTurnsOf {S} {H} p M first turns starts mains limits events outcomes = (t : ℕ) (m : ClassId) (start : Used S H) → slice_get mains t ≡ Some m → slice_get starts t ≡ Some start →
    (o : ThreadOutcome) × (slice_get outcomes t ≡ Some o) × IsTurnsOf p M first turns start limits t m (of_thread t events) o

-- The run of these main classes in this order, each on a thread of its own whose bodies are made from the start of its number: a
-- legal interleaving with its outcomes, labels and output, as within each limits that let a thread give up. What the threads share is
-- one, which is `first` at first, and which each meets as the turn before left it. The run keeps the order, and no thread is ended
-- since memory ran out.
pub record IsOrderedRunOf {S H : Type 0} (p : LinkedProgram) (M : Sharing S H) (first : H) (starts : List S) (mains : List ClassId) (order : List ℕ) (r : Report) : Type 0 where
  pub run : (limits : Limits) → MayGiveUp (used_bodies M) (length mains) limits → IsRunOf p (used_bodies M) (map used_at_start starts) mains limits r
  pub memory : (t : ℕ) → slice_get r.outcomes t ≢ Some (outcome.Ended Memory)
  pub turns : List (ℕ × H)
  pub threads : (limits : Limits) → MayGiveUp (used_bodies M) (length mains) limits → AreTurnsOf p (used_bodies M) first turns (map used_at_start starts) mains limits r.events r.outcomes
  pub follows : Follows p (used_bodies M) (HasUsed first) (WaitsAfter M first) (map used_at_start starts) mains r.outcomes order [] [] [] r.events turns
