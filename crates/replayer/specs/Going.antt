-- Where a thread of a run stands, by its bodies.
use Rattle.std.specs.Prelude.{◌≡◌, ◌≢◌, ◌⊎◌, ℕ, ◌<◌, [], Some, None, Bool, true, false, Option}
use Rattle.hierarchy.specs.declared.class.ClassId.{ClassId}
use Rattle.hierarchy.specs.LinkedProgram.{LinkedProgram}
use Rattle.init_core.specs.declared.frames.Outcome.{Outcome}
use Rattle.init_core.specs.declared.frames.Outcome.TheVariants.{Normal, Abrupt, Ended}
use Rattle.init_core.specs.declared.procedure.Next.TheVariants as next
use Rattle.init_core.specs.Advance.{MayRequest, is_waiting, next_of}
use Rattle.init_core.specs.Decisions.{waits}
use Rattle.init_core.specs.Interleaving.{of_thread}
use Rattle.init_core.specs.ProcedureWord.{ThreadWordOf, GoesOn, IsOfFiles}
use Rattle.init_core.specs.Stands.{ending_error}
use Rattle.bodies.specs.declared.report.Limit.{Limit}
use Rattle.bodies.specs.declared.report.Limit.TheVariants.{Patience, Steps}
use Rattle.bodies.specs.declared.report.Limits.{Limits}
use Rattle.bodies.specs.declared.report.ThreadOutcome.{ThreadOutcome}
use Rattle.bodies.specs.declared.report.ThreadOutcome.TheVariants as outcome
use Rattle.bodies.specs.declared.does.Does.{Does}
use Rattle.bodies.specs.declared.does.Does.TheVariants.{Touches}
use Rattle.bodies.specs.Doing.{MayDo}
use Rattle.bodies.specs.Making.{Making, HasCome, maker_of}
use Rattle.bodies.specs.Runs.{IsEndedAt}
use Rattle.bodies.specs.ThreadStands.{ThreadStands}
use Rattle.replayer.specs.declared.log.EventLog.{EventLog}
use Rattle.replayer.specs.declared.thread.Thread.{Thread}
use Rattle.replayer.specs.declared.thread.Turn.{Turn}
use Rattle.replayer.specs.declared.thread.Turn.TheVariants as turn
use Rattle.replayer.specs.Logged.{IsLog, HasMade, histories}
use Rattle.replayer.specs.OrderedRun.{HasJustMade, MayGiveUp, WaitsFor}

-- what the machine ends a thread for: its patience, where it gave up, and else the limit of its steps
abbrev pub limit_by : Bool → Limit
limit_by true = Patience
limit_by false = Steps

-- one of so many threads may have been ended so, by this error, whose bodies are in this state
abbrev pub IsWhy : {S : Type 0} → LinkedProgram → Making S → S → ℕ → Bool → ClassId → Type 0
IsWhy p M s threads gave_up e = (limits : Limits) → MayGiveUp M threads limits → IsEndedAt p M limits s (limit_by gave_up) e

-- how a thread ended, by the result of what it did
abbrev pub outcome_by : Bool → Outcome → ThreadOutcome
outcome_by gave_up Normal = outcome.Normal
outcome_by gave_up (Abrupt e) = outcome.Abrupt e
outcome_by gave_up (Ended e) = outcome.Ended (limit_by gave_up)

-- where a thread stands that hasn't ended
pub record Going {S : Type 0} (p : LinkedProgram) (M : Making S) (l : EventLog) (w : Thread S) : Type 0 where
  pub number : w.number < l.threads.value
  pub main : IsOfFiles p w.main
  pub log : IsLog p l
  pub stands : ThreadStands p w.number M w.start.value w.main w.in_main w.procedure (of_thread w.number l.events.items) (histories l.events.items) w.bodies
  -- its first request was made
  pub begun : w.in_main ≡ false → w.procedure.frames ≡ [] → w.procedure.last ≢ None
  pub reason : (e : ClassId) → ending_error w.procedure ≡ Some e → IsWhy p M w.bodies l.threads.value w.gave_up e
  -- until it gives up, its last event at a class is a step 2 only where it waits there
  pub calm : w.gave_up ≡ false → (c : ClassId) → waits w.number (histories l.events.items c) ≡ true → is_waiting c w.procedure.frames ≡ true
  -- and then the machine is ending it
  pub gone : w.gave_up ≡ true → ending_error w.procedure ≢ None

-- thread t has just begun, with this main class and this to run its bodies
pub record IsNew {S : Type 0} (p : LinkedProgram) (M : Making S) (l : EventLog) (t : ℕ) (m : ClassId) (s : S) (w : Thread S) : Type 0 where
  pub going : Going p M l w
  pub number : w.number ≡ t
  pub main : w.main ≡ m
  pub start : w.start.value ≡ s
  pub bodies : w.bodies ≡ s
  pub done : w.done ≡ None
  pub gave_up : w.gave_up ≡ false

-- the same thread, which gave up before or didn't
pub record IsSameThread {S : Type 0} (before after : Thread S) : Type 0 where
  pub number : after.number ≡ before.number
  pub main : after.main ≡ before.main
  pub start : after.start ≡ before.start
  pub gave_up : after.gave_up ≡ before.gave_up
  pub done : after.done ≡ before.done

-- it is in a body: of an initializer after step 9, or of main
pub record IsInBody {S : Type 0} (w : Thread S) : Type 0 where
  pub requests : MayRequest w.procedure.frames
  pub main : w.procedure.frames ≡ [] → w.in_main ≡ true

-- what runs its bodies has come from where they stand to where the machine may end the innermost
pub record HasComeTo {S : Type 0} (p : LinkedProgram) (M : Making S) (l : EventLog) (w : Thread S) : Type 0 where
  pub from : S
  pub going : Going p M l (record w { bodies = from })
  pub body : IsInBody w
  pub come : HasCome M from w.procedure.last w.bodies

-- what runs its bodies has come to what the innermost does next
pub record IsDoing {S : Type 0} (p : LinkedProgram) (M : Making S) (l : EventLog) (d : Does) (w : Thread S) : Type 0 where
  pub from : S
  pub going : Going p M l (record w { bodies = from })
  pub body : IsInBody w
  pub goes_on : GoesOn w.procedure.last
  pub does : M.does from w.procedure.last d w.bodies
  pub fits : MayDo p M.limits w.procedure.last d w.bodies

-- what runs its bodies has come to something that another thread held
pub record IsHeldUp {S : Type 0} (p : LinkedProgram) (M : Making S) (l : EventLog) (w : Thread S) : Type 0 where
  pub doing : IsDoing p M l Touches w
  pub waits : M.waits w.bodies

-- where a thread stands, in a body maybe after it has come to something that another thread held
abbrev pub Resting : {S : Type 0} → LinkedProgram → Making S → EventLog → Thread S → Type 0
Resting p M l w = Going p M l w ⊎ IsHeldUp p M l w

-- the thread has ended with this result
pub record IsOver {S : Type 0} (p : LinkedProgram) (M : Making S) (l : EventLog) (r : Outcome) (w : Thread S) : Type 0 where
  pub number : w.number < l.threads.value
  pub word : ThreadWordOf p w.number (maker_of p M) w.start.value w.main (of_thread w.number l.events.items) r w.bodies
  pub reason : (e : ClassId) → r ≡ Ended e → IsWhy p M w.bodies l.threads.value w.gave_up e
  pub gave_up : w.gave_up ≡ true → (e : ClassId) × (r ≡ Ended e)

-- and has left what it held
pub record HasLeft {S : Type 0} (p : LinkedProgram) (M : Making S) (l : EventLog) (r : Outcome) (w : Thread S) : Type 0 where
  pub number : w.number < l.threads.value
  pub end : S
  pub word : ThreadWordOf p w.number (maker_of p M) w.start.value w.main (of_thread w.number l.events.items) r end
  pub ends : M.ends end w.bodies
  pub reason : (e : ClassId) → r ≡ Ended e → IsWhy p M end l.threads.value w.gave_up e
  pub gave_up : w.gave_up ≡ true → (e : ClassId) × (r ≡ Ended e)

-- it waits in a body; W says in which states one waits, in a body or (false) for a class
pub record WaitsInside {S : Type 0} (p : LinkedProgram) (M : Making S) (W : Bool → S → Type 0) (l : EventLog) (w : Thread S) : Type 0 where
  pub resting : Resting p M l w
  pub body : IsInBody w
  pub goes_on : GoesOn w.procedure.last
  pub waits : W true w.bodies

-- it waits for a class, or in a body
pub data IsPaused {S : Type 0} (p : LinkedProgram) (M : Making S) (W : Bool → S → Type 0) (l : EventLog) (w : Thread S) : Type 0 where
  at_class : (c : ClassId) → Going p M l w → next_of w.procedure.frames ≡ next.Look c → WaitsFor w.number l.events.items c → W false w.bodies → IsPaused p M W l w
  in_body : WaitsInside p M W l w → IsPaused p M W l w

-- it has made an event and done nothing since, and didn't wait before unless it gave up
pub record HasStepped {S : Type 0} (p : LinkedProgram) (M : Making S) (l : EventLog) (w : Thread S) (m : EventLog) (x : Thread S) : Type 0 where
  pub going : Going p M m x
  pub made : HasMade w.number l m
  pub just : HasJustMade made.event.kind x.procedure
  pub free : w.gave_up ≡ false → (c : ClassId) → WaitsFor w.number l.events.items c → ⊥

-- it goes on, or has ended with this result
abbrev pub GoesOrEnds : {S : Type 0} → LinkedProgram → Making S → EventLog → Thread S → Option Outcome → Type 0
GoesOrEnds p M l x None = Going p M l x
GoesOrEnds p M l x (Some r) = IsOver p M l r x

-- a turn without an event, by how the thread ended, if it did
abbrev pub turn_by : Option Outcome → Turn
turn_by None = turn.Silent
turn_by (Some r) = turn.Ended r

-- what a turn of a thread comes to, from w and the log l to x and the log m; W says in which states one waits
abbrev pub TurnsTo : {S : Type 0} → LinkedProgram → Making S → (Bool → S → Type 0) → EventLog → Thread S → EventLog → Thread S → Turn → Type 0
TurnsTo p M W l w m x turn.Event = HasStepped p M l w m x
TurnsTo p M W l w m x turn.Silent = Resting p M m x × (m ≡ l)
TurnsTo p M W l w m x turn.Comes = IsPaused p M W m x × (m ≡ l)
TurnsTo p M W l w m x turn.Waits = IsPaused p M W m x × (m ≡ l)
TurnsTo p M W l w m x (turn.Ended r) = IsOver p M m r x × (m ≡ l)
