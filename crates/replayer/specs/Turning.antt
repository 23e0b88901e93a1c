-- The turns that the threads of a run have had, and what comes of each call on the run.
use Rattle.std.specs.Prelude.{◌≡◌, ℕ, [], ◌++◌, List, map}
use Rattle.bodies.specs.Sharing.{Sharing, Used, used_at_start, used_bodies}
use Rattle.hierarchy.specs.declared.class.ClassId.{ClassId}
use Rattle.hierarchy.specs.LinkedProgram.{LinkedProgram}
use Rattle.replayer.specs.declared.log.EventLog.{EventLog}
use Rattle.replayer.specs.declared.run.Found.{Found}
use Rattle.replayer.specs.declared.run.Run.{Run}
use Rattle.replayer.specs.declared.shared.Shared.{Shared}
use Rattle.replayer.specs.declared.thread.Thread.{Thread}
use Rattle.replayer.specs.declared.thread.Turn.{Turn}
use Rattle.replayer.specs.AllGoing.{AllThreads, AreGoing, AreGone, HasGone, IsFound, IsHeld, IsSameBut, Leads, ThreadAt, mains_of, starts_of}
use Rattle.replayer.specs.Going.{IsPaused, TurnsTo}
use Rattle.replayer.specs.OrderedRun.{HasUsed, WaitsAfter, WaitsAt}
use Rattle.replayer.specs.Turns.{AreOf, left_by, uses_of}

-- thread t has had turns, which are among what it has used
pub record HasTurned {H : Type 0} (t : ℕ) (before after : Shared H) (uses used : List (H × H)) : Type 0 where
  pub turned : List (ℕ × H)
  pub own : AreOf t turned
  pub turns : after.turns.items ≡ before.turns.items ++ turned
  pub state : after.state ≡ left_by before.state turned
  pub has_used : used ≡ uses ++ uses_of t before.state turned
  pub first : after.first ≡ before.first

-- what a turn of a thread comes to, while the threads share h
abbrev pub TurnsWith : {S H : Type 0} → LinkedProgram → Sharing S H → H → EventLog → Thread (Used S H) → EventLog → Thread (Used S H) → Turn → Type 0
TurnsWith p M h l w m x = TurnsTo p (used_bodies M) (WaitsAt M h) l w m x

-- a thread waits, while they share h
abbrev pub IsPausedWith : {S H : Type 0} → LinkedProgram → Sharing S H → H → EventLog → Thread (Used S H) → Type 0
IsPausedWith p M h l w = IsPaused p (used_bodies M) (WaitsAt M h) l w

-- what all threads share is what the turns left, and each thread has used it in its turns
pub record AreInTurn {S H : Type 0} (r : Run (Used S H) H) : Type 0 where
  pub state : r.shared.state ≡ left_by r.shared.first.value r.shared.turns.items
  pub uses : AllThreads (λ t w. w.bodies.uses ≡ uses_of t r.shared.first.value r.shared.turns.items) r

-- a run has just begun, of threads with these main classes and these bodies, which share h
pub record HasBegun {S H : Type 0} (p : LinkedProgram) (M : Sharing S H) (ms : List ClassId) (bodies : List S) (h : H) (r : Run (Used S H) H) : Type 0 where
  pub going : AreGoing p (used_bodies M) r
  pub in_turn : AreInTurn r
  pub fresh : AreGone [] r
  pub events : r.log.events.items ≡ []
  pub turns : r.shared.turns.items ≡ []
  pub mains : mains_of r ≡ ms
  pub starts : starts_of r ≡ map used_at_start bodies
  pub first : r.shared.first.value ≡ h

-- the run goes on; what its threads shared at first is the same
pub record StillGoes {S H : Type 0} (p : LinkedProgram) (M : Sharing S H) (before after : Run (Used S H) H) : Type 0 where
  pub going : AreGoing p (used_bodies M) after
  pub in_turn : AreInTurn after
  pub first : after.shared.first ≡ before.shared.first

-- from before to after only thread t has had turns
pub record HadTurnsAlone {S H : Type 0} (t : ℕ) (before after : Run S H) : Type 0 where
  pub turned : List (ℕ × H)
  pub own : AreOf t turned
  pub turns : after.shared.turns.items ≡ before.shared.turns.items ++ turned

-- the run goes on by thread t alone
pub record GoesAlone {S H : Type 0} (p : LinkedProgram) (M : Sharing S H) (t : ℕ) (before after : Run (Used S H) H) : Type 0 where
  pub still : StillGoes p M before after
  pub turned : HadTurnsAlone t before after
  pub others : IsSameBut t before after

-- what came of it that thread t went on
abbrev pub HasGoneWith : {S H : Type 0} → LinkedProgram → Sharing S H → ℕ → Run (Used S H) H → Run (Used S H) H → Turn → Type 0
HasGoneWith p M t before after = HasGone p (used_bodies M) (HasUsed before.shared.first.value) (WaitsAfter M before.shared.first.value) t before after

-- what came of it that the lowest thread that can went on
abbrev pub IsFoundWith : {S H : Type 0} → LinkedProgram → Sharing S H → Run (Used S H) H → Run (Used S H) H → Found → Type 0
IsFoundWith p M before after = IsFound p (used_bodies M) (HasUsed before.shared.first.value) (WaitsAfter M before.shared.first.value) before after

-- thread t waits, and hasn't given up
abbrev pub IsHeldAt : {S H : Type 0} → LinkedProgram → Sharing S H → ℕ → Run (Used S H) H → Type 0
IsHeldAt p M t r = ThreadAt r t (IsHeld p (used_bodies M) (WaitsAfter M r.shared.first.value r.shared.turns.items t) r.log)

-- the run has followed this order to its end; if no thread had given up before it, these have after it
abbrev pub HasFollowed : {S H : Type 0} → LinkedProgram → Sharing S H → List ℕ → Run (Used S H) H → List ℕ → Run (Used S H) H → Type 0
HasFollowed p M order before gone after = Leads p (used_bodies M) (HasUsed before.shared.first.value) (WaitsAfter M before.shared.first.value) order [] before [] gone after
