-- Where all threads of a run stand, and what of an order they have kept.
use Rattle.std.specs.Prelude.{◌≡◌, ◌≢◌, ◌⊎◌, ℕ, ◌<◌, List, [], ◌++◌, Option, Some, None, Bool, false, true, length, map, MatchOption, slice_get, slice_index_or}
use Rattle.std.specs.List.{AllByRecursion, Contains}
use Rattle.hierarchy.specs.declared.class.ClassId.{ClassId}
use Rattle.hierarchy.specs.LinkedProgram.{LinkedProgram}
use Rattle.bodies.specs.declared.report.ThreadOutcome.{ThreadOutcome}
use Rattle.bodies.specs.declared.report.ThreadOutcome.TheVariants as outcome
use Rattle.init_core.specs.declared.event.Event.{Event}
use Rattle.init_core.specs.declared.frames.Outcome.{Outcome}
use Rattle.init_core.specs.Interleaving.{of_thread}
use Rattle.bodies.specs.Making.{Making}
use Rattle.replayer.specs.declared.log.EventLog.{EventLog}
use Rattle.replayer.specs.declared.run.Found.{Found}
use Rattle.replayer.specs.declared.run.Found.TheVariants as found
use Rattle.replayer.specs.declared.run.Run.{Run}
use Rattle.replayer.specs.declared.thread.Thread.{Thread}
use Rattle.replayer.specs.declared.thread.Turn.{Turn}
use Rattle.replayer.specs.declared.thread.Turn.TheVariants as turn
use Rattle.replayer.specs.Going.{Going, HasLeft, IsPaused, Resting, outcome_by}
use Rattle.replayer.specs.Logged.{IsLog, HasMade}
use Rattle.replayer.specs.OrderedRun.{Follows, HasJustMade, WaitsFor}

-- a thread goes on, or has ended
abbrev pub IsThere : {S : Type 0} → LinkedProgram → Making S → EventLog → Thread S → Type 0
IsThere p M l w = MatchOption w.done (Resting p M l w) (λ r. HasLeft p M l r w)

-- each thread of the run is so
abbrev pub AllThreads : {S H : Type 0} → (ℕ → Thread S → Type 0) → Run S H → Type 0
AllThreads {S} P r = (t : ℕ) (other : Thread S) → t < length r.threads.items → P t (slice_index_or r.threads.items t other)

-- thread t is so
abbrev pub ThreadAt : {S H : Type 0} → Run S H → ℕ → (Thread S → Type 0) → Type 0
ThreadAt {S} r t P = (other : Thread S) → P (slice_index_or r.threads.items t other)

-- where all threads stand, each at its number
pub record AreGoing {S H : Type 0} (p : LinkedProgram) (M : Making S) (r : Run S H) : Type 0 where
  pub log : IsLog p r.log
  pub count : r.log.threads.value ≡ length r.threads.items
  pub numbers : AllThreads (λ t w. w.number ≡ t) r
  pub threads : AllThreads (λ t w. IsThere p M r.log w) r

-- the main class of each thread, and what runs its bodies at the start
abbrev pub mains_of : {S H : Type 0} → Run S H → List ClassId
mains_of r = map (λ w. w.main) r.threads.items

abbrev pub starts_of : {S H : Type 0} → Run S H → List S
starts_of r = map (λ w. w.start.value) r.threads.items

-- the other threads than t are as they were, and all have the same main classes and starts
pub record IsSameBut {S H : Type 0} (t : ℕ) (before after : Run S H) : Type 0 where
  pub mains : mains_of after ≡ mains_of before
  pub starts : starts_of after ≡ starts_of before
  pub others : (u : ℕ) (other : Thread S) → u ≢ t → slice_index_or after.threads.items u other ≡ slice_index_or before.threads.items u other

-- it waits, and hasn't given up; W says which bodies wait
pub record IsHeld {S : Type 0} (p : LinkedProgram) (M : Making S) (W : Bool → S → Type 0) (l : EventLog) (w : Thread S) : Type 0 where
  pub paused : IsPaused p M W l w
  pub goes_on : w.gave_up ≡ false
  pub done : w.done ≡ None

-- it has ended
abbrev pub HasDone : {S : Type 0} → Thread S → Type 0
HasDone w = (r : Outcome) × (w.done ≡ Some r)

-- thread t gave up afterwards exactly if it had before, and where it had ended before it has ended so afterwards
pub record IsSameThere {S H : Type 0} (t : ℕ) (before after : Run S H) : Type 0 where
  pub gave_up : (other : Thread S) → (slice_index_or after.threads.items t other).gave_up ≡ (slice_index_or before.threads.items t other).gave_up
  pub done : (other : Thread S) (r : Outcome) → (slice_index_or before.threads.items t other).done ≡ Some r → (slice_index_or after.threads.items t other).done ≡ Some r

-- what it comes to that thread t goes on; U says in which states a thread may be after which turns, and W in which of them it waits
abbrev pub HasGone : {S H : Type 0} → LinkedProgram → Making S → (List (ℕ × H) → ℕ → S → Type 0) → (List (ℕ × H) → ℕ → Bool → S → Type 0) → ℕ → Run S H → Run S H → Turn → Type 0
HasGone p M U W t before after turn.Event = (m : HasMade t before.log after.log) × ThreadAt before t (λ w. w.done ≡ None) × ThreadAt before t (λ w. w.gave_up ≡ false → (c : ClassId) → WaitsFor t before.log.events.items c → ⊥) ×
    ThreadAt after t (λ w. Going p M after.log w × U after.shared.turns.items t w.bodies × HasJustMade m.event.kind w.procedure)
HasGone p M U W t before after turn.Waits = (after.log ≡ before.log) × (after.shared ≡ before.shared) × ThreadAt after t (λ w. IsHeld p M (W after.shared.turns.items t) after.log w)
HasGone p M U W t before after (turn.Ended r) = (after.log ≡ before.log) × (after.shared ≡ before.shared) × ThreadAt after t (λ w. w.done ≡ Some r)
HasGone p M U W t before after turn.Silent = (after.log ≡ before.log) × ThreadAt before t (λ w. w.done ≡ None) × ThreadAt after t (λ w. HasDone w ⊎ IsHeld p M (W after.shared.turns.items t) after.log w)
HasGone p M U W t before after turn.Comes = ⊥

-- these are the threads that have given up
abbrev pub AreGone : {S H : Type 0} → List ℕ → Run S H → Type 0
AreGone gone r = AllThreads (λ t w. (w.gave_up ≡ true → Contains gone t) × (Contains gone t → w.gave_up ≡ true)) r

-- a thread that has ended has none of the events and none of the turns to come, and its outcome is this
abbrev pub AreToCome : {S H : Type 0} → List ThreadOutcome → Run S H → List Event → List (ℕ × H) → Type 0
AreToCome outcomes r rest more = AllThreads (λ t w. (x : Outcome) → w.done ≡ Some x → (of_thread t rest ≡ []) × AllByRecursion (λ turn. turn.0 ≢ t) more × (slice_get outcomes t ≡ Some (outcome_by w.gave_up x))) r

-- From one run to a later one, as the order has it: what of it is left, and which threads have given up, before and after.
pub record Leads {S H : Type 0} (p : LinkedProgram) (M : Making S) (U : List (ℕ × H) → ℕ → S → Type 0) (W : List (ℕ × H) → ℕ → Bool → S → Type 0) (order gone : List ℕ) (before : Run S H) (left later : List ℕ) (after : Run S H) : Type 0 where
  pub mains : mains_of after ≡ mains_of before
  pub starts : starts_of after ≡ starts_of before
  pub have_gone : AreGone gone before → AreGone later after
  pub made : List Event
  pub events : after.log.events.items ≡ before.log.events.items ++ made
  pub turned : List (ℕ × H)
  pub turns : after.shared.turns.items ≡ before.shared.turns.items ++ turned
  pub to_come : (outcomes : List ThreadOutcome) (rest : List Event) (more : List (ℕ × H)) → AreToCome outcomes after rest more → AreToCome outcomes before (made ++ rest) (turned ++ more)
  pub follows : AreGone gone before → (outcomes : List ThreadOutcome) (rest : List Event) (more : List (ℕ × H)) → AreToCome outcomes after rest more → Follows p M U W (starts_of after) (mains_of after) outcomes left later after.log.events.items after.shared.turns.items rest more →
      Follows p M U W (starts_of after) (mains_of after) outcomes order gone before.log.events.items before.shared.turns.items (made ++ rest) (turned ++ more)

-- what it comes to that the lowest thread that can goes on: it has gone on, maybe without an event; or none can, and this is
-- the lowest that waits; or all have ended
abbrev pub IsFound : {S H : Type 0} → LinkedProgram → Making S → (List (ℕ × H) → ℕ → S → Type 0) → (List (ℕ × H) → ℕ → Bool → S → Type 0) → Run S H → Run S H → Found → Type 0
IsFound p M U W before after found.GoesOn = (gone : List ℕ) → Leads p M U W [] gone before [] gone after
IsFound p M U W before after (found.Held t) = ((gone : List ℕ) → Leads p M U W [] gone before [] gone after) × (t < length after.threads.items) × ThreadAt after t (IsHeld p M (W after.shared.turns.items t) after.log) ×
    AllThreads (λ u w. HasDone w ⊎ IsHeld p M (W after.shared.turns.items u) after.log w) after × AllThreads (λ u w. u < t → HasDone w) after
IsFound p M U W before after found.Ended = ((gone : List ℕ) → Leads p M U W [] gone before [] gone after) × AllThreads (λ u w. HasDone w) after

-- how a thread ended
abbrev pub outcome_in : Option Outcome → (Outcome → ThreadOutcome) → ThreadOutcome
outcome_in None by = outcome.Normal
outcome_in (Some r) by = by r

-- how each thread ended
abbrev pub outcomes_of : {S H : Type 0} → Run S H → List ThreadOutcome
outcomes_of r = map (λ w. outcome_in w.done (outcome_by w.gave_up)) r.threads.items
