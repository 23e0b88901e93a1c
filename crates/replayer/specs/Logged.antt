-- The events of a run, and the state of each class after them.
use Rattle.std.specs.Prelude.{◌≡◌, ℕ, ◌<◌, ◌≤◌, length, List, [], ◌∷◌, ◌++◌, slice_index_or}
use Rattle.std.specs.List.{AllByRecursion}
use Rattle.hierarchy.specs.declared.class.ClassId.{ClassId}
use Rattle.hierarchy.specs.LinkedProgram.{LinkedProgram, id}
use Rattle.statics.specs.Statics.{statics_of}
use Rattle.init_core.specs.declared.event.Event.{Event}
use Rattle.init_core.specs.declared.event.TheConstants.{THREADS}
use Rattle.init_core.specs.ClassState.{State, IsStateOf}
use Rattle.init_core.specs.Interleaving.{of_class}
use Rattle.init_core.specs.ProgramEvents.{IsProgramEvent}
use Rattle.init_core.specs.Stands.{SeesMore}
use Rattle.replayer.specs.declared.log.EventLog.{EventLog}

-- this is the state of c after these events
pub record IsStateAfter (p : LinkedProgram) (events : List Event) (c : ClassId) (s : State) : Type 0 where
  pub class : s.class ≡ c
  pub fields : s.fields ≡ statics_of p c
  pub state : IsStateOf s (of_class c events)

-- each event is one of the program and its threads, and the state of each class of the files is that after all
pub record IsLog (p : LinkedProgram) (l : EventLog) : Type 0 where
  pub few : l.threads.value ≤ THREADS
  pub count : length l.states.items ≡ length p.classes
  pub states : (n : ℕ) (other : State) → n < length p.classes → IsStateAfter p l.events.items (id n) (slice_index_or l.states.items n other)
  pub events : AllByRecursion (λ e. IsProgramEvent p l.threads.value e) l.events.items

-- what is seen of each class
abbrev pub histories : List Event → ClassId → List Event
histories events c = of_class c events

-- thread t has made one event, as the labels allow it
pub record HasMade (t : ℕ) (before after : EventLog) : Type 0 where
  pub event : Event
  pub thread : event.thread ≡ t
  pub events : after.events.items ≡ before.events.items ++ event ∷ []
  pub sees : SeesMore (histories before.events.items) (λ c. of_class c (event ∷ [])) (histories after.events.items)
  pub threads : after.threads ≡ before.threads
