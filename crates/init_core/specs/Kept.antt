-- What the record of a class keeps of all events: those of the class but step 9, which is made without its initialization
-- lock (JLS SE 8 12.4.2).
use Rattle.std.specs.Prelude.{◌≡◌, ◌≢◌, List, [], ◌∷◌, ◌++◌, Some, false}
use Rattle.hierarchy.specs.declared.class.ClassId.{ClassId}
use Rattle.init_core.specs.declared.event.Event.{Event}
use Rattle.init_core.specs.declared.event.Kind.TheVariants as kind
use Rattle.init_core.specs.Interleaving.{is_class}

-- this history is what the record of c keeps of these events
pub data IsKeptOf (c : ClassId) : List Event → List Event → Type 0 where
  keeps_none : IsKeptOf c [] []
  -- an event of the class
  keeps : {events history : List Event} (e : Event) → e.class ≡ Some c → e.kind ≢ kind.Runs → IsKeptOf c events history → IsKeptOf c (events ++ e ∷ []) (history ++ e ∷ [])
  -- one of another class, or of none
  drops_other : {events history : List Event} (e : Event) → is_class c e.class ≡ false → IsKeptOf c events history → IsKeptOf c (events ++ e ∷ []) history
  -- step 9
  drops_step_9 : {events history : List Event} (e : Event) → e.kind ≡ kind.Runs → IsKeptOf c events history → IsKeptOf c (events ++ e ∷ []) history

-- the records of all classes keep these
abbrev pub AreKeptOf : List Event → (ClassId → List Event) → Type 0
AreKeptOf events seen = (c : ClassId) → IsKeptOf c events (seen c)
