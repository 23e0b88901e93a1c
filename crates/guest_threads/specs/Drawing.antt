-- Which events a thread may draw at which place, and which record of a class may take another's place.
use Rattle.std.specs.Prelude.{◌≡◌, ℕ, List, ◌++◌, Option, Some, None, map}
use Rattle.std.specs.List.{AllByRecursion}
use Rattle.hierarchy.specs.declared.class.ClassId.{ClassId}
use Rattle.hierarchy.specs.LinkedProgram.{id}
use Rattle.init_core.specs.declared.event.Event.{Event}
use Rattle.init_core.specs.declared.event.Kind.{Kind}
use Rattle.init_core.specs.declared.event.Kind.TheVariants as kind
use Rattle.init_core.specs.History.{History, AreOfOneClass}
use Rattle.init_lock.specs.Log.{Entry}
use Rattle.bodies.specs.Writes.{WritesHeld}

-- what is drawn under the initialization lock of a class: each step but 9, and each read and write of a static field
abbrev pub IsPlaced : Kind → Type 0
IsPlaced kind.Runs = ⊥
IsPlaced (kind.Prints text) = ⊥
IsPlaced k = Unit {0}

-- what is drawn under no lock: a step 9, a step 4 at a class that was seen to be initialized, a print
abbrev pub IsUnplaced : Option ClassId → Kind → Type 0
IsUnplaced (Some c) kind.Runs = Unit {0}
IsUnplaced (Some c) kind.FindsInitialized = Unit {0}
IsUnplaced None (kind.Prints text) = Unit {0}
IsUnplaced c k = ⊥

-- the class that must be initialized before such an event
abbrev pub leaning : Option ClassId → Kind → Option ℕ
leaning (Some c) kind.FindsInitialized = Some c.number
leaning c k = None

abbrev pub leans_on : Event → Option ℕ
leans_on e = leaning e.class e.kind

-- what thread t may draw at a place, which is the number of a class, or at none
abbrev pub MayDraw : ℕ → Option ℕ → Event → Type 0
MayDraw t (Some n) e = (e.thread ≡ t) × (e.class ≡ Some (id n)) × IsPlaced e.kind
MayDraw t None e = (e.thread ≡ t) × IsUnplaced e.class e.kind

-- a record of the same class, whose history begins with the other's
abbrev pub Follows : History → History → Type 0
Follows x y = AreOfOneClass x y × (more : List Event) × (y.events ≡ x.events ++ more) × AllByRecursion (λ e. WritesHeld x.fields e) more

-- the events of all threads in the order of their stamps
abbrev pub merged : List (Entry Event) → List Event
merged log = map (λ x. x.event) log
