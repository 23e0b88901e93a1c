-- The numbers in an event of a class.
use Rattle.std.specs.Prelude.{◌≡◌, ◌<◌, Some}
use Rattle.hierarchy.specs.declared.class.ClassId.{ClassId}
use Rattle.init_core.specs.declared.event.Event.{Event}
use Rattle.init_core.specs.declared.event.Kind.{Kind}
use Rattle.init_core.specs.declared.event.Kind.TheVariants as kind
use Rattle.init_core.specs.declared.event.TheConstants.{THREADS, CLASS_NUMBERS, FIELD_PLACES}

-- what a thread does at a class: a throwable's class number and a field's place are in their range
abbrev pub IsInRange : Kind → Type 0
IsInRange (kind.SuperFails e) = e.number < CLASS_NUMBERS
IsInRange (kind.Fails e) = e.number < CLASS_NUMBERS
IsInRange (kind.Gets place value) = place < FIELD_PLACES
IsInRange (kind.Puts place value) = place < FIELD_PLACES
IsInRange (kind.Prints text) = ⊥
IsInRange _ = Unit {0}

-- an event of c by one of the threads that there may be, with its numbers in their range
pub record IsEventOf (c : ClassId) (e : Event) : Type 0 where
  pub class : e.class ≡ Some c
  pub thread : e.thread < THREADS
  pub kind : IsInRange e.kind
