-- The state of a class after a history of it, without that list.
use Rattle.std.specs.Prelude.{◌≡◌, ℕ, ◌<◌, List, Option, Some, Bool, false, length, slice_get, slice_set, slice_index_or}
use Rattle.std.specs.List.{AllByRecursion}
use Rattle.hierarchy.specs.declared.class.ClassId.{ClassId}
use Rattle.hierarchy.specs.declared.value.Value.{Value}
use Rattle.statics.specs.declared.static_field.StaticField.{StaticField}
use Rattle.statics.specs.Statics.{with_constants}
use Rattle.init_core.specs.declared.event.Event.{Event}
use Rattle.init_core.specs.declared.event.Kind.{Kind}
use Rattle.init_core.specs.declared.event.Kind.TheVariants as kind
use Rattle.init_core.specs.declared.event.Label.{Label}
use Rattle.init_core.specs.declared.event.Label.TheVariants.{InProgress, Initialized, Erroneous}
use Rattle.init_core.specs.declared.event.TheConstants.{THREADS}
use Rattle.init_core.specs.Decisions.{waits, is_wait}
use Rattle.init_core.specs.Label.{label_of, failure_of}
use Rattle.init_core.specs.Lawful.{IsLawful}
use Rattle.init_core.specs.Numbers.{IsEventOf}
use Rattle.init_core.specs.StaticValue.{value_of}

-- a class, its label, what ended it, what is known of its static fields, what each holds, and of each thread whether it
-- waits
pub record State : Type 0 where
  pub class : ClassId
  pub label : Label
  pub failure : Option ClassId
  pub fields : List StaticField
  pub values : List Value
  pub waiting : List Bool

-- these are what the fields hold after these events
abbrev pub AreHeld : List StaticField → List Value → List Event → Type 0
AreHeld fields values events = (place : ℕ) → slice_get values place ≡ value_of fields place events

-- whether this thread waits for the class
abbrev pub is_waiter : State → ℕ → Bool
is_waiter s t = slice_index_or s.waiting t false

-- the state is that of this history of the class, which is lawful
pub record IsStateOf (s : State) (events : List Event) : Type 0 where
  pub label : s.label ≡ label_of events
  pub failure : s.failure ≡ failure_of events
  pub values : AreHeld s.fields s.values events
  pub threads : length s.waiting ≡ THREADS
  pub waiting : (t : ℕ) → t < THREADS → is_waiter s t ≡ waits t events
  pub lawful : IsLawful s.fields events
  pub numbers : AllByRecursion (λ e. IsEventOf s.class e) events

-- the label after what a thread does
abbrev pub next_label : Label → ℕ → Kind → Label
next_label l t kind.Begins = InProgress t
next_label l t (kind.SuperFails e) = Erroneous
next_label l t (kind.Fails e) = Erroneous
next_label l t kind.Completes = Initialized
next_label l t _ = l

-- the failure after it
abbrev pub next_failure : Option ClassId → Kind → Option ClassId
next_failure f (kind.SuperFails e) = Some e
next_failure f (kind.Fails e) = Some e
next_failure f _ = f

-- what the fields hold after it
abbrev pub next_values : List StaticField → List Value → Kind → List Value
next_values fields values kind.Begins = with_constants fields values
next_values fields values (kind.Puts place value) = slice_set values place value
next_values fields values _ = values

-- the state after what a thread does
abbrev pub stepped : State → ℕ → Kind → State
stepped s t k = record {
  class = s.class;
  label = next_label s.label t k;
  failure = next_failure s.failure k;
  fields = s.fields;
  values = next_values s.fields s.values k;
  waiting = slice_set s.waiting t (is_wait k);
}
