-- The state of the judge after some events.
use Rattle.std.specs.Prelude.{◌≡◌, ℕ, ◌<◌, ◌≤◌, length, List, [], ◌∷◌, ◌++◌, Option, Some, None, false, slice_get}
use Rattle.std.specs.List.{AllByRecursion}
use Rattle.hierarchy.specs.declared.class.ClassId.{ClassId}
use Rattle.hierarchy.specs.declared.value.Value.{Value}
use Rattle.hierarchy.specs.LinkedProgram.{LinkedProgram, id}
use Rattle.statics.specs.declared.static_field.StaticField.{StaticField}
use Rattle.statics.specs.Statics.{statics_of}
use Rattle.init_core.specs.declared.event.Event.{Event}
use Rattle.init_core.specs.declared.event.Kind.{Kind}
use Rattle.init_core.specs.declared.event.Kind.TheVariants as kind
use Rattle.init_core.specs.ClassState.{State, AreHeld}
use Rattle.init_core.specs.Decisions.{event}
use Rattle.init_core.specs.Interleaving.{of_thread, of_class}
use Rattle.init_core.specs.Label.{label_of}
use Rattle.init_core.specs.Lawful.{Allows, Holds, IsLawful}
use Rattle.judge.specs.declared.judge.Judge.{Judge}
use Rattle.judge.specs.declared.reader.Reader.{Reader}
use Rattle.judge.specs.declared.verdict.Rule.{Rule}
use Rattle.judge.specs.declared.verdict.Rule.TheVariants as rule
use Rattle.judge.specs.Reading.{ReadsAll, MayStop, opening}
use Rattle.judge.specs.Verdicts.{Breaks, ThreadsBegin}

-- what is read is what the field holds; what is written is a field of the class
abbrev pub HoldsNow : List StaticField → List Value → Kind → Type 0
HoldsNow fields values (kind.Gets place value) = (place < length fields) × (slice_get values place ≡ Some value)
HoldsNow fields values (kind.Puts place value) = place < length fields
HoldsNow fields values _ = Unit {0}

-- the state of a class after this lawful history of it
pub record IsStateAfter (p : LinkedProgram) (c : ClassId) (s : State) (h : List Event) : Type 0 where
  pub class : s.class ≡ c
  pub fields : s.fields ≡ statics_of p c
  pub label : s.label ≡ label_of h
  pub values : AreHeld s.fields s.values h
  pub lawful : IsLawful (statics_of p c) h

-- the rule of a class that a thread breaks, after this history of the class
abbrev pub BreaksAt : LinkedProgram → ClassId → List Event → ℕ → Kind → Rule → Type 0
BreaksAt p c h t k rule.Label = Allows (label_of h) t k → ⊥
BreaksAt p c h t k rule.Value = Allows (label_of h) t k × (Holds (statics_of p c) h k → ⊥)
BreaksAt p c h t k _ = ⊥

-- thread t does this at the class, whichever it is, and its state goes from this to that
abbrev pub StateTakes : State → State → ℕ → Kind → Type 0
StateTakes before after t k = (p : LinkedProgram) (c : ClassId) (h : List Event) → IsStateAfter p c before h → IsStateAfter p c after (h ++ event t c k ∷ [])

-- it breaks this rule at the class
abbrev pub StateRefuses : State → ℕ → Kind → Rule → Type 0
StateRefuses before t k rule = (p : LinkedProgram) (c : ClassId) (h : List Event) → IsStateAfter p c before h → BreaksAt p c h t k rule

-- the states of classes, by their numbers; a class beyond these has no events
pub record AreStatesAfter (p : LinkedProgram) (states : List State) (events : List Event) : Type 0 where
  pub each : (n : ℕ) (s : State) → slice_get states n ≡ Some s → IsStateAfter p (id n) s (of_class (id n) events)
  pub beyond : (c : ClassId) → length states ≤ c.number → of_class c events ≡ []

-- thread t does this at c, and the states of all classes go from these to those
abbrev pub StatesTake : LinkedProgram → List State → List State → ℕ → ClassId → Kind → Type 0
StatesTake p before after t c k = (events : List Event) → AreStatesAfter p before events → AreStatesAfter p after (events ++ event t c k ∷ [])

-- it breaks this rule at c
abbrev pub StatesRefuse : LinkedProgram → List State → ℕ → ClassId → Kind → Rule → Type 0
StatesRefuse p before t c k rule = (events : List Event) → AreStatesAfter p before events → BreaksAt p c (of_class c events) t k rule

-- the reader of a thread, where it has a main class
abbrev pub IsReaderAfter : LinkedProgram → ℕ → Option ClassId → Option Reader → List Event → Type 0
IsReaderAfter p t (Some m) (Some r) xs = ReadsAll p t false (opening m) xs r.begun r.procedures
IsReaderAfter p t None None xs = xs ≡ []
IsReaderAfter p t m r xs = ⊥

abbrev pub AreReadersAfter : LinkedProgram → List ClassId → List Reader → List Event → Type 0
AreReadersAfter p mains readers events = (t : ℕ) → IsReaderAfter p t (slice_get mains t) (slice_get readers t) (of_thread t events)

-- the readers of all threads take this event, and go from these states to those
abbrev pub ReadersTake : LinkedProgram → List Reader → List Reader → Event → Type 0
ReadersTake p before after e = (mains : List ClassId) (h : List Event) → AreReadersAfter p mains before h → AreReadersAfter p mains after (h ++ e ∷ [])

-- this event can't come next
abbrev pub ReadersRefuse : LinkedProgram → List Reader → Event → Type 0
ReadersRefuse p before e = (mains : List ClassId) (h : List Event) → AreReadersAfter p mains before h → ThreadsBegin p mains (h ++ e ∷ []) → ⊥

pub record HasJudged (p : LinkedProgram) (mains : List ClassId) (j : Judge) (events : List Event) : Type 0 where
  pub readers : AreReadersAfter p mains j.readers.of_threads.items events
  pub classes : AreStatesAfter p j.classes.states.items events

-- the judge takes this event, and goes from one state to another
abbrev pub JudgeTakes : LinkedProgram → Judge → Judge → Event → Type 0
JudgeTakes p before after e = (mains : List ClassId) (h : List Event) → HasJudged p mains before h → HasJudged p mains after (h ++ e ∷ [])

-- this event breaks this rule
abbrev pub JudgeRefuses : LinkedProgram → Judge → Event → Rule → Type 0
JudgeRefuses p before e rule = (mains : List ClassId) (h : List Event) → HasJudged p mains before h → Breaks p mains rule (h ++ e ∷ [])

-- a thread of this main class before its first event
abbrev pub opened : ClassId → Reader
opened m = record { begun = false; procedures = opening m }

abbrev pub MayAllStop : List Reader → Type 0
MayAllStop readers = AllByRecursion (λ r. MayStop r.procedures) readers
