-- The events that a trace of a program may have.
use Rattle.std.specs.Prelude.{◌≡◌, ℕ, ◌<◌, ◌≤◌, List, length, Some, slice_get, IsTrue, FitsSigned}
use Rattle.std.specs.Int.{w32}
use Rattle.std.specs.List.{AllByRecursion}
use Rattle.std.specs.Str.{is_utf8}
use Rattle.hierarchy.specs.declared.class.ClassId.{ClassId}
use Rattle.hierarchy.specs.declared.value.Value.{Value}
use Rattle.hierarchy.specs.declared.value.Value.TheVariants as value
use Rattle.hierarchy.specs.LinkedProgram.{LinkedProgram, name_at}
use Rattle.statics.specs.Statics.{statics_of}
use Rattle.init_core.specs.declared.event.Event.{Event}
use Rattle.init_core.specs.declared.event.Kind.{Kind}
use Rattle.init_core.specs.declared.event.Kind.TheVariants as kind
use Rattle.init_core.specs.Decisions.{event}
use Rattle.init_core.specs.ProcedureWord.{IsOfFiles, printed}
use Rattle.init_core.specs.ProgramEvents.{IsValueOf}
use Rattle.trace.specs.TraceText.{trace_of}
use Rattle.trace_reader.specs.declared.reader.TheConstants.{MOST_LINES, MOST_BYTES}
use Rattle.trace_reader.specs.Fields.{most_references}

-- a class of the program has a name, a file's as well as a built-in one
abbrev pub HasName : LinkedProgram → ClassId → Type 0
HasName p c = (name : List ℕ) × (name_at p c ≡ Some name)

-- an int has 32 bits, and a reference a small number
abbrev pub IsInTrace : Value → Type 0
IsInTrace (value.Int n) = FitsSigned w32 n
IsInTrace (value.Reference n) = n < most_references
IsInTrace v = Unit {0}

-- what a line may say that a thread does at a class
abbrev pub IsSaidAt : LinkedProgram → ClassId → Kind → Type 0
IsSaidAt p c (kind.SuperFails e) = HasName p e
IsSaidAt p c (kind.Fails e) = HasName p e
IsSaidAt p c (kind.Gets place v) = IsValueOf (slice_get (statics_of p c) place) v × IsInTrace v
IsSaidAt p c (kind.Puts place v) = IsValueOf (slice_get (statics_of p c) place) v × IsInTrace v
IsSaidAt p c (kind.Prints text) = ⊥
IsSaidAt p c _ = Unit {0}

-- An event of this program and of so many threads, but for two things: what a class ends with may be of any class of the
-- program, since whether it is a throwable is for a judge to say, and a reference's number is below 1,000,000.
pub data IsTraceEvent (p : LinkedProgram) (threads : ℕ) : Event → Type 0 where
  at_class : {t : ℕ} {c : ClassId} (k : Kind) → t < threads → IsOfFiles p c → IsSaidAt p c k → IsTraceEvent p threads (event t c k)
  prints_text : {t : ℕ} (text : List ℕ) → t < threads → IsTrue (is_utf8 text) → IsTraceEvent p threads (printed t text)

-- A list of such events within the limits, whose trace the text is.
pub record IsTraceOf (p : LinkedProgram) (threads : ℕ) (text : List ℕ) (events : List Event) : Type 0 where
  pub spelled : text ≡ trace_of p events
  pub are : AllByRecursion (IsTraceEvent p threads) events
  pub lines : length events ≤ MOST_LINES
  pub bytes : length text ≤ MOST_BYTES
