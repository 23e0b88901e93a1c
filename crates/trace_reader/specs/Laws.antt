-- What laws of reading speak of.
use Rattle.std.specs.Prelude.{◌≡◌, ◌⊎◌, ℕ, ◌+◌, List, length, ◌++◌, Err}
use Rattle.std.specs.List.{AllByRecursion}
use Rattle.hierarchy.specs.LinkedProgram.{LinkedProgram}
use Rattle.init_core.specs.declared.event.Event.{Event}
use Rattle.init_core.specs.declared.event.Kind.{Kind}
use Rattle.init_core.specs.declared.event.Kind.TheVariants as kind
use Rattle.trace.specs.TraceText.{trace_of}
use Rattle.trace_reader.specs.declared.fault.TraceFault.{TraceFault}
use Rattle.trace_reader.specs.declared.fault.TraceFaultKind.TheVariants.{TooLarge}
use Rattle.trace_reader.specs.declared.reader.TheConstants.{MOST_LINES}
use Rattle.trace_reader.specs.Faults.{fault_at}
use Rattle.trace_reader.specs.TraceEvents.{IsInTrace, IsTraceEvent}
use Rattle.trace_reader.specs.TraceReading.{line_at}

-- a value, where there is one, that a trace can have
abbrev pub HasTraceValue : Kind → Type 0
HasTraceValue (kind.Gets place v) = IsInTrace v
HasTraceValue (kind.Puts place v) = IsInTrace v
HasTraceValue k = Unit {0}

-- The first fault of a text: the lines before it are a trace, and it is that of the line that comes next, or of a line too many.
pub record IsFirstFault (p : LinkedProgram) (threads : ℕ) (text : List ℕ) (f : TraceFault) : Type 0 where
  pub events : List Event
  pub rest : List ℕ
  pub spelled : text ≡ trace_of p events ++ rest
  pub are : AllByRecursion (IsTraceEvent p threads) events
  pub line : f.line ≡ length events + 1
  pub met : (line_at p threads (length text) (length events) rest ≡ Err f) ⊎ ((length events ≡ MOST_LINES) × (f ≡ fault_at TooLarge (MOST_LINES + 1)))
