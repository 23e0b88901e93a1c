use Rattle.std.proofs.Common.{◌≡◌, ◌-◌, ◌≤◌, length}
use Rattle.trace_reader.specs.TraceReading.{events_from, events_of}
use Rattle.trace_reader.specs.declared.reader.TheConstants.{MOST_LINES}
use Rattle.trace_reader.proofs.WholeTrace.{behind}
use Rattle.trace_reader.proofs.reader.events_in.Given as goal

abbrev pub invariant-lines : goal.invariant-lines
invariant-lines l = record {
  same : behind l.events.items (events_from l.program l.threads (length l.text) (MOST_LINES - l.number) l.number l.rest) ≡ events_of l.program l.threads l.text;
  within : length l.rest ≤ length l.text;
}
