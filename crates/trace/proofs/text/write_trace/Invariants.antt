use Rattle.std.proofs.Common.{◌≡◌, ◌++◌, drop, false}
use Rattle.trace.specs.TraceText.{trace_from, trace_of}
use Rattle.trace.proofs.text.write_trace.Given as goal

abbrev pub invariant-loop-number : goal.invariant-loop-number
invariant-loop-number l = l.out.is_lost ≡ false → l.out.text ++ trace_from l.program l.number (drop l.number l.events) ≡ trace_of l.program l.events
