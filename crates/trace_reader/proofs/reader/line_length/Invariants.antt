use Rattle.std.proofs.Common.{◌≡◌, ◌+◌, length}
use Rattle.trace_reader.specs.TraceReading.{line_end}
use Rattle.trace_reader.proofs.reader.line_length.Given as goal

abbrev pub invariant-loop-rest : goal.invariant-loop-rest
invariant-loop-rest l = (l.count + line_end l.rest ≡ line_end l.bytes) × (l.count + length l.rest ≡ length l.bytes)

abbrev pub decreases-loop-rest : goal.decreases-loop-rest
decreases-loop-rest l = length l.rest
