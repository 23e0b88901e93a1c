use Rattle.std.proofs.Common.{◌≡◌, ◌+◌, length}
use Rattle.trace_reader.specs.Strings.{plain_len}
use Rattle.trace_reader.proofs.strings.plain_length.Given as goal

abbrev pub invariant-loop-rest : goal.invariant-loop-rest
invariant-loop-rest l = (l.count + plain_len l.rest ≡ plain_len l.bytes) × (l.count + length l.rest ≡ length l.bytes)

abbrev pub decreases-loop-rest : goal.decreases-loop-rest
decreases-loop-rest l = length l.rest
