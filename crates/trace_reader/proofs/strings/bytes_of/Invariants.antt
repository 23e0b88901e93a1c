use Rattle.std.proofs.Common.{◌≡◌, length}
use Rattle.trace_reader.specs.Strings.{before, bytes_at}
use Rattle.trace_reader.proofs.strings.bytes_of.Given as goal

abbrev pub invariant-bytes : goal.invariant-bytes
invariant-bytes l = before l.text.items (bytes_at l.rest) ≡ bytes_at l.bytes

abbrev pub decreases-bytes : goal.decreases-bytes
decreases-bytes l = length l.rest
