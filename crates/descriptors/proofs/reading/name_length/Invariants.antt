use Rattle.std.proofs.Common.{◌≡◌, ◌+◌, length}
use Rattle.descriptors.specs.Reading.{name_len}
use Rattle.descriptors.proofs.reading.name_length.Given as goal

abbrev pub invariant-loop-rest : goal.invariant-loop-rest
invariant-loop-rest l = (l.count + name_len l.rest ≡ name_len l.bytes) × (l.count + length l.rest ≡ length l.bytes)

abbrev pub decreases-loop-rest : goal.decreases-loop-rest
decreases-loop-rest l = length l.rest
