use Rattle.std.proofs.Common.{◌≡◌, length}
use Rattle.descriptors.specs.Reading.{array_at}
use Rattle.descriptors.proofs.reading.field_of.Given as goal

abbrev pub invariant-loop-rest : goal.invariant-loop-rest
invariant-loop-rest l = array_at l.dimensions l.rest ≡ array_at 0 l.bytes

abbrev pub decreases-loop-rest : goal.decreases-loop-rest
decreases-loop-rest l = length l.rest
