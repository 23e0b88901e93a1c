use Rattle.std.proofs.Common.{◌-◌, length}
use Rattle.descriptors.specs.Reading.{parameters_at}
use Rattle.descriptors.proofs.Parameters.{StillGives}
use Rattle.descriptors.proofs.reading.parameters_of.Given as goal

abbrev pub invariant-loop-rest : goal.invariant-loop-rest
invariant-loop-rest l = StillGives l.parameters l.rest (parameters_at 255 l.bytes)

abbrev pub decreases-loop-rest : goal.decreases-loop-rest
decreases-loop-rest l = 255 - length l.parameters
