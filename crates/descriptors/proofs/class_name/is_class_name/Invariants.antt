use Rattle.std.proofs.Common.{◌≡◌, length}
use Rattle.descriptors.specs.ClassName.{is_class_name}
use Rattle.descriptors.proofs.ClassNames.{passes}
use Rattle.descriptors.proofs.class_name.is_class_name.Given as goal

abbrev pub invariant-loop-rest : goal.invariant-loop-rest
invariant-loop-rest l = passes l.in_segment l.rest ≡ is_class_name l.bytes

abbrev pub decreases-loop-rest : goal.decreases-loop-rest
decreases-loop-rest l = length l.rest
