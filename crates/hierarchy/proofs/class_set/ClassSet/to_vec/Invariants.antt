use Rattle.std.proofs.Common.{◌≡◌, ◌++◌}
use Rattle.hierarchy.specs.ClassNumbers.{classes_in}
use Rattle.hierarchy.proofs.class_set.ClassSet.to_vec.Given as goal

abbrev pub invariant-loop-id : goal.invariant-loop-id
invariant-loop-id l = l.all.items ++ classes_in l.id-iterator ≡ l.self
