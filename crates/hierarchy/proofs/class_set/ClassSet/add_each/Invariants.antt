use Rattle.std.proofs.Common.{◌≡◌, length}
use Rattle.hierarchy.specs.ClassLists.{add_all}
use Rattle.hierarchy.proofs.class_set.ClassSet.add_each.Given as goal

abbrev pub invariant-loop-rest : goal.invariant-loop-rest
invariant-loop-rest l = add_all l.self l.rest ≡ add_all l.fn.self l.ids

abbrev pub decreases-loop-rest : goal.decreases-loop-rest
decreases-loop-rest l = length l.rest
