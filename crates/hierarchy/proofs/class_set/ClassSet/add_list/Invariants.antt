use Rattle.std.proofs.Common.{◌≡◌}
use Rattle.hierarchy.specs.ClassLists.{add_all}
use Rattle.hierarchy.specs.ClassNumbers.{classes_in}
use Rattle.hierarchy.proofs.class_set.ClassSet.add_list.Given as goal

abbrev pub invariant-loop-id : goal.invariant-loop-id
invariant-loop-id l = add_all l.self (classes_in l.id-iterator) ≡ add_all l.fn.self (classes_in l.fn.list)
