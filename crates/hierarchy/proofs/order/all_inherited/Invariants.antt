use Rattle.std.proofs.Common.{take}
use Rattle.hierarchy.specs.ClassLists.{Among}
use Rattle.hierarchy.specs.FinishedLists.{AreFinished}
use Rattle.hierarchy.specs.InheritedLists.{inherited}
use Rattle.hierarchy.proofs.order.all_inherited.Given as goal

abbrev pub invariant-loop-id : goal.invariant-loop-id
invariant-loop-id l = AreFinished (inherited l.fn.classes) l.fn.classes (λ c. Among c (take l.id-index l.fn.order)) l.all.items
