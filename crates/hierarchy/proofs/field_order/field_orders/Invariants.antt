use Rattle.std.proofs.Common.{take}
use Rattle.hierarchy.specs.ClassLists.{Among, distinct}
use Rattle.hierarchy.specs.FinishedLists.{AreFinished}
use Rattle.hierarchy.specs.Fields.{field_order}
use Rattle.hierarchy.proofs.field_order.field_orders.Given as goal

abbrev pub invariant-loop-id : goal.invariant-loop-id
invariant-loop-id l = AreFinished (λ d. distinct (field_order l.fn.classes d)) l.fn.classes (λ c. Among c (take l.id-index l.fn.order)) l.all.items
