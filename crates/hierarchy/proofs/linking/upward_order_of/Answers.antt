use Rattle.std.proofs.Common.{inr}
use Rattle.hierarchy.specs.FirstFault.{circles}
use Rattle.hierarchy.proofs.linking.upward_order_of.Goals as goal

pub returns-in-Ok-Cycle-clause-fault : goal.returns-in-Ok-Cycle-clause-fault
returns-in-Ok-Cycle-clause-fault c = inr (circles (rw c.in-Ok-Cycle.field-0-is at c.in-Ok-Cycle.ensures))
