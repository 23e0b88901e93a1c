use Rattle.std.proofs.Common.{[]}
use Rattle.hierarchy.proofs.Walks.{table_more}
use Rattle.hierarchy.proofs.finished_lists.empty_sets.Goals as goal

pub loop-preserved : goal.loop-preserved
loop-preserved c = table_more (λ d. []) c.loop.counter c.loop.all.items _ _ c.loop.invariant c.new.ensures c.in_ok-push.ensures.items
