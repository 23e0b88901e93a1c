use Rattle.std.proofs.Common.{List, length}
use Rattle.heap.specs.Monitors.{Holders}
use Rattle.interpreter.specs.declared.taken.TakenMonitor.{TakenMonitor}
use Rattle.interpreter.specs.Rows.{IsReleasedTo}
use Rattle.interpreter.proofs.throwing.release_to.Given as goal

abbrev pub invariant-loop-last : goal.invariant-loop-last
invariant-loop-last l = (rest : List TakenMonitor) (z : Holders) → IsReleasedTo l.thread l.count l.taken l.monitors rest z → IsReleasedTo l.thread l.count l.fn.taken l.fn.monitors rest z

abbrev pub decreases-loop-last : goal.decreases-loop-last
decreases-loop-last l = length l.taken
