use Rattle.std.proofs.Common.{◌≡◌, ◌≤◌}
use Rattle.cases.proofs.bench.passes.pass_often.Given as goal

abbrev pub invariant-loop-left : goal.invariant-loop-left
invariant-loop-left l = (l.pass.table ≡ l.table.id) × (l.left ≤ l.pass.room)

abbrev pub decreases-loop-left : goal.decreases-loop-left
decreases-loop-left l = l.left
