use Rattle.std.proofs.Common.{◌≡◌, ◌≤◌}
use Rattle.init_lock.specs.Known.{IsAway}
use Rattle.library_tests.proofs.lock.draw_often.Given as goal

abbrev pub invariant-loop-left : goal.invariant-loop-left
invariant-loop-left g l = (l.pass.table ≡ l.fn.pass.table) × (l.pass.number ≡ l.fn.pass.number) × IsAway l.pass.places × (l.left ≤ l.pass.room)

abbrev pub decreases-loop-left : goal.decreases-loop-left
decreases-loop-left g l = l.left
