use Rattle.std.proofs.Common.{◌≤◌}
use Rattle.init_lock.specs.Known.{IsAway, IsSamePass}
use Rattle.cases.proofs.bench.rounds.often.Given as goal

abbrev pub invariant-loop-left : goal.invariant-loop-left
invariant-loop-left g l = IsSamePass l.initial.pass l.pass × IsAway l.pass.places × (l.left ≤ l.pass.room)

abbrev pub decreases-loop-left : goal.decreases-loop-left
decreases-loop-left g l = l.left
