use Rattle.std.proofs.Common.{◌≡◌, ◌-◌, ◌≤◌, length}
use Rattle.cli.specs.Running.{starts_below}
use Rattle.cli.proofs.running.interpreters.Given as goal

abbrev pub invariant-threads : goal.invariant-threads
invariant-threads l = (l.made.items ≡ starts_below (length l.made.items) l.limits.steps) × (length l.made.items ≤ l.count)

abbrev pub decreases-threads : goal.decreases-threads
decreases-threads l = l.count - length l.made.items
