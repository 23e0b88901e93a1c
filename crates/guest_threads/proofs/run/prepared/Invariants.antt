use Rattle.std.proofs.Common.{◌≤◌, ◌-◌, vec_len}
use Rattle.guest_threads.specs.Working.{ArePrepared}
use Rattle.guest_threads.proofs.run.prepared.Given as goal

abbrev pub invariant-classes : goal.invariant-classes
invariant-classes l = (vec_len l.made ≤ l.count) × ArePrepared l.program l.made.items

abbrev pub decreases-classes : goal.decreases-classes
decreases-classes l = l.count - vec_len l.made
