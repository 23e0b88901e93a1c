use Rattle.std.proofs.Common.{◌≡◌}
use Rattle.guest_threads.proofs.task.Task.touch.Given as goal

abbrev pub invariant-touching : goal.invariant-touching
invariant-touching g l = l.bodies ≡ l.fn.bodies
