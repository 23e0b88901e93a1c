use Rattle.bodies.specs.Sharing.{free_bodies}
use Rattle.guest_threads.specs.Working.{Working}
use Rattle.guest_threads.proofs.task.Task.work.Given as goal

abbrev pub invariant-steps : goal.invariant-steps
invariant-steps g l = Working (free_bodies (g.B.Bodies.making l.fn.self.program)) l.fn.self l.work
