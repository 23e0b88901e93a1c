use Rattle.std.proofs.Common.{◌≡◌}
use Rattle.guest_threads.proofs.Touching.{HasGone}
use Rattle.guest_threads.proofs.task.Task.next.Given as goal

abbrev pub invariant-asking : goal.invariant-asking
invariant-asking g l = HasGone (g.B.Bodies.making l.fn.self.program) l.fn.work.procedure.last l.fn.work.bodies l.last l.work.bodies × (l.work ≡ record l.fn.work { bodies = l.work.bodies })
