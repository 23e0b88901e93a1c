use Rattle.std.proofs.Common.{◌+◌, ◌≤◌, List, ◌++◌, vec_len, length, vec_capacity}
use Rattle.guest_threads.specs.declared.work.Worked.{Worked}
use Rattle.guest_threads.specs.AllWork.{Did, Pairs}
use Rattle.guest_threads.proofs.launch.join_all.Given as goal

abbrev pub invariant-joining : goal.invariant-joining
invariant-joining g l =
    ((ws : List Worked) → Pairs (λ h w. Did g.B.Bodies.making h.promise.plan.now h.promise.job.value w) l.child-iterator.rest.items ws → Pairs (λ h w. Did g.B.Bodies.making h.promise.plan.now h.promise.job.value w) l.initial.child-iterator.rest.items (l.done.items ++ ws))
    × (vec_len l.done + length l.child-iterator.rest.items ≤ vec_capacity l.done)
