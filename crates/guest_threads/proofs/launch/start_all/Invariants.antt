use Rattle.std.proofs.Common.{◌≡◌, ◌+◌, ◌≤◌, ◌++◌, vec_len, length, map, vec_capacity}
use Rattle.std.specs.List.{AllByRecursion}
use Rattle.guest_threads.specs.AllWork.{MayWork}
use Rattle.guest_threads.proofs.launch.start_all.Given as goal

abbrev pub invariant-starting : goal.invariant-starting
invariant-starting g l =
    (map (λ h. h.promise.job.value) l.children.items ++ l.job-iterator.rest.items ≡ l.initial.job-iterator.rest.items)
    × AllByRecursion (λ h. h.promise.plan.now ≡ l.plan) l.children.items
    × AllByRecursion (λ j. MayWork l.plan j.pass) l.job-iterator.rest.items
    × (vec_len l.children + length l.job-iterator.rest.items ≤ vec_capacity l.children)
