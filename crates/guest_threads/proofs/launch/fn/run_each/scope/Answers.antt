use Rattle.std.proofs.Common.{List, subst}
use Rattle.guest_threads.specs.declared.launch.Job.{Job}
use Rattle.guest_threads.specs.AllWork.{Did, Pairs}
use Rattle.guest_threads.proofs.Started.{all_did}
use Rattle.guest_threads.proofs.launch.fn.run_each.scope.Goals as goal

pub returns : goal.returns
returns g c =
    subst (λ (xs : List (Job g.row.B.Denot)). Pairs (Did g.B.Bodies.making c.captures.plan.now) xs c.join_all.result.items) c.in_ok-children.ensures.jobs
    (all_did c.in_ok-children.children.items c.join_all.result.items g.B.Bodies.making (λ h. h.promise.plan.now) (λ h. h.promise.job.value) c.captures.plan.now c.in_ok-children.ensures.plan c.join_all.ensures)
