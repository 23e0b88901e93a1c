use Rattle.std.proofs.Common.{rules, ◌≡◌, length, ◌∙◌, arith}
use Rattle.std.proofs.lemmas.Grind.{common_steps}
use Rattle.guest_threads.proofs.Started.{all_of}
use Rattle.guest_threads.proofs.launch.start_all.Goals as goal

pub returns-clause-jobs : goal.returns-clause-jobs
returns-clause-jobs g c =
    let none : length c.starting.job-iterator.rest.items ≡ 0 = (let a = c.in-None.ensures.steps.0 in let o = c.starting.job-iterator.rest.ok in search rules) in
    let given : c.into_iter-job-iterator.result.rest.items ≡ c.args.jobs.items = search rules in
    all_of (λ h. h.promise.job.value) c.starting.children.items c.starting.job-iterator.rest.items c.args.jobs.items none (c.starting.invariant.0 ∙ given)

pub returns-clause-plan : goal.returns-clause-plan
returns-clause-plan g c = c.starting.invariant.1

pub starting-preserved : goal.starting-preserved
starting-preserved g c = grind (arith, common_steps)
