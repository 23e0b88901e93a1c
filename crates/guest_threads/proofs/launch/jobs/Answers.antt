use Rattle.std.proofs.Common.{rules, ◌≡◌, length, ◌∙◌, arith}
use Rattle.std.proofs.lemmas.Grind.{common_steps}
use Rattle.guest_threads.specs.declared.launch.Job.{Job}
use Rattle.guest_threads.proofs.Started.{all_of}
use Rattle.guest_threads.proofs.launch.jobs.Goals as goal

pub returns-clause-passes : goal.returns-clause-passes
returns-clause-passes g c =
    let none : length c.loop-pass.pass-iterator.rest.items ≡ 0 = (let a = c.in-None.ensures.steps.0 in let o = c.loop-pass.pass-iterator.rest.ok in search rules) in
    all_of (λ (j : Job g.row.B.Denot). j.pass) c.loop-pass.jobs.items c.loop-pass.pass-iterator.rest.items c.args.passes.items none c.loop-pass.invariant.0

pub returns-clause-bodies : goal.returns-clause-bodies
returns-clause-bodies g c =
    let none : length c.loop-pass.pass-iterator.rest.items ≡ 0 = (let a = c.in-None.ensures.steps.0 in let o = c.loop-pass.pass-iterator.rest.ok in search rules) in
    all_of (λ (j : Job g.row.B.Denot). j.bodies) c.loop-pass.jobs.items c.loop-pass.starts.rest.items c.args.bodies.items (c.loop-pass.invariant.2 ∙ none) c.loop-pass.invariant.1

pub loop-pass-preserved : goal.loop-pass-preserved
loop-pass-preserved g c = grind (arith, common_steps)
