use Rattle.std.proofs.lemmas.Result.{IfOk-weaker}
use Rattle.guest_threads.proofs.Joining.{are_done}
use Rattle.guest_threads.proofs.launch.run_each.Goals as goal

pub returns : goal.returns
returns g c = record { done = IfOk-weaker c.scoped.result _ _ (λ ws did. are_done g.B.Bodies.making c.args.plan.now c.args.jobs.items ws.items c.requires.numbers did) c.scoped.ensures.1 }
