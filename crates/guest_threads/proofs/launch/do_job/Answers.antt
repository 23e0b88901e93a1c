use Rattle.std.proofs.Common.{arith, refl, subst, sym}
use Rattle.std.proofs.lemmas.Grind.{common_steps}
use Rattle.bodies.specs.Sharing.{free_bodies}
use Rattle.guest_threads.specs.declared.work.Worked.{Worked}
use Rattle.guest_threads.specs.AllWork.{PlanFacts}
use Rattle.bodies.specs.declared.report.Limit.TheVariants.{Memory}
use Rattle.bodies.specs.declared.report.ThreadOutcome.TheVariants.{Ended}
use Rattle.guest_threads.specs.Working.{MayBegin}
use Rattle.guest_threads.proofs.Telling.{refused}
use Rattle.guest_threads.proofs.launch.do_job.Goals as goal

pub work_from-requires-clause-begins : goal.work_from-requires-clause-begins
work_from-requires-clause-begins g c = subst (λ (k : PlanFacts). MayBegin k.program k.table c.args.job.pass) (sym c.plan.view_is) c.requires.pass

pub work_from-requires-clause-main : goal.work_from-requires-clause-main
work_from-requires-clause-main g c = grind (arith, common_steps)

pub returns-then-not-wait_for_start : goal.returns-then-not-wait_for_start
returns-then-not-wait_for_start g c =
    let k = c.args.plan.now in
    let w : Worked = record { pass = c.args.job.pass; outcome = Ended Memory } in
    record {
      number = refl;
      works = c.requires.pass.works;
      done = λ m q. refused (free_bodies (g.B.Bodies.making k.program)) (record { program = k.program; table = k.table; limits = k.limits; number = c.args.job.pass.number; main = m; start = c.args.job.bodies }) w refl refl c.requires.pass.none;
    }
