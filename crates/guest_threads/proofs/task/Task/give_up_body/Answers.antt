use Rattle.std.proofs.Common.{sym, subst, true}
use Rattle.hierarchy.specs.declared.class.ClassId.{ClassId}
use Rattle.init_core.specs.declared.procedure.Answer.TheVariants as answer
use Rattle.init_core.specs.Advance.{Fits}
use Rattle.bodies.proofs.Asking.{gives_up_run, may_tell}
use Rattle.guest_threads.proofs.Telling.{gave_up_run}
use Rattle.guest_threads.proofs.Viewing.{working_at}
use Rattle.guest_threads.proofs.task.Task.give_up_body.Goals as goal

pub advance-told-requires : goal.advance-told-requires
advance-told-requires g c =
    subst (λ (e : ClassId). Fits c.self.inside.program.now c.args.work.now.procedure (answer.GaveUp e true)) (sym c.error_at-error.ensures)
    (may_tell c.self.inside.program.now c.args.work.now.procedure (answer.GaveUp _ true) (λ t. gives_up_run c.self.inside.program.now t c.args.work.now.procedure c.args.class c.requires.next c.requires.before))

pub returns : goal.returns
returns g c = record {
  working = working_at g.B.Bodies.making c.self.view_is (gave_up_run _ _ c.args.work.now c.advance-told.new.self c.args.class c.error_at-error.result c.requires.next c.requires.before c.error_at-error.ensures c.in-Ok.ensures.standing (working_at g.B.Bodies.making (sym c.self.view_is) c.requires.working));
}
