use Rattle.std.proofs.Common.{◌≡◌, MatchBool, None, Bool, sym, subst, ◌∙◌}
use Rattle.init_core.specs.Label.{is_completion}
use Rattle.init_core.specs.Lawful.{AgreesWithLabels}
use Rattle.init_lock.specs.Log.{stamped}
use Rattle.init_lock.specs.Settled.{KnowsDone}
use Rattle.guest_threads.specs.Drawing.{MayDraw}
use Rattle.guest_threads.proofs.Telling.{passed}
use Rattle.guest_threads.proofs.Viewing.{working_at}
use Rattle.guest_threads.proofs.task.Task.pass_by.Goals as goal

pub returns : goal.returns
returns g c = working_at g.B.Bodies.making c.self.view_is
    (passed _ _ c.args.work.now c.complete_by_step_4.new.self c.args.class c.is_done.new.pass c.draw.new.pass (stamped c.draw.result None c.new-event.result) c.requires.next (sym c.has_waited.ensures ∙ c.if-has_waited.false)
    (subst (λ (b : Bool). MatchBool b (KnowsDone MayDraw is_completion AgreesWithLabels c.args.class.number c.args.work.now.pass c.is_done.new.pass) (c.is_done.new.pass ≡ c.args.work.now.pass)) c.if-not-is_done.false c.is_done.ensures)
    c.draw.ensures.same c.draw.ensures.journal c.new-event.ensures c.draw.ensures.places c.draw.ensures.room c.requires.room c.complete_by_step_4.ensures.standing (working_at g.B.Bodies.making (sym c.self.view_is) c.requires.working))
