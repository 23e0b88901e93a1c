use Rattle.std.proofs.Common.{sym, ◌∙◌, ap}
use Rattle.init_core.specs.Advance.{thread_ended}
use Rattle.guest_threads.proofs.Telling.{gave_up}
use Rattle.guest_threads.proofs.Viewing.{limit_at, working_at}
use Rattle.guest_threads.proofs.task.Task.give_up.Goals as goal

pub returns : goal.returns
returns g c = record {
  working = working_at g.B.Bodies.making c.self.view_is (gave_up _ _ c.args.work.now c.end_thread.new.self c.args.class c.args.limit c.requires.next (limit_at g.B.Bodies.making (sym c.self.view_is) _ _ c.requires.limit) (c.end_thread.ensures.standing ∙ ap (thread_ended c.args.work.now.procedure) c.error_at.ensures) (working_at g.B.Bodies.making (sym c.self.view_is) c.requires.working));
}
