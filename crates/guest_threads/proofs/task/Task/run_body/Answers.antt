use Rattle.std.proofs.Common.{sym, None}
use Rattle.init_lock.specs.Log.{stamped}
use Rattle.guest_threads.proofs.Telling.{ran}
use Rattle.guest_threads.proofs.Viewing.{working_at}
use Rattle.guest_threads.proofs.task.Task.run_body.Goals as goal

pub returns : goal.returns
returns g c = record {
  working = working_at g.B.Bodies.making c.self.view_is (ran _ _ c.args.work.now c.run_body.new.self c.start.new.self c.args.class c.draw.new.pass (stamped c.draw.result None c.new.result) c.requires.next c.requires.before c.draw.ensures.same c.draw.ensures.journal c.new.ensures c.draw.ensures.places c.run_body.ensures.standing c.start.ensures c.draw.ensures.room c.requires.room (working_at g.B.Bodies.making (sym c.self.view_is) c.requires.working));
}
