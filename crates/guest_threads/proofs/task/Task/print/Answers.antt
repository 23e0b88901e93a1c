use Rattle.std.proofs.Common.{sym, None}
use Rattle.init_lock.specs.Log.{stamped}
use Rattle.bodies.specs.declared.does.Does.TheVariants as does
use Rattle.bodies.specs.Sharing.{free_bodies}
use Rattle.guest_threads.proofs.Acting.{has_printed, has_come_on}
use Rattle.guest_threads.proofs.Viewing.{doing_at, working_at}
use Rattle.guest_threads.proofs.task.Task.print.Goals as goal

pub returns : goal.returns
returns g c = working_at g.B.Bodies.making c.self.view_is (has_printed _ _ c.args.work.now c.forget_last.new.self c.args.text c.draw.new.pass (stamped c.draw.result None c.in-Ok.event) c.in-Ok.ensures c.draw.ensures.same c.draw.ensures.journal c.draw.ensures.places c.draw.ensures.room c.requires.room c.forget_last.ensures.standing (doing_at g.B.Bodies.making (sym c.self.view_is) c.requires.doing))

pub leave_at-requires-clause-come : goal.leave_at-requires-clause-come
leave_at-requires-clause-come g c = has_come_on (free_bodies (g.B.Bodies.making c.args.self.now.program)) c.args.self.now c.args.work.now (does.Prints c.args.text) c.requires.doing
