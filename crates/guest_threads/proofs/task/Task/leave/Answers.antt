use Rattle.std.proofs.Common.{sym}
use Rattle.guest_threads.proofs.Acting.{left, left_main}
use Rattle.guest_threads.proofs.Viewing.{come_at, fits_at, over_at, why_at, working_at}
use Rattle.guest_threads.proofs.task.Task.leave.Goals as goal

pub returns-then-is_running : goal.returns-then-is_running
returns-then-is_running g c = working_at g.B.Bodies.making c.self.view_is (left _ _ (record c.args.work.now { bodies = c.args.work.now.bodies }) c.end_body.new.self c.leave.new.self c.args.error (sym c.if-is_running.ensures) c.end_body.ensures.standing (fits_at g.B.Bodies.making (sym c.self.view_is) _ _ c.requires.fits) (g.met.B.Bodies.limits_stay c.self.inside.program.now) (why_at g.B.Bodies.making (sym c.self.view_is) _ _ _ c.requires.why) c.leave.ensures (come_at g.B.Bodies.making (sym c.self.view_is) c.requires.come))

pub returns : goal.returns
returns g c = over_at g.B.Bodies.making c.self.view_is (left_main _ _ c.args.work.now c.leave.new.self c.args.error (sym c.if-is_running.ensures) (fits_at g.B.Bodies.making (sym c.self.view_is) _ _ c.requires.fits) (g.met.B.Bodies.limits_stay c.self.inside.program.now) (why_at g.B.Bodies.making (sym c.self.view_is) _ _ _ c.requires.why) c.leave.ensures (come_at g.B.Bodies.making (sym c.self.view_is) c.requires.come))
