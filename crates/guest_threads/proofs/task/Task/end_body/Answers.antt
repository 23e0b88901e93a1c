use Rattle.std.proofs.Common.{sym, subst}
use Rattle.bodies.specs.Sharing.{free_bodies}
use Rattle.guest_threads.specs.Working.{HasComeTo}
use Rattle.guest_threads.proofs.Acting.{has_come_on, none_of, main_returns, main_throws, class_returns, class_throws}
use Rattle.bodies.specs.declared.does.Does.TheVariants as does
use Rattle.guest_threads.proofs.Viewing.{doing_at, working_at}
use Rattle.guest_threads.proofs.task.Task.end_body.Goals as goal

pub returns-in-None : goal.returns-in-None
returns-in-None g c = main_returns (free_bodies (g.B.Bodies.making c.args.self.now.program)) c.args.self.now c.args.work.now c.args.thrown c.in-None.is (sym c.if-not-is_running.ensures) c.requires.doing

pub returns-in-Some : goal.returns-in-Some
returns-in-Some g c = main_throws (free_bodies (g.B.Bodies.making c.args.self.now.program)) c.args.self.now c.args.work.now c.args.thrown c.in-Some.throwable c.in-Some.is (sym c.if-not-is_running.ensures) c.requires.doing

pub returns : goal.returns
returns g c = working_at g.B.Bodies.making c.self.view_is (class_throws _ _ c.args.work.now c.end_body-2.new.self c.replace-replaced.new.self c.args.thrown c.in-Some-thrown.throwable c.in-Ok.error c.in-Some-thrown.is (sym c.if-not-is_running.ensures) c.end_body-2.ensures.standing c.in-Ok.ensures.error (c.deref_mut.result.now, (c.replace-replaced.new.shared, c.in-Ok.ensures.replaces)) (doing_at g.B.Bodies.making (sym c.self.view_is) c.requires.doing))

pub returns-in_default : goal.returns-in_default
returns-in_default g c = class_returns (free_bodies (g.B.Bodies.making c.args.self.now.program)) c.args.self.now c.args.work.now c.end_body.new.self c.args.thrown (none_of c.args.thrown c.in_default.not-Some) (sym c.if-not-is_running.ensures) c.end_body.ensures.standing c.requires.doing

pub leave_at-requires-clause-come : goal.leave_at-requires-clause-come
leave_at-requires-clause-come g c =
    subst (λ (b : g.row.B.Denot). HasComeTo (free_bodies (g.B.Bodies.making c.args.self.now.program)) c.args.self.now (record c.args.work.now { bodies = b })) (sym c.in_default-replaced.ensures.err)
    (has_come_on (free_bodies (g.B.Bodies.making c.args.self.now.program)) c.args.self.now c.args.work.now (does.Over c.args.thrown) c.requires.doing)
