use Rattle.std.proofs.Common.{sym, subst}
use Rattle.init_core.specs.Standing.{Standing}
use Rattle.bodies.specs.declared.does.Does.TheVariants as does
use Rattle.bodies.specs.Sharing.{free_bodies}
use Rattle.guest_threads.specs.Working.{HasComeTo}
use Rattle.guest_threads.proofs.Acting.{asked, has_come_on}
use Rattle.guest_threads.proofs.task.Task.use_class.Goals as goal

pub leave_at-requires-clause-come : goal.leave_at-requires-clause-come
leave_at-requires-clause-come g c = subst (λ (s : Standing). HasComeTo (free_bodies (g.B.Bodies.making c.args.self.now.program)) c.args.self.now (record c.args.work.now { procedure = s })) (sym c.in_default.ensures.err) (has_come_on (free_bodies (g.B.Bodies.making c.args.self.now.program)) c.args.self.now c.args.work.now (does.Asks c.args.class) c.requires.doing)

pub returns : goal.returns
returns g c = asked (free_bodies (g.B.Bodies.making c.args.self.now.program)) c.args.self.now c.args.work.now c.request-asked.new.self c.args.class c.in-Ok.ensures.standing c.requires.doing
