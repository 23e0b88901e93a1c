use Rattle.std.proofs.Common.{sym, subst}
use Rattle.hierarchy.specs.declared.class.ClassId.{ClassId}
use Rattle.init_core.specs.Advance.{FitsBody}
use Rattle.init_core.specs.ProcedureWord.{given_up}
use Rattle.init_core.specs.declared.frames.Outcome.TheVariants.{Ended}
use Rattle.bodies.specs.Sharing.{free_bodies}
use Rattle.guest_threads.specs.Tasks.{IsWhy}
use Rattle.guest_threads.proofs.Acting.{noted, fits_limit}
use Rattle.guest_threads.proofs.Viewing.{come_at, fits_at, by_fields, limit_at, why_at}
use Rattle.guest_threads.proofs.task.Task.leave_at.Goals as goal

pub leave-requires-clause-come : goal.leave-requires-clause-come
leave-requires-clause-come g c = come_at g.B.Bodies.making c.self.view_is (noted _ _ c.args.work.now c.args.limit c.requires.goes_on (come_at g.B.Bodies.making (sym c.self.view_is) c.requires.come))

pub leave-requires-clause-fits : goal.leave-requires-clause-fits
leave-requires-clause-fits g c = fits_at g.B.Bodies.making c.self.view_is _ _ (subst (λ (e : ClassId). FitsBody c.self.inside.program.now (given_up c.args.work.now.procedure.last) (Ended e)) (sym c.error_at.ensures) (fits_limit (free_bodies (g.B.Bodies.making c.self.inside.program.now)) (by_fields c.self.view_is) c.args.work.now c.args.limit c.requires.goes_on))

pub leave-requires-clause-why : goal.leave-requires-clause-why
leave-requires-clause-why g c = why_at g.B.Bodies.making c.self.view_is _ _ _ (subst (IsWhy (free_bodies (g.B.Bodies.making c.self.inside.program.now)) (by_fields c.self.view_is) c.args.work.now.bodies c.args.limit) (sym c.error_at.ensures) (limit_at g.B.Bodies.making (sym c.self.view_is) _ _ c.requires.limit))
