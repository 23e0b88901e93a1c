use Rattle.std.proofs.Common.{refl, sym, subst, ap, Option}
use Rattle.init_core.specs.declared.frames.Completed.{Completed}
use Rattle.bodies.specs.Sharing.{free_bodies}
use Rattle.guest_threads.specs.declared.task.Work.{Work}
use Rattle.guest_threads.specs.Working.{HasComeTo}
use Rattle.guest_threads.proofs.Touching.{HasGone, at_error, not_yet, gone_on, next_is_doing, comes_to_touch}
use Rattle.guest_threads.proofs.Viewing.{come_at, doing_at, gone_at, touched_at, working_at}
use Rattle.guest_threads.proofs.task.Task.next.Goals as goal

pub asking-init : goal.asking-init
asking-init g c = (
  subst (λ (told : Option Completed). HasGone (g.B.Bodies.making c.args.self.now.program) c.args.work.now.procedure.last c.args.work.now.bodies told c.args.work.now.bodies) (sym c.last-last.ensures) not_yet,
  refl,
)

pub returns-in_default-clause-doing : goal.returns-in_default-clause-doing
returns-in_default-clause-doing g c = doing_at g.B.Bodies.making c.self.view_is (next_is_doing _ _ c.args.work.now c.asking.work c.asking.last c.next-does.result c.next-does.new.self (gone_at g.B.Bodies.making (sym c.self.view_is) c.asking.invariant.0) c.asking.invariant.1 c.next-does.ensures.does c.next-does.ensures.fits (working_at g.B.Bodies.making (sym c.self.view_is) c.requires.working) c.requires.body c.requires.goes_on)

pub returns-in_err-touch-clause-come : goal.returns-in_err-touch-clause-come
returns-in_err-touch-clause-come g c =
    let h = come_at g.B.Bodies.making c.self.view_is (comes_to_touch _ _ c.args.work.now c.asking.work c.asking.last c.next-does.new.self (gone_at g.B.Bodies.making (sym c.self.view_is) c.asking.invariant.0) c.asking.invariant.1 c.in-Touches.ensures.does (working_at g.B.Bodies.making (sym c.self.view_is) c.requires.working) c.requires.body c.requires.goes_on) in
    at_error c.from_residual.result (subst (λ (b : g.row.B.Denot). HasComeTo (free_bodies (g.B.Bodies.making c.args.self.now.program)) c.args.self.now (record c.asking.work { bodies = b })) (sym c.in_err-touch.ensures.err) h)

pub asking-preserved : goal.asking-preserved
asking-preserved g c = (
  gone_at g.B.Bodies.making c.self.view_is (gone_on (gone_at g.B.Bodies.making (sym c.self.view_is) c.asking.invariant.0) c.in-Touches.ensures.does (touched_at g.B.Bodies.making (sym c.self.view_is) c.in_ok-touch.ensures.done)),
  ap (λ (x : Work g.row.B.Denot). let y : Work g.row.B.Denot = record x { bodies = c.touch.new.bodies } in y) c.asking.invariant.1,
)
