use Rattle.std.proofs.Common.{◌≡◌, ◌<◌, ℕ, length, sym, subst, ap, ◌∙◌}
use Rattle.std.specs.List.{AllByRecursion}
use Rattle.bodies.specs.Sharing.{used_bodies}
use Rattle.replayer.specs.AllGoing.{Leads}
use Rattle.replayer.specs.OrderedRun.{HasUsed, WaitsAfter}
use Rattle.replayer.proofs.Finished.{many_mains, ordered}
use Rattle.replayer.proofs.Followed.{leads_on}
use Rattle.replayer.proofs.ordered.run_ordered.Goals as goal

pub follow-requires-clause-order : goal.follow-requires-clause-order
follow-requires-clause-order g c =
    let many : length c.args.mains.now ≡ length c.in_ok-run.run'.threads.items = sym (ap length c.in_ok-run.ensures.mains) ∙ many_mains c.args.program.now (used_bodies (g.B.Bodies.making c.args.program.now)) c.in_ok-run.run' in
    subst (λ (n : ℕ). AllByRecursion (λ t. t < n) c.args.order.now) many c.requires.order

pub returns : goal.returns
returns g c =
    let p = c.args.program.now in
    let M = g.B.Bodies.making p in
    let begin = c.in_ok-run.run' in
    let first = c.in_ok-run.ensures.first in
    let following = subst (λ h. Leads p (used_bodies M) (HasUsed h) (WaitsAfter M h) c.args.order.now _ begin _ _ c.follow.new.self) first c.in_ok-follow.ensures.follows in
    let finishing = subst (λ h. Leads p (used_bodies M) (HasUsed h) (WaitsAfter M h) _ _ c.follow.new.self _ c.in_ok-finish.ensures.follows.0 c.finish.new.self) (ap (λ f. f.value) c.in_ok-follow.ensures.still.first ∙ first) c.in_ok-finish.ensures.follows.1 in
    ordered p M c.args.shared c.finish.new.self begin c.args.bodies.items c.args.mains.now c.args.order.now c.in_ok-finish.ensures.follows.0 c.in_ok-report.report
    c.in_ok-finish.ensures.still.going c.in_ok-finish.ensures.ended c.in_ok-finish.ensures.still.in_turn (ap (λ f. f.value) (c.in_ok-finish.ensures.still.first ∙ c.in_ok-follow.ensures.still.first) ∙ first)
    c.in_ok-run.ensures.fresh c.in_ok-run.ensures.events c.in_ok-run.ensures.turns c.in_ok-run.ensures.mains c.in_ok-run.ensures.starts
    (leads_on p (used_bodies M) (HasUsed c.args.shared) (WaitsAfter M c.args.shared) following finishing)
    c.in_ok-report.ensures.outcomes c.in_ok-report.ensures.events c.in_ok-report.ensures.labels c.in_ok-report.ensures.output
