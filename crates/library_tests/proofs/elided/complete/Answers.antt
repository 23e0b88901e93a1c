use Rattle.std.proofs.Common.{ap, ◌∙◌}
use Rattle.init_core.specs.Label.{is_completion}
use Rattle.init_lock.specs.Known.{seen_at}
use Rattle.init_lock.specs.Log.{settled}
use Rattle.guest_threads.proofs.Settled.{settled_last}
use Rattle.library_tests.proofs.elided.complete.Goals as goal

pub publish-requires-clause-settled : goal.publish-requires-clause-settled
publish-requires-clause-settled c =
    ap (λ n. settled is_completion (seen_at n c.draw_given.new.pass.places)) c.draw_given.ensures.hand.place
    ∙ (ap (settled is_completion) c.draw_given.ensures.seen ∙ settled_last (seen_at 0 c.args.pass.now.places) c.new-event.result (ap is_completion c.new-event.ensures))
