use Rattle.std.proofs.Common.{ap, ◌∙◌}
use Rattle.init_core.specs.Label.{is_completion}
use Rattle.init_lock.specs.Known.{seen_at}
use Rattle.init_lock.specs.Log.{settled}
use Rattle.guest_threads.proofs.Settled.{settled_last}
use Rattle.guest_threads.proofs.take.give_back_with.Goals as goal

pub publish-requires-clause-settled : goal.publish-requires-clause-settled
publish-requires-clause-settled c = ap (λ h. settled is_completion (seen_at h.place c.draw_held.new.pass.places)) c.draw_held.ensures.held ∙ (ap (settled is_completion) c.draw_held.ensures.more.seen ∙ settled_last (seen_at c.args.held.place c.args.pass.now.places) c.args.event (c.requires.settles c.if-settles.true))
