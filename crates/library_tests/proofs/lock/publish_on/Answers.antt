use Rattle.std.proofs.Common.{ℕ, eqb, refl, ap, ◌∙◌}
use Rattle.init_lock.specs.Known.{seen_at}
use Rattle.init_lock.specs.Log.{settled}
use Rattle.init_lock.proofs.Logs.{settled-last}
use Rattle.library_tests.proofs.lock.publish_on.Goals as goal

pub publish-requires-clause-settled : goal.publish-requires-clause-settled
publish-requires-clause-settled c = ap (λ h. settled (λ (event : ℕ). eqb event 9) (seen_at h.place c.draw_held.new.pass.places)) c.draw_held.ensures.held
    ∙ (ap (settled (λ (event : ℕ). eqb event 9)) c.draw_held.ensures.more.seen ∙ settled-last (λ (event : ℕ). eqb event 9) (seen_at c.args.held.now.place c.args.pass.now.places) 9 refl)
