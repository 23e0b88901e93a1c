use Rattle.std.proofs.Common.{ℕ, Bool, eqb, refl, ap, ◌∙◌}
use Rattle.init_lock.specs.Known.{seen_at}
use Rattle.init_lock.specs.Log.{settled}
use Rattle.init_lock.proofs.Logs.{settled-last}
use Rattle.cases.specs.declared.bench.history.TheConstants.{SETTLES}
use Rattle.cases.proofs.bench.passes.settle.Goals as goal

abbrev settles : ℕ → Bool
settles event = eqb event SETTLES

pub publish-requires-clause-settled : goal.publish-requires-clause-settled
publish-requires-clause-settled g c = ap (λ h. settled settles (seen_at h.place c.draw_held.new.pass.places)) c.draw_held.ensures.held
    ∙ (ap (settled settles) c.draw_held.ensures.more.seen ∙ settled-last settles (seen_at c.in-Ok.held.place c.take.new.pass.places) SETTLES refl)
