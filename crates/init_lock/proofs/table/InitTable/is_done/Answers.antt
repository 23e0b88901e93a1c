use Rattle.std.proofs.Common.{rules, ◌≡◌, MatchBool, sym, subst}
use Rattle.crossbeam_utils.specs.Padded.{padded_value}
use Rattle.init_lock.specs.Settled.{KnowsDone}
use Rattle.init_lock.specs.Steps.{PassHolds}
use Rattle.init_lock.proofs.Passes.{holds_still, knows_done, facts}
use Rattle.init_lock.proofs.table.InitTable.is_done.Goals as goal

pub invariant_of-pass : goal.invariant_of-pass
invariant_of-pass g c =
    subst (λ z. PassHolds z.slots c.pass.inside.number c.pass.inside.carried (padded_value c.pass.inside.journal).events (padded_value c.pass.inside.journal).room c.see_done.new.seat.me) (sym c.see_done.ensures.table.0)
    (holds_still g.R.Keeps.may_draw g.R.Keeps.settles g.R.Keeps.lawful _ _ _ _ _ c.args.place c.pass.inside.seat.me c.see_done.new.seat.me c.see_done.result c.see_done.ensures.seat c.pass.invariant (search rules))

pub returns : goal.returns
returns g c =
    subst (λ z. MatchBool c.see_done.result (KnowsDone g.R.Keeps.may_draw g.R.Keeps.settles g.R.Keeps.lawful c.args.place z (facts c.see_done.new.seat.table_id c.pass.inside.number (padded_value c.pass.inside.journal).events (padded_value c.pass.inside.journal).room c.see_done.new.seat.me)) (facts c.see_done.new.seat.table_id c.pass.inside.number (padded_value c.pass.inside.journal).events (padded_value c.pass.inside.journal).room c.see_done.new.seat.me ≡ z)) c.pass.view_is
    (knows_done g.R.Keeps.may_draw g.R.Keeps.settles g.R.Keeps.lawful _ _ _ _ _ c.args.place c.pass.inside.seat.me c.see_done.new.seat.me c.pass.inside.seat.table_id c.see_done.new.seat.table_id c.see_done.result c.see_done.ensures.seat c.pass.invariant (search rules) c.see_done.ensures.table.0)
