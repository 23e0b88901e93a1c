use Rattle.std.proofs.Common.{rules, [], ◌∷◌, ◌++◌, length, sym, ap, ◌∙◌, subst, arith}
use Rattle.crossbeam_utils.specs.Padded.{padded_value}
use Rattle.init_lock.specs.Log.{stamped, AreBelow}
use Rattle.init_lock.specs.Rule.{Each}
use Rattle.init_lock.specs.Steps.{PassHolds, MayStand, drawn_places}
use Rattle.init_lock.proofs.Seats.{draw_allowed, drew_said}
use Rattle.init_lock.proofs.Passes.{the_view, is_holding_at, drew_one}
use Rattle.init_lock.proofs.Packed.{out_is_low}
use Rattle.init_lock.proofs.table.InitTable.stamp.Goals as goal

pub fetch_add-stamp-requires : goal.fetch_add-stamp-requires
fetch_add-stamp-requires g c =
    let holds = c.pass.invariant in
    let has = is_holding_at _ _ _ _ _ c.args.place c.pass.inside.seat.me holds (search rules) in
    let short = holds.short in
    (search rules, search rules, draw_allowed g.R.Keeps.kept g.R.Keeps.may_draw g.R.Keeps.follows g.R.Keeps.settles g.R.Keeps.lawful g.R.Keeps.leans_on g.R.Keeps.follows_on g.R.Keeps.follows_itself _ _ _ (the_view c.pass.inside.number (padded_value c.pass.inside.journal).events c.pass.inside.seat.me) _ _ c.args.place c.args.event _ holds.tied c.requires.told (search rules) (search rules) has (subst (λ z. MayStand g.R.Keeps.lawful g.R.Keeps.leans_on g.R.Keeps.settles c.args.place c.args.event z.places) (sym c.pass.view_is) c.requires.stands))

pub push-requires-clause-place : goal.push-requires-clause-place
push-requires-clause-place g c =
    let same = ap (λ z. z.table.slots) c.pass.view_is ∙ ap (λ z. z.slots) (c.requires.table ∙ sym (ap (λ z. z.id) c.self.view_is)) in
    let wide = c.pass.invariant.wide in
    let slots = c.self.invariant.1 in
    let few = c.self.invariant.7 in
    let many = ap (λ z. length z.places) c.pass.view_is in
    out_is_low c.args.place c.args.pass.now.places c.requires.out (omega arith)

pub invariant_of-pass : goal.invariant_of-pass
invariant_of-pass g c =
    let told = drew_said g.R.Keeps.kept g.R.Keeps.may_draw g.R.Keeps.follows g.R.Keeps.settles g.R.Keeps.lawful g.R.Keeps.leans_on g.R.Keeps.follows_on g.R.Keeps.follows_itself c.self.inside.table.shared.key c.args.place c.args.event _ _ _ c.fetch_add-stamp.result _ c.requires.told c.fetch_add-stamp.ensures.2 in
    let events = c.push.ensures.events ∙ ap (λ j. j.events ++ stamped c.fetch_add-stamp.result c.args.place c.args.event ∷ []) c.deref_mut.ensures.value in
    let less = c.push.ensures.room ∙ ap (λ j. j.room) c.deref_mut.ensures.value in
    let one = drew_one _ _ _ c.push.new.self.room _ _ c.args.place c.args.event c.fetch_add-stamp.result c.pass.inside.seat.me c.fetch_add-stamp.new.seat.me c.pass.invariant less told.0 in
    subst (λ (z : _). PassHolds z.slots c.pass.inside.number c.pass.inside.carried c.push.new.self.events c.push.new.self.room c.fetch_add-stamp.new.seat.me) (sym c.fetch_add-stamp.ensures.0)
    (subst (λ (z : _). PassHolds c.pass.inside.seat.table_id.slots c.pass.inside.number c.pass.inside.carried z c.push.new.self.room c.fetch_add-stamp.new.seat.me) (sym events) one.holds)

pub returns : goal.returns
returns g c =
    let told = drew_said g.R.Keeps.kept g.R.Keeps.may_draw g.R.Keeps.follows g.R.Keeps.settles g.R.Keeps.lawful g.R.Keeps.leans_on g.R.Keeps.follows_on g.R.Keeps.follows_itself c.self.inside.table.shared.key c.args.place c.args.event _ _ _ c.fetch_add-stamp.result _ c.requires.told c.fetch_add-stamp.ensures.2 in
    let less = c.push.ensures.room ∙ ap (λ j. j.room) c.deref_mut.ensures.value in
    let one = drew_one _ _ _ c.push.new.self.room _ _ c.args.place c.args.event c.fetch_add-stamp.result c.pass.inside.seat.me c.fetch_add-stamp.new.seat.me c.pass.invariant less told.0 in
    let first = subst (λ (z : _). Each (λ p. AreBelow c.fetch_add-stamp.result p.journal) z.0) c.pass.invariant.tied told.2 in
    let below = told.1 in
    let looks = one.looks in
    record {
      journal = search rules;
      room = search rules;
      below = search rules;
      rising = subst (λ (z : _). AreBelow c.fetch_add-stamp.result z.journal) c.pass.view_is first.0;
      places = one.places ∙ ap (λ z. drawn_places c.args.place c.args.event z.places) c.pass.view_is;
      looks = search rules;
      same = record { table = search rules; number = search rules; opening = search rules };
    }
