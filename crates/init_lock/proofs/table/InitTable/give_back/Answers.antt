use Rattle.std.proofs.Common.{rules, ℕ, Option, sym, ap, ◌∙◌, subst}
use Rattle.atomic_table.specs.Seated.{TableId}
use Rattle.crossbeam_utils.specs.Padded.{padded_value}
use Rattle.init_lock.specs.Known.{out_of, places_of}
use Rattle.init_lock.specs.Steps.{PassHolds, modify, leave}
use Rattle.init_lock.proofs.Passes.{returned, may_return, held_low}
use Rattle.init_lock.proofs.Places.{others_same, gave_back}
use Rattle.init_lock.proofs.table.InitTable.give_back.Goals as goal

pub put_back-requires-clause-place : goal.put_back-requires-clause-place
put_back-requires-clause-place g c =
    let low = held_low _ _ _ _ _ c.held.inside.place c.held.inside.taken.value c.pass.inside.seat.me c.pass.invariant (search rules) in
    search rules

pub put_back-requires-clause-held : goal.put_back-requires-clause-held
put_back-requires-clause-held g c = may_return g.R.Keeps.kept g.R.Keeps.may_draw g.R.Keeps.follows _ _ _ _ _ c.held.inside.place c.held.inside.taken.value c.held.inside.block c.pass.inside.seat.me c.pass.invariant (search rules) (search rules) (search rules)

pub invariant_of-pass : goal.invariant_of-pass
invariant_of-pass g c =
    let t = returned g.R.Keeps.kept _ _ _ _ _ c.held.inside.place c.held.inside.taken.value c.held.inside.block c.pass.inside.seat.me c.put_back.new.seat.me c.pass.invariant (search rules) c.put_back.ensures.freed in
    subst (λ (z : TableId × Option ℕ). PassHolds z.0.slots c.pass.inside.number z.1 (padded_value c.pass.inside.journal).events (padded_value c.pass.inside.journal).room c.put_back.new.seat.me) (λ i. (sym c.put_back.ensures.table.0 i, sym c.without-pass-inside.ensures i)) t.holds

pub returns : goal.returns
returns g c =
    let t = returned g.R.Keeps.kept _ _ _ _ _ c.held.inside.place c.held.inside.taken.value c.held.inside.block c.pass.inside.seat.me c.put_back.new.seat.me c.pass.invariant (search rules) c.put_back.ensures.freed in
    let places = t.places ∙ (λ i. modify ((c.held.view_is i).place) (leave c.held.inside.block) (c.pass.view_is i).places) in
    let seen = t.seen in
    let out = t.out in
    let last = t.last in
    let looks = t.looks in
    record {
      seen = search rules;
      out = search rules;
      last = search rules;
      others = others_same c.args.pass.now.places _ c.args.held.place (leave c.held.inside.block) places;
      looks = search rules;
      away = gave_back c.args.pass.now.places _ c.args.held.place (leave c.held.inside.block) places (ap (λ z. out_of z.place (places_of c.put_back.new.seat.me.0)) (sym c.held.view_is) ∙ t.out);
      journal = search rules;
      room = search rules;
      same = record { table = search rules; number = search rules; opening = search rules };
    }
