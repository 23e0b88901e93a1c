use Rattle.std.proofs.Common.{rules, ℕ, [], ◌∷◌, map, Option, refl, sym, ap, ◌∙◌, subst}
use Rattle.atomic_table.specs.Seated.{TableId}
use Rattle.crossbeam_utils.specs.Padded.{padded_value}
use Rattle.init_lock.specs.Known.{looks_of, opening_of, view_of_pass}
use Rattle.init_lock.specs.Rule.{Each, place_view}
use Rattle.init_lock.specs.Steps.{Found, PassHolds, modify, custody_beside, took}
use Rattle.init_lock.proofs.Logs.{settled_on}
use Rattle.init_lock.proofs.Passes.{taken, found_free}
use Rattle.init_lock.proofs.Places.{others_same, took_away}
use Rattle.init_lock.proofs.table.InitTable.try_take.Goals as goal

pub invariant_of-pass-2 : goal.invariant_of-pass-2
invariant_of-pass-2 g c =
    let t = taken g.R.Keeps.kept _ _ _ _ _ c.args.place c.in_ok-block.block c.pass.inside.seat.me c.take_out.new.seat.me c.pass.invariant (search rules) (found_free g.R.Keeps.kept g.R.Keeps.may_draw g.R.Keeps.follows _ _ _ _ _ c.args.place c.in_ok-block.block _ c.pass.invariant c.in_ok-block.ensures.some.1) c.in_ok-block.ensures.some.0 in
    subst (λ (z : TableId × Option ℕ). PassHolds z.0.slots c.pass.inside.number z.1 (padded_value c.pass.inside.journal).events (padded_value c.pass.inside.journal).room c.take_out.new.seat.me) (λ i. (sym c.in_ok-block.ensures.table.0 i, sym c.or-pass-inside.ensures i)) t.holds

pub returns-clause-taken : goal.returns-clause-taken
returns-clause-taken g c =
    let t = taken g.R.Keeps.kept _ _ _ _ _ c.args.place c.in_ok-block.block c.pass.inside.seat.me c.take_out.new.seat.me c.pass.invariant (search rules) (found_free g.R.Keeps.kept g.R.Keeps.may_draw g.R.Keeps.follows _ _ _ _ _ c.args.place c.in_ok-block.block _ c.pass.invariant c.in_ok-block.ensures.some.1) c.in_ok-block.ensures.some.0 in
    let places = t.places ∙ ap (λ z. modify c.args.place (λ t. place_view (g.R.Keeps.kept c.in_ok-block.block) c.in_ok-block.block (custody_beside c.pass.inside.carried)) z.places) c.pass.view_is in
    let h = c.in_ok-block.ensures.some in
    let was = ap (λ z. z.0) c.pass.invariant.tied ∙ ap (λ z. view_of_pass z ∷ []) c.pass.view_is in
    let is = ap (λ z. z.0) h.0 ∙ ap (map (took g.R.Keeps.kept c.args.place c.in_ok-block.block (custody_beside c.pass.inside.carried))) was in
    let f = (subst (Each (Found g.R.Keeps.kept g.R.Keeps.may_draw g.R.Keeps.follows c.args.place c.in_ok-block.block)) was h.1).0 in
    record {
      place = refl;
      untouched = c.of-taken.ensures;
      free = f.free;
      grew = f.grew;
      own = f.own;
      still_settled = settled_on g.R.Keeps.settles g.R.Keeps.may_draw _ _ _ _ f.grew;
      follows_last = f.last;
      follows_opening = f.opening;
      seen = t.seen;
      out = t.out;
      last = t.last;
      others = others_same c.args.pass.now.places _ c.args.place _ places;
      looks = ap looks_of is;
      holding = took_away c.args.pass.now.places _ c.args.place _ places;
      journal = ap (λ z. z.journal) c.pass.view_is;
      room = ap (λ z. z.room) c.pass.view_is;
      same = record { table = c.in_ok-block.ensures.table.0 ∙ ap (λ z. z.table) c.pass.view_is; number = ap (λ z. z.number) c.pass.view_is; opening = ap opening_of is };
    }
