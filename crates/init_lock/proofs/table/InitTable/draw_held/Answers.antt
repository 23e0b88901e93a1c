use Rattle.std.proofs.Common.{rules, ap}
use Rattle.init_lock.specs.Steps.{extend}
use Rattle.init_lock.proofs.Places.{others_same, still_away_at, extended}
use Rattle.init_lock.proofs.table.InitTable.draw_held.Goals as goal

pub stamp-requires-clause-out : goal.stamp-requires-clause-out
stamp-requires-clause-out g c = (c.held.inside.taken.value, search rules)

pub returns-clause-more : goal.returns-clause-more
returns-clause-more g c =
    let d = extended c.args.pass.now.places _ c.held.inside.place c.args.event c.held.inside.taken.value (search rules) c.stamp.ensures.places in
    let same = others_same c.args.pass.now.places _ c.held.inside.place (extend c.args.event) c.stamp.ensures.places in
    let seen = d.0 in
    let out = d.1 in
    let last = d.2 in
    record {
      seen = search rules;
      out = search rules;
      last = search rules;
      others = search rules;
      holding = still_away_at c.args.pass.now.places _ c.held.inside.place c.args.held.now.place (extend c.args.event) (ap (λ z. z.place) c.held.view_is) c.stamp.ensures.places;
    }
