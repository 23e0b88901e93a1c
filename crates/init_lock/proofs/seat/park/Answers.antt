use Rattle.std.proofs.Common.{rules, sym, ◌∙◌}
use Rattle.init_lock.proofs.Seats.{park_allowed, parked, kept_at_hand}
use Rattle.init_lock.proofs.seat.park.Goals as goal

pub load-requires : goal.load-requires
load-requires g c = (c.requires.table, search rules, park_allowed g.R.Keeps.kept g.R.Keeps.may_draw g.R.Keeps.follows g.R.Keeps.settles g.R.Keeps.lawful g.R.Keeps.leans_on g.R.Keeps.follows_on g.R.Keeps.follows_itself c.args.shared.now.key _ _ c.args.carried _ c.args.place _ c.args._taken.now c.requires.taken c.lock_word.ensures c.requires.place.0)

pub returns-then-is_some-clause-parked : goal.returns-then-is_some-clause-parked
returns-then-is_some-clause-parked g c = parked g.R.Keeps.kept g.R.Keeps.may_draw g.R.Keeps.follows g.R.Keeps.settles g.R.Keeps.lawful g.R.Keeps.leans_on g.R.Keeps.follows_on g.R.Keeps.follows_itself c.args.shared.now.key c.args.shared.now.table_id.slots c.args.carried _ c.args.place c.lock_word.result c.load.result c.args._taken.now _ c.requires.taken c.lock_word.ensures (sym c.is_some.ensures ∙ c.if-is_some.true) c.load.ensures.2

pub returns-else-is_some-clause-parked : goal.returns-else-is_some-clause-parked
returns-else-is_some-clause-parked g c = kept_at_hand g.R.Keeps.kept g.R.Keeps.may_draw g.R.Keeps.follows g.R.Keeps.settles g.R.Keeps.lawful g.R.Keeps.leans_on g.R.Keeps.follows_on g.R.Keeps.follows_itself c.args.shared.now.key c.args.carried _ c.args.place c.args._taken.now c.requires.taken (sym c.is_some.ensures ∙ c.if-is_some.false)
