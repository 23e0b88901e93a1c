use Rattle.std.proofs.Common.{rules, sym, ◌∙◌}
use Rattle.init_lock.proofs.Seats.{fetch_allowed, fetched, there_already}
use Rattle.init_lock.proofs.seat.fetch.Goals as goal

pub load-requires : goal.load-requires
load-requires g c = (c.requires.table, search rules, fetch_allowed g.R.Keeps.kept g.R.Keeps.may_draw g.R.Keeps.follows g.R.Keeps.settles g.R.Keeps.lawful g.R.Keeps.leans_on g.R.Keeps.follows_on g.R.Keeps.follows_itself c.args.shared.now.key _ _ c.args.carried _ c.args.place _ c.requires.out (sym c.is_carried.ensures ∙ c.if-not-is_carried.true) c.lock_word.ensures c.requires.place.0)

pub returns-then-not-is_carried-clause-fetched : goal.returns-then-not-is_carried-clause-fetched
returns-then-not-is_carried-clause-fetched g c = fetched g.R.Keeps.kept g.R.Keeps.may_draw g.R.Keeps.follows g.R.Keeps.settles g.R.Keeps.lawful g.R.Keeps.leans_on g.R.Keeps.follows_on g.R.Keeps.follows_itself c.args.shared.now.key c.args.shared.now.table_id.slots c.args.carried _ c.args.place c.lock_word.result c.load.result _ c.requires.out (sym c.is_carried.ensures ∙ c.if-not-is_carried.true) c.lock_word.ensures c.load.ensures.2

pub returns-else-not-is_carried-clause-fetched : goal.returns-else-not-is_carried-clause-fetched
returns-else-not-is_carried-clause-fetched g c = there_already g.R.Keeps.kept g.R.Keeps.may_draw g.R.Keeps.follows g.R.Keeps.settles g.R.Keeps.lawful g.R.Keeps.leans_on g.R.Keeps.follows_on g.R.Keeps.follows_itself c.args.shared.now.key c.args.carried _ c.args.place c.requires.out (sym c.is_carried.ensures ∙ c.if-not-is_carried.false)
