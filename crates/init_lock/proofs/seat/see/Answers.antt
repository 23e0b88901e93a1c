use Rattle.std.proofs.Common.{rules}
use Rattle.init_lock.proofs.Seats.{see_allowed, saw_it}
use Rattle.init_lock.proofs.seat.see.Goals as goal

pub load-requires : goal.load-requires
load-requires g c = (c.requires.table, search rules, see_allowed g.R.Keeps.kept g.R.Keeps.may_draw g.R.Keeps.follows g.R.Keeps.settles g.R.Keeps.lawful g.R.Keeps.leans_on g.R.Keeps.follows_on g.R.Keeps.follows_itself c.args.shared.now.key _ _ c.requires.pass.pass _ _ c.args.place _ c.requires.pass.is c.lock_word.ensures)

pub returns-clause-seat : goal.returns-clause-seat
returns-clause-seat g c = saw_it g.R.Keeps.kept g.R.Keeps.may_draw g.R.Keeps.follows g.R.Keeps.settles g.R.Keeps.lawful g.R.Keeps.leans_on g.R.Keeps.follows_on g.R.Keeps.follows_itself c.args.shared.now.key c.args.shared.now.table_id.slots c.lock_word.result c.load.result _ _ c.load.ensures.2
