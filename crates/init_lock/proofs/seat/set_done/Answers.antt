use Rattle.std.proofs.Common.{rules, ap, ◌∙◌}
use Rattle.init_lock.specs.Rule.{done_word}
use Rattle.init_lock.proofs.Dones.{set_done_allowed}
use Rattle.init_lock.proofs.seat.set_done.Goals as goal

pub store-requires : goal.store-requires
store-requires g c = (c.requires.table, search rules, set_done_allowed g.R.Keeps.kept g.R.Keeps.may_draw g.R.Keeps.follows g.R.Keeps.settles g.R.Keeps.lawful g.R.Keeps.leans_on g.R.Keeps.follows_on g.R.Keeps.follows_itself c.args.shared.now.key _ _ c.args._carried _ c.args.place _ c.requires.settled (c.done_word.ensures ∙ ap (λ z. done_word z c.args.place) c.requires.places) c.requires.place.0)
