use Rattle.std.proofs.Common.{rules, ap, ◌∙◌}
use Rattle.init_lock.specs.Rule.{done_word}
use Rattle.init_lock.proofs.Dones.{see_done_allowed}
use Rattle.init_lock.proofs.seat.see_done.Goals as goal

pub load-requires : goal.load-requires
load-requires g c = (c.requires.table, search rules, see_done_allowed g.R.Keeps.kept g.R.Keeps.may_draw g.R.Keeps.follows g.R.Keeps.settles g.R.Keeps.lawful g.R.Keeps.leans_on g.R.Keeps.follows_on g.R.Keeps.follows_itself c.args.shared.now.key _ _ c.requires.pass.pass _ _ c.args.place _ c.requires.pass.is (c.done_word.ensures ∙ ap (λ z. done_word z c.args.place) c.requires.places) c.requires.place.0)
