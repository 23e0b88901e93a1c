use Rattle.std.proofs.Common.{◌∙◌, sym, ap, option_copied}
use Rattle.hierarchy.proofs.FinishedLists.{last_there}
use Rattle.hierarchy.proofs.finished_lists.last_listed.Goals as goal

pub returns-in-Some : goal.returns-in-Some
returns-in-Some c = last_there c.args.all.now c.args.number c.in-Some.list.now c.last.result (sym c.list_at.ensures ∙ ap option_copied c.in-Some.is) c.last.ensures
