use Rattle.std.proofs.Common.{sym, ap, ◌∙◌}
use Rattle.init_lock.specs.Merging.{end_of}
use Rattle.init_lock.proofs.Packed.{after, end_by_rows}
use Rattle.init_lock.proofs.journal.Journal.end.Goals as goal

pub returns-in-None : goal.returns-in-None
returns-in-None g c = sym (ap (λ z. end_of z.events) (sym c.self.view_is) ∙ end_by_rows g.R.Keeps.unpacked c.self.inside.rows.rows c.last.result c.last.ensures ∙ ap after c.in-None.is)

pub returns-in-Some : goal.returns-in-Some
returns-in-Some g c = sym (ap (λ z. end_of z.events) (sym c.self.view_is) ∙ end_by_rows g.R.Keeps.unpacked c.self.inside.rows.rows c.last.result c.last.ensures ∙ ap after c.in-Some.is)
