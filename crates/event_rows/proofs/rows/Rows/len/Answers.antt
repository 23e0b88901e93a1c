use Rattle.std.proofs.Common.{length, ap, sym, ◌∙◌}
use Rattle.event_rows.proofs.RowsInBlocks.{length_rows}
use Rattle.event_rows.proofs.rows.Rows.len.Goals as goal

pub returns : goal.returns
returns g c = c.len.ensures ∙ sym (length_rows c.self.inside.blocks c.self.inside.texts.items) ∙ ap (λ z. length z.rows) c.self.view_is
