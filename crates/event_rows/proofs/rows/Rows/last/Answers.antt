use Rattle.std.proofs.Common.{◌-◌, ◌<◌, length, ap, sym, ◌∙◌, arith}
use Rattle.std.specs.List.{slice_get, slice_index}
use Rattle.std.specs.Option.{option_map}
use Rattle.event_rows.specs.Rows.{Row}
use Rattle.event_rows.proofs.RowsInBlocks.{last_word}
use Rattle.event_rows.proofs.rows.Rows.last.Goals as goal

pub returns : goal.returns
returns g c =
    let s = c.self.inside in
    let wide = ap (λ z. z.width) c.self.view_is in
    last_word c.last.result s.blocks s.texts.items c.args.column (omega (arith, c.requires)) c.last.ensures.some c.last.ensures.none
    ∙ ap (λ z. option_map (λ row. slice_index row.words c.args.column) (slice_get z.rows (length z.rows - 1))) c.self.view_is
