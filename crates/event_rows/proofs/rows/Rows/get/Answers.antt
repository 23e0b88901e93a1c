use Rattle.std.proofs.Common.{◌<◌, length, ap, sym, ◌∙◌, arith}
use Rattle.std.specs.List.{slice_get}
use Rattle.event_rows.specs.Rows.{text_at}
use Rattle.event_rows.proofs.RowsInBlocks.{length_rows, row_got}
use Rattle.event_rows.proofs.rows.Rows.get.Goals as goal

pub get-requires-clause-within : goal.get-requires-clause-within
get-requires-clause-within g c =
    let rows = length_rows c.self.inside.blocks c.self.inside.texts.items in
    let seen = ap (λ z. length z.rows) c.self.view_is in
    omega (arith, c.requires.within)

pub returns : goal.returns
returns g c =
    let s = c.self.inside in
    let rows = length_rows s.blocks s.texts.items in
    let seen = ap (λ z. length z.rows) c.self.view_is in
    let there = row_got s.blocks s.texts.items c.args.index (omega (arith, c.requires.within)) in
    let words = c.get.ensures in
    let text = c.find_text.ensures ∙ ap (λ z. text_at z c.args.index) c.deref.ensures.value in
    ap (λ z. slice_get z.rows c.args.index) (sym c.self.view_is) ∙ there ∙ cc
