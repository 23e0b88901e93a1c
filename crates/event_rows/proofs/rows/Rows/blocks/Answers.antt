use Rattle.std.proofs.Common.{◌+◌, ◌*◌, length, ap, ◌∙◌, arith}
use Rattle.event_rows.specs.WordList.{blocks_for}
use Rattle.event_rows.proofs.RowsInBlocks.{length_rows}
use Rattle.event_rows.proofs.rows.Rows.blocks.Goals as goal

pub returns : goal.returns
returns g c =
    let s = c.self.inside in
    let rows = length_rows s.blocks s.texts.items in
    let seen = ap (λ z. length z.rows + z.room) c.self.view_is in
    ap (λ n. n * c.count.result) c.width.ensures ∙ ap (λ n. c.args.self.now.width * n) (c.count.ensures ∙ ap (λ n. blocks_for n) (omega arith))
