use Rattle.std.proofs.Common.{◌≡◌, ◌+◌, ◌-◌, ◌*◌, ◌<◌, get_or, vec_len, ap, sym, ◌∙◌, arith}
use Rattle.std.proofs.lemmas.List.{get_or_read_under}
use Rattle.event_rows.proofs.Laying.{has_row, in_last}
use Rattle.event_rows.proofs.blocks.Blocks.last.Goals as goal

pub returns-clause-some : goal.returns-clause-some
returns-clause-some c =
    let s = c.self.inside in
    let column = c.args.column in
    let inv = c.self.invariant in
    let len = ap (λ z. z.len) c.self.view_is in
    let wide = ap (λ z. z.width) c.self.view_is in
    let some : 0 < s.len = omega arith in
    let row = has_row s.width s.len s.full s.tail s.spare s.capacity inv some in
    let tail = row.1 in
    let read = get_or_read_under s.tail.items (c.len.result - s.width + column) (vec_len s.tail) c.index.result.now 0 c.index.ensures (omega arith) s.tail.ok.0 in (
      omega arith,
      read
          ∙ ap (λ n. get_or s.tail.items (n - s.width + column) 0) c.len.ensures
          ∙ sym (in_last s.width s.len column s.full s.tail inv.blocks.full_words row.0 inv.blocks.tail_words)
          ∙ ap (λ z. get_or z.items (z.width * (z.len - 1) + column) 0) c.self.view_is,
    )
