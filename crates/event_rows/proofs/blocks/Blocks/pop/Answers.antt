use Rattle.std.proofs.Common.{◌≡◌, ◌+◌, ◌-◌, ◌<◌, length, drop, vec_len, ap, sym, ◌∙◌, arith, length-drop}
use Rattle.std.proofs.lemmas.List.{length-take-le}
use Rattle.event_rows.proofs.Laying.{has_row, lose_row}
use Rattle.event_rows.proofs.blocks.Blocks.pop.Goals as goal

pub copy_from_slice-requires : goal.copy_from_slice-requires
copy_from_slice-requires c =
    let s = c.self.inside in
    let len = ap (λ z. z.len) c.self.view_is in
    let wide = ap (λ z. z.width) c.self.view_is in
    let low = (has_row s.width s.len s.full s.tail s.spare s.capacity c.self.invariant (omega arith)).1 in
    let start = c.len.result - length c.args.words.now in
    let long = c.deref.ensures.len in
    let left = length-drop start c.deref.result.now in
    let cut = length-take-le (length c.deref.result.now - start) (drop start c.deref.result.now) (omega arith) in
    omega arith

pub settle-requires-clause-blocks : goal.settle-requires-clause-blocks
settle-requires-clause-blocks c =
    let s = c.self.inside in
    let len = ap (λ z. z.len) c.self.view_is in
    let wide = ap (λ z. z.width) c.self.view_is in
    let low = (has_row s.width s.len s.full s.tail s.spare s.capacity c.self.invariant (omega arith)).1 in
    let cut = c.truncate.ensures.len in
    lose_row s.width s.len s.full s.tail c.truncate.new.self s.spare s.capacity c.self.invariant (omega arith) (omega arith) c.truncate.ensures.capacity

pub invariant_of-self : goal.invariant_of-self
invariant_of-self c =
    let s = c.self.inside in
    let len = ap (λ z. z.len) c.self.view_is in
    let wide = ap (λ z. z.width) c.self.view_is in
    let low = (has_row s.width s.len s.full s.tail s.spare s.capacity c.self.invariant (omega arith)).1 in
    let cut = c.truncate.ensures.len in
    let inside = c.self.invariant.blocks.inside in
    let needed = c.self.invariant.needed in
    let apart = c.if-self-len.false in
    let between = c.if-self-eq0.false in
    let blocks = lose_row s.width s.len s.full s.tail c.truncate.new.self s.spare s.capacity c.self.invariant (omega arith) (omega arith) c.truncate.ensures.capacity in
    record { blocks = blocks; last = λ e. absurd (omega arith); none = λ e. absurd (omega arith); needed = omega arith }
