use Rattle.std.proofs.Common.{◌≡◌, ◌+◌, ◌*◌, ◌/◌, ◌%◌, ◌≤◌, length, get_or, ap, sym, ◌∙◌, arith}
use Rattle.std.specs.List.{slice_range}
use Rattle.std.proofs.lemmas.Nat.{mul-le}
use Rattle.event_rows.specs.Blocks.{Block, words_at}
use Rattle.event_rows.proofs.Laying.{cut, in_full, in_tail}
use Rattle.event_rows.proofs.blocks.Blocks.get.Goals as goal

pub overflow_mul-start : goal.overflow_mul-start
overflow_mul-start c =
    let wide = c.requires.width ∙ sym (ap (λ z. z.width) c.self.view_is) in
    let narrow = c.self.invariant.blocks.narrow in
    let most = mul-le (length c.args.words.now) (c.args.index % 1024) 4096 1024 (omega arith) (omega arith) in
    omega arith

pub overflow_add-end : goal.overflow_add-end
overflow_add-end c =
    let wide = c.requires.width ∙ sym (ap (λ z. z.width) c.self.view_is) in
    let narrow = c.self.invariant.blocks.narrow in
    let most = mul-le (length c.args.words.now) (c.args.index % 1024) 4096 1024 (omega arith) (omega arith) in
    omega arith

pub returns-then-block-filled : goal.returns-then-block-filled
returns-then-block-filled c =
    let s = c.self.inside in
    let n = length c.args.words.now in
    let row = c.args.index % 1024 in
    let block = c.index.result.now in
    let wide = c.requires.width ∙ sym (ap (λ z. z.width) c.self.view_is) in
    c.copy_from_slice.ensures.after
    ∙ ap (λ z. slice_range z (n * row) (n * row + n)) c.deref.ensures.value
    ∙ ap (λ (b : Block). slice_range b.items (n * row) (n * row + n)) c.index.ensures
    ∙ cut n s.width row (get_or s.full.items (c.args.index / 1024) block).items wide
    ∙ sym (in_full s.width s.full s.tail.items c.args.index block c.self.invariant.blocks.full_words (omega arith))
    ∙ ap (λ z. words_at z.width z.items c.args.index) c.self.view_is

pub returns-else-block-filled : goal.returns-else-block-filled
returns-else-block-filled c =
    let s = c.self.inside in
    let n = length c.args.words.now in
    let row = c.args.index % 1024 in
    let wide = c.requires.width ∙ sym (ap (λ z. z.width) c.self.view_is) in
    let len = ap (λ z. z.len) c.self.view_is in
    let within = c.self.invariant.blocks.within in
    c.copy_from_slice-else-block-filled.ensures.after
    ∙ ap (λ z. slice_range z (n * row) (n * row + n)) c.deref-else-block-filled.ensures.value
    ∙ cut n s.width row s.tail.items wide
    ∙ sym (in_tail s.width s.full s.tail.items c.args.index c.self.invariant.blocks.full_words (omega arith))
    ∙ ap (λ z. words_at z.width z.items c.args.index) c.self.view_is
