use Rattle.std.proofs.Common.{◌≡◌, ◌+◌, ◌*◌, ◌<◌, ◌≤◌, ℕ, length, vec_len, vec_capacity, ◌-◌, refl, ap, sym, ◌∙◌, subst, arith}
use Rattle.event_rows.specs.Laid.{AreBlocks}
use Rattle.event_rows.specs.declared.blocks.Blocks.TheInside.{Inside}
use Rattle.event_rows.proofs.Laying.{gain_row, tail_fits}
use Rattle.event_rows.proofs.blocks.Blocks.push.Goals.{then-self-len, else-self-len}
use Rattle.event_rows.proofs.blocks.Blocks.push.Goals as goal

-- the tail has room for a row, and there is room for one
record IsReady (width : ℕ) (b : Inside) : Type 0 where
  blocks : AreBlocks b.width b.len b.full b.tail b.spare b.capacity
  low : b.len < 1024 * (vec_len b.full + 1)
  free : b.len < b.capacity
  needed : 1024 * (vec_len b.full + vec_len b.spare) ≤ b.capacity - 1
  same : b.width ≡ width

pub push_all-requires : goal.push_all-requires
push_all-requires c =
    let s = c.self.inside in
    let n = c.if-self-len.self-inside in
    let inv = c.self.invariant in
    let room = ap (λ z. z.room) c.self.view_is in
    let within = inv.blocks.within in
    let needed = inv.needed in
    let counted = c.len.ensures in
    let ready : IsReady s.width n = elim c.if-self-len.branch [
      | then-self-len w ↦ (let begun = w.to_next.ensures.begun in let held = w.to_next.ensures.held in subst (λ z. IsReady s.width z) (sym w.self-inside-is) (record { blocks = w.to_next.ensures.blocks; low = omega arith; free = omega (arith, c.requires.room); needed = omega arith; same = refl }))
      | else-self-len w ↦ (let apart = w.if-self-len in subst (λ z. IsReady s.width z) (sym w.self-inside-is) (record { blocks = inv.blocks; low = omega arith; free = omega (arith, c.requires.room); needed = needed; same = refl }))
    ] in
    let wide = c.requires.width ∙ sym (ap (λ z. z.width) c.self.view_is) in
    let same = ready.same in
    let fits = tail_fits n.width n.len n.full n.tail n.spare n.capacity ready.blocks ready.low ready.free in
    omega arith

pub invariant_of-self : goal.invariant_of-self
invariant_of-self c =
    let s = c.self.inside in
    let n = c.if-self-len.self-inside in
    let inv = c.self.invariant in
    let room = ap (λ z. z.room) c.self.view_is in
    let within = inv.blocks.within in
    let needed = inv.needed in
    let counted = c.len.ensures in
    let ready : IsReady s.width n = elim c.if-self-len.branch [
      | then-self-len w ↦ (let begun = w.to_next.ensures.begun in let held = w.to_next.ensures.held in subst (λ z. IsReady s.width z) (sym w.self-inside-is) (record { blocks = w.to_next.ensures.blocks; low = omega arith; free = omega (arith, c.requires.room); needed = omega arith; same = refl }))
      | else-self-len w ↦ (let apart = w.if-self-len in subst (λ z. IsReady s.width z) (sym w.self-inside-is) (record { blocks = inv.blocks; low = omega arith; free = omega (arith, c.requires.room); needed = needed; same = refl }))
    ] in
    let wide = c.requires.width ∙ sym (ap (λ z. z.width) c.self.view_is) in
    let same = ready.same in
    let counted_words = c.push_all.ensures.len in
    let before = ready.blocks.before in
    let free = ready.free in
    record {
      blocks = gain_row n.width n.len n.full n.tail c.push_all.new.block n.spare n.capacity ready.blocks ready.low ready.free (omega arith) c.push_all.ensures.room;
      last = λ e. absurd (omega arith);
      none = λ e. absurd (omega arith);
      needed = ready.needed;
    }
