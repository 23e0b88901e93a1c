use Rattle.std.proofs.Common.{◌≡◌, ◌+◌, ◌≤◌, length, ap, sym, ◌∙◌, subst, arith}
use Rattle.event_rows.specs.Rows.{AreRising, AreRowsWithTexts}
use Rattle.event_rows.proofs.RowsInBlocks.{length_rows}
use Rattle.event_rows.proofs.rows.Rows.reserve.Goals as goal

pub reserve-requires-2 : goal.reserve-requires-2
reserve-requires-2 g c =
    let s = c.self.inside in
    let rows = length_rows s.blocks s.texts.items in
    let seen = ap (λ z. length z.rows + z.room) c.self.view_is in
    omega (arith, c.requires)

pub invariant_of-self-2 : goal.invariant_of-self-2
invariant_of-self-2 g c =
    let s = c.self.inside in
    let h = c.self.invariant in
    let rows = length_rows s.blocks s.texts.items in
    let seen = ap (λ z. length z.rows + z.room) c.self.view_is in
    let free = c.room.ensures in
    let fits = c.in_ok-reserve.ensures.ok in
    subst (λ z. AreRowsWithTexts z c.reserve.new.self) (sym c.in_ok-reserve-2.ensures.ok) (record {
      narrow = h.narrow;
      whole = h.whole;
      few = omega (arith, c.requires);
      rising = subst (λ z. AreRising 0 s.blocks.len z) (sym c.in_ok-reserve.ensures.items) h.rising;
      room = omega arith;
    })
