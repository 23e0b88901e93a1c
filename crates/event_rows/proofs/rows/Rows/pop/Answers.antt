use Rattle.std.proofs.Common.{◌≡◌, ◌+◌, length, ap, sym, ◌∙◌, subst, arith}
use Rattle.event_rows.specs.Rows.{AreRising, text_at}
use Rattle.event_rows.proofs.RowsInBlocks.{one_more, shorter}
use Rattle.event_rows.proofs.rows.Rows.pop.Goals as goal

pub invariant_of-self : goal.invariant_of-self
invariant_of-self g c =
    let s = c.self.inside in
    let h = c.self.invariant in
    let new = c.pop.ensures in
    let wide = c.pop.auto.words ∙ c.requires.width ∙ sym (ap (λ z. z.width) c.self.view_is) in
    let few = h.few in
    let narrow = h.narrow in
    let room = h.room in
    let len = new.len in
    let same_room = new.room in
    let width = new.width in
    let texts = c.pop_text.ensures in
    let texts_len = texts.len in
    let texts_room = texts.room in
    record {
      narrow = omega arith;
      whole = shorter s.blocks c.pop.new.self c.pop.new.words h.whole wide new.width new.items new.len;
      few = omega arith;
      rising = subst (λ n. AreRising 0 n c.pop_text.new.texts.items) c.len.ensures texts.rising;
      room = omega arith;
    }

pub returns-clause-rows : goal.returns-clause-rows
returns-clause-rows g c =
    let s = c.self.inside in
    let new = c.pop.ensures in
    let here = c.len.ensures in
    let wide = c.pop.auto.words ∙ c.requires.width ∙ sym (ap (λ z. z.width) c.self.view_is) in
    let whole = shorter s.blocks c.pop.new.self c.pop.new.words c.self.invariant.whole wide new.width new.items new.len in
    let more = one_more c.pop.new.self s.blocks c.pop.new.words c.pop_text.new.texts.items s.texts.items c.pop_text.result whole (wide ∙ sym new.width) (sym new.width) new.items (sym new.len)
    (λ other low. sym (c.pop_text.ensures.others other (omega arith)))
    (sym (c.pop_text.ensures.text ∙ ap (λ n. text_at s.texts.items n) here)) in
    sym (ap (λ z. z.rows) c.self.view_is) ∙ more
