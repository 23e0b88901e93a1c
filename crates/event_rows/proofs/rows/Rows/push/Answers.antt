use Rattle.std.proofs.Common.{◌≡◌, ◌+◌, [], ◌∷◌, ◌++◌, ap, sym, ◌∙◌, subst, arith}
use Rattle.event_rows.specs.Rows.{AreRising, text_at}
use Rattle.event_rows.proofs.RowsInBlocks.{longer, one_more}
use Rattle.event_rows.proofs.rows.Rows.push.Goals as goal

pub invariant_of-self : goal.invariant_of-self
invariant_of-self g c =
    let s = c.self.inside in
    let h = c.self.invariant in
    let new = c.push.ensures in
    let wide = c.requires.width ∙ sym (ap (λ z. z.width) c.self.view_is) in
    let row : c.len.result + 1 ≡ c.push.new.self.len = ap (λ n. n + 1) c.len.ensures ∙ sym new.len in
    let few = h.few in
    let narrow = h.narrow in
    let room = h.room in
    let texts = c.push_text.ensures in
    let len = new.len in
    let less = new.room in
    let width = new.width in
    let texts_len = texts.len in
    let texts_room = texts.room in
    record {
      narrow = omega arith;
      whole = longer s.blocks c.push.new.self c.args.words.now h.whole wide new.width new.items new.len;
      few = omega arith;
      rising = subst (λ n. AreRising 0 n c.push_text.new.texts.items) row texts.rising;
      room = omega arith;
    }

pub returns-clause-rows : goal.returns-clause-rows
returns-clause-rows g c =
    let s = c.self.inside in
    let new = c.push.ensures in
    let wide = c.requires.width ∙ sym (ap (λ z. z.width) c.self.view_is) in
    let here = c.len.ensures in
    let more = one_more s.blocks c.push.new.self c.args.words.now s.texts.items c.push_text.new.texts.items c.args.text c.self.invariant.whole wide new.width new.items new.len
    (λ other low. c.push_text.ensures.others other (omega arith))
    (ap (λ n. text_at c.push_text.new.texts.items n) (sym here) ∙ c.push_text.ensures.text) in
    more ∙ ap (λ z. z.rows ++ record { words = c.args.words.now; text = c.args.text } ∷ []) c.self.view_is
