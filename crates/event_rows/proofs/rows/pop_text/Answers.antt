use Rattle.std.proofs.Common.{◌<◌, ◌-◌, length, get_or, sym, ap, ◌∙◌, subst, arith}
use Rattle.event_rows.proofs.Texts.{no_text, last_before, last_there}
use Rattle.event_rows.proofs.rows.pop_text.Goals as goal

pub returns-then-last-row-clause-rising : goal.returns-then-last-row-clause-rising
returns-then-last-row-clause-rising g c =
    let last = c.in-Some.last.now in
    let at = c.in-Some.ensures.item.1 ∙ ap (λ z. get_or z (length z - 1) last) c.deref.ensures.value in
    let some = subst (λ z. 0 < length z) c.deref.ensures.value c.in-Some.ensures.item.3.0 in
    last_before c.args.row c.args.texts.now.items last c.requires some at c.if-last-row.true

pub returns-then-last-row-clause-text : goal.returns-then-last-row-clause-text
returns-then-last-row-clause-text g c = sym (no_text 0 c.args.row c.args.row c.args.texts.now.items (returns-then-last-row-clause-rising g c) (omega arith))

pub returns-clause-text : goal.returns-clause-text
returns-clause-text g c =
    let last = c.in-Some.last.now in
    let at = c.in-Some.ensures.item.1 ∙ ap (λ z. get_or z (length z - 1) last) c.deref.ensures.value in
    sym (last_there c.args.row c.args.texts.now.items c.take_last-text.new.self.items c.take_last-text.result last c.requires c.take_last-text.ensures.items at c.if-last-row.false).0

pub returns-clause-others : goal.returns-clause-others
returns-clause-others g c =
    let last = c.in-Some.last.now in
    let at = c.in-Some.ensures.item.1 ∙ ap (λ z. get_or z (length z - 1) last) c.deref.ensures.value in
    (last_there c.args.row c.args.texts.now.items c.take_last-text.new.self.items c.take_last-text.result last c.requires c.take_last-text.ensures.items at c.if-last-row.false).1

pub returns-clause-rising : goal.returns-clause-rising
returns-clause-rising g c =
    let last = c.in-Some.last.now in
    let at = c.in-Some.ensures.item.1 ∙ ap (λ z. get_or z (length z - 1) last) c.deref.ensures.value in
    (last_there c.args.row c.args.texts.now.items c.take_last-text.new.self.items c.take_last-text.result last c.requires c.take_last-text.ensures.items at c.if-last-row.false).2
