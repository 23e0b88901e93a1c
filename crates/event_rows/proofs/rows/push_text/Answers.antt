use Rattle.std.proofs.Common.{◌+◌, sym, ap, ◌∙◌, subst, arith}
use Rattle.event_rows.specs.Rows.{text_at, AreRising}
use Rattle.event_rows.proofs.Texts.{text_there, text_before, rising_push, rising_more, no_text}
use Rattle.event_rows.proofs.rows.push_text.Goals as goal

pub returns-in-Some-clause-text : goal.returns-in-Some-clause-text
returns-in-Some-clause-text g c = ap (λ z. text_at z c.args.row) c.push_reserved.ensures.items ∙ text_there 0 c.args.texts.now.items _ c.requires.rising ∙ sym c.in-Some.is

pub returns-in-Some-clause-others : goal.returns-in-Some-clause-others
returns-in-Some-clause-others g c = λ other before. ap (λ z. text_at z other) c.push_reserved.ensures.items ∙ text_before c.args.texts.now.items _ other (λ e. omega arith)

pub returns-in-Some-clause-rising : goal.returns-in-Some-clause-rising
returns-in-Some-clause-rising g c = subst (λ z. AreRising 0 (c.args.row + 1) z) (sym c.push_reserved.ensures.items) (rising_push 0 c.args.texts.now.items _ c.requires.rising)

pub returns-in_default-clause-text : goal.returns-in_default-clause-text
returns-in_default-clause-text g c = no_text 0 c.args.row c.args.row c.args.texts.now.items c.requires.rising (omega arith) ∙ sym c.in_default.is

pub returns-in_default-clause-rising : goal.returns-in_default-clause-rising
returns-in_default-clause-rising g c = rising_more 0 c.args.row (c.args.row + 1) c.args.texts.now.items c.requires.rising (omega arith)
