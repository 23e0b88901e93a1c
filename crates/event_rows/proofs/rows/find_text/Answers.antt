use Rattle.std.proofs.Common.{ltb, sym, ap, ◌∙◌, arith, rules}
use Rattle.std.proofs.lemmas.Fn.{always_returns_same}
use Rattle.std.proofs.lemmas.List.{get_or_read}
use Rattle.event_rows.proofs.Texts.{partitioned, found, not_found}
use Rattle.event_rows.proofs.rows.find_text.Goals as goal

pub returns-in_default : goal.returns-in_default
returns-in_default g c =
    let row = c.args.row in
    let texts = c.args.texts.now in
    let point = c.partition_point-at.ensures.partitioned (λ t. ltb t.row row) (always_returns_same _ _ _ (λ a r f h. search rules)) (partitioned 0 _ row texts c.requires.1) in
    let past = c.in_default.ensures.lookup.3 in
    sym (not_found 0 _ row texts c.partition_point-at.result c.requires.1 point.0 point.1 (λ d inside. absurd (omega arith)))

pub returns-then-found-row : goal.returns-then-found-row
returns-then-found-row g c =
    let row = c.args.row in
    let texts = c.args.texts.now in
    let point = c.partition_point-at.ensures.partitioned (λ t. ltb t.row row) (always_returns_same _ _ _ (λ a r f h. search rules)) (partitioned 0 _ row texts c.requires.1) in
    let read = c.in-Some.ensures.lookup.1 in
    let other = c.if-found-row.true in
    sym (not_found 0 _ row texts c.partition_point-at.result c.requires.1 point.0 point.1
    (λ d inside e. other (ap (λ z. z.row) (get_or_read texts c.partition_point-at.result c.in-Some.found.now inside read d) ∙ e)))

pub returns : goal.returns
returns g c = sym (found 0 _ c.args.row c.args.texts.now c.partition_point-at.result c.in-Some.found.now c.requires.1 c.in-Some.ensures.lookup.3.0 c.in-Some.ensures.lookup.1 c.if-found-row.false)
