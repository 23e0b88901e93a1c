use Rattle.std.proofs.Common.{rules}
use Rattle.std.proofs.lemmas.Result.{err_from_is_err_and}
use Rattle.jasmin_words.specs.Escapes.{unescaped}
use Rattle.jasmin_words.proofs.Parts.{part_at-shrinks, goes_on, is_done, fails}
use Rattle.jasmin_words.proofs.escape.unescape.Goals as goal

pub returns-in_err-part : goal.returns-in_err-part
returns-in_err-part c =
    let p = err_from_is_err_and c.from_residual.result c.from_residual.ensures.1 in
    rw (p.1, p.2) (fails c.loop-rest.text.items c.loop-rest.rest.now c.in_err-part.field-0.0 (unescaped c.args.bytes.now) c.is_empty.result c.is_empty.ensures c.loop-rest-test.true c.in_err-part.ensures c.loop-rest.invariant)

pub loop-rest-smaller : goal.loop-rest-smaller
loop-rest-smaller c = part_at-shrinks c.loop-rest.rest.now c.in_ok-part.part c.in_ok-part.after.now (search rules)

pub loop-rest-preserved : goal.loop-rest-preserved
loop-rest-preserved c = rw c.in_ok-push_part.ensures (goes_on c.loop-rest.text.items c.loop-rest.rest.now c.in_ok-part.after.now c.in_ok-part.part (unescaped c.args.bytes.now) (search rules) c.loop-rest.invariant)

pub returns : goal.returns
returns c = is_done c.loop-rest.text.items c.loop-rest.rest.now (unescaped c.args.bytes.now) c.is_empty.result c.is_empty.ensures c.loop-rest-test.false c.loop-rest.invariant
