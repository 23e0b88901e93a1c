use Rattle.std.proofs.Common.{rules, refl}
use Rattle.std.proofs.lemmas.Result.{err_from_is_err_and}
use Rattle.descriptors.specs.Reading.{parameters_at}
use Rattle.descriptors.proofs.Parameters.{begins, goes_on, is_done, is_full, is_unfinished, fails}
use Rattle.descriptors.proofs.reading.parameters_of.Goals as goal

pub loop-rest-init : goal.loop-rest-init
loop-rest-init c = rw c.new-parameters.ensures (begins (parameters_at 255 c.args.bytes.now) c.args.bytes.now refl)

pub returns-then-first-eq41-clause-read : goal.returns-then-first-eq41-clause-read
returns-then-first-eq41-clause-read c = is_done c.loop-rest.parameters c.loop-rest.rest.now (parameters_at 255 c.args.bytes.now) c.in-len1-up.len_at_least c.if-first-eq41.true c.loop-rest.invariant

pub returns-in_err-parameter-clause-read : goal.returns-in_err-parameter-clause-read
returns-in_err-parameter-clause-read c =
    let p = err_from_is_err_and c.from_residual.result c.from_residual.ensures.1 in
    rw (p.1, p.2) (fails c.loop-rest.parameters c.loop-rest.rest.now c.in_err-parameter.field-0.0 (parameters_at 255 c.args.bytes.now) c.in-len1-up.len_at_least c.if-first-eq41.false c.in_err-parameter.ensures c.loop-rest.invariant)

pub returns-then-len-eq255-clause-read : goal.returns-then-len-eq255-clause-read
returns-then-len-eq255-clause-read c =
    is_full c.loop-rest.parameters c.loop-rest.rest.now c.in_ok-parameter.parameter c.in_ok-parameter.behind.now (parameters_at 255 c.args.bytes.now) c.in-len1-up.len_at_least c.if-first-eq41.false c.in_ok-parameter.ensures (search rules) c.loop-rest.invariant

pub loop-rest-preserved : goal.loop-rest-preserved
loop-rest-preserved c =
    rw c.in_ok-push.ensures.ok (goes_on c.loop-rest.parameters c.loop-rest.rest.now c.in_ok-parameter.parameter c.in_ok-parameter.behind.now (parameters_at 255 c.args.bytes.now) c.in-len1-up.len_at_least c.if-first-eq41.false c.in_ok-parameter.ensures (search rules) c.loop-rest.invariant)

pub returns-clause-read : goal.returns-clause-read
returns-clause-read c = is_unfinished c.loop-rest.parameters c.loop-rest.rest.now (parameters_at 255 c.args.bytes.now) c.in_default.len_below c.loop-rest.invariant
