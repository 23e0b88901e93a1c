use Rattle.std.proofs.Common.{◌≡◌, ℕ, ◌+◌, ◌∙◌, suc, ap, arith, length-set}
use Rattle.statics.proofs.Given.{first_given, given_next, all_given}
use Rattle.statics.proofs.bank.give_constants.Goals as goal

next_is : (n : ℕ) → suc n ≡ n + 1
next_is n = omega arith

pub loop-place-preserved : goal.loop-place-preserved
loop-place-preserved c =
    let fs = c.args.fields.now in
    let vs = c.args.values.now in
    record {
      count = length-set c.loop-place.values c.loop-place.place _ ∙ c.loop-place.invariant.count;
      values = rw (c.with_constant.ensures, c.loop-place.invariant.values) (given_next fs vs c.loop-place.place _ _ c.requires c.loop-place-test.true ∙ ap (λ n. first_given n fs vs) (next_is c.loop-place.place));
    }

pub returns : goal.returns
returns c = c.loop-place.invariant.values ∙ all_given c.args.fields.now c.args.values.now c.loop-place.place (omega (arith, c.loop-place-test.false, c.loop-place.auto.place-end)) c.requires
