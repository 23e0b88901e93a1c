use Rattle.std.proofs.Common.{◌≡◌, length}
use Rattle.statics.proofs.Given.{first_given}
use Rattle.statics.proofs.bank.give_constants.Given as goal

abbrev pub invariant-loop-place : goal.invariant-loop-place
invariant-loop-place l = record {
  count : length l.values ≡ length l.fields;
  values : l.values ≡ first_given l.place l.fields l.fn.values;
}
