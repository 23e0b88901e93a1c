use Rattle.std.proofs.Common.{arith}
use Rattle.std.proofs.lemmas.Grind.{common_steps}
use Rattle.jasmin_words.specs.Escapes.{low_at}
use Rattle.jasmin_words.proofs.escape.low_of.Goals as goal

pub returns-in_err-low-in-92 : goal.returns-in_err-low-in-92
unfolding low_at
returns-in_err-low-in-92 c = grind (arith, common_steps)

pub returns-then-not-is_low : goal.returns-then-not-is_low
unfolding low_at
returns-then-not-is_low c = grind (arith, common_steps)

pub returns-in-Some : goal.returns-in-Some
unfolding low_at
returns-in-Some c = grind (arith, common_steps)

pub returns-in-len1-up : goal.returns-in-len1-up
unfolding low_at
returns-in-len1-up c = grind (arith, common_steps)

pub returns-in-empty : goal.returns-in-empty
unfolding low_at
returns-in-empty c = grind (arith, common_steps)

pub overflow_sub-high : goal.overflow_sub-high
overflow_sub-high c = omega arith

pub overflow_mul-high : goal.overflow_mul-high
overflow_mul-high c = omega arith

pub overflow_add-high : goal.overflow_add-high
overflow_add-high c = omega arith

pub overflow_sub-low : goal.overflow_sub-low
overflow_sub-low c = grind (arith, common_steps)

pub overflow_add-high-in-92 : goal.overflow_add-high-in-92
overflow_add-high-in-92 c = grind (arith, common_steps)
