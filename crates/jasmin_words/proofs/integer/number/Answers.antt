use Rattle.std.proofs.Common.{arith}
use Rattle.std.proofs.lemmas.Grind.{common_steps}
use Rattle.jasmin_words.proofs.integer.number.Goals as goal

pub returns-in-None : goal.returns-in-None
returns-in-None c = grind (arith, common_steps)

pub returns-then-next-ge4294967296 : goal.returns-then-next-ge4294967296
returns-then-next-ge4294967296 c = grind (arith, common_steps)

pub loop-rest-preserved : goal.loop-rest-preserved
loop-rest-preserved c = grind (arith, common_steps)

pub returns : goal.returns
returns c = grind (arith, common_steps)

pub overflow_cast-next : goal.overflow_cast-next
overflow_cast-next c = omega arith

pub overflow_cast-next-in-Some-2 : goal.overflow_cast-next-in-Some-2
overflow_cast-next-in-Some-2 c = omega arith

pub overflow_cast-value : goal.overflow_cast-value
overflow_cast-value c = omega arith

pub loop-rest-smaller : goal.loop-rest-smaller
loop-rest-smaller c = omega arith
