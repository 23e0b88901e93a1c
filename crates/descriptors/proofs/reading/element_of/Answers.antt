use Rattle.std.proofs.Common.{arith}
use Rattle.std.proofs.lemmas.Grind.{common_steps}
use Rattle.descriptors.specs.Reading.{element_at}
use Rattle.descriptors.proofs.reading.element_of.Goals as goal

pub returns-in_err-name-in-76 : goal.returns-in_err-name-in-76
unfolding element_at
returns-in_err-name-in-76 c = grind (arith, common_steps)

pub returns-in_ok-name-in-76 : goal.returns-in_ok-name-in-76
unfolding element_at
returns-in_ok-name-in-76 c = grind (arith, common_steps)

pub returns-in-74 : goal.returns-in-74
unfolding element_at
returns-in-74 c = grind (arith, common_steps)

pub returns-in-Some : goal.returns-in-Some
unfolding element_at
returns-in-Some c = grind (arith, common_steps)

pub returns-in-None : goal.returns-in-None
unfolding element_at
returns-in-None c = grind (arith, common_steps)
