use Rattle.std.proofs.Common.{arith}
use Rattle.std.proofs.lemmas.Grind.{common_steps}
use Rattle.jasmin_reader.proofs.member.value_behind.Goals as goal

pub returns-in_err-value-in-Equals : goal.returns-in_err-value-in-Equals
returns-in_err-value-in-Equals c = grind (arith, common_steps)

pub returns-in-empty : goal.returns-in-empty
returns-in-empty c = grind (arith, common_steps)

pub returns-in_ok-value-in-Equals : goal.returns-in_ok-value-in-Equals
returns-in_ok-value-in-Equals c = grind (arith, common_steps)

pub returns-in_default : goal.returns-in_default
returns-in_default c = grind (arith, common_steps)
