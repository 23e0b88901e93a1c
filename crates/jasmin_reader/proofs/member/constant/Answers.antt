use Rattle.std.proofs.Common.{arith}
use Rattle.std.proofs.lemmas.Grind.{common_steps}
use Rattle.jasmin_reader.specs.Heads.{constant_for}
use Rattle.jasmin_reader.proofs.member.constant.Goals as goal

pub returns-then-takes_int : goal.returns-then-takes_int
unfolding constant_for
returns-then-takes_int c = grind (arith, common_steps)

pub returns-then-takes_string : goal.returns-then-takes_string
unfolding constant_for
returns-then-takes_string c = grind (arith, common_steps)

pub returns-in-empty : goal.returns-in-empty
unfolding constant_for
returns-in-empty c = grind (arith, common_steps)

pub returns-in-len1-up : goal.returns-in-len1-up
unfolding constant_for
returns-in-len1-up c = grind (arith, common_steps)
