use Rattle.std.proofs.Common.{arith}
use Rattle.std.proofs.lemmas.Grind.{common_steps}
use Rattle.jasmin_words.specs.Escapes.{escape_at}
use Rattle.jasmin_words.proofs.escape.escape_of.Goals as goal

pub returns-in-117 : goal.returns-in-117
unfolding escape_at
returns-in-117 c = grind (arith, common_steps)

pub returns-in-110 : goal.returns-in-110
unfolding escape_at
returns-in-110 c = grind (arith, common_steps)

pub returns-in-116 : goal.returns-in-116
unfolding escape_at
returns-in-116 c = grind (arith, common_steps)

pub returns-in-114 : goal.returns-in-114
unfolding escape_at
returns-in-114 c = grind (arith, common_steps)

pub returns-in-98 : goal.returns-in-98
unfolding escape_at
returns-in-98 c = grind (arith, common_steps)

pub returns-in-102 : goal.returns-in-102
unfolding escape_at
returns-in-102 c = grind (arith, common_steps)

pub returns-in-34 : goal.returns-in-34
unfolding escape_at
returns-in-34 c = grind (arith, common_steps)

pub returns-in-39 : goal.returns-in-39
unfolding escape_at
returns-in-39 c = grind (arith, common_steps)

pub returns-in-92 : goal.returns-in-92
unfolding escape_at
returns-in-92 c = grind (arith, common_steps)

pub returns-in-len1-up : goal.returns-in-len1-up
unfolding escape_at
returns-in-len1-up c = grind (arith, common_steps)
