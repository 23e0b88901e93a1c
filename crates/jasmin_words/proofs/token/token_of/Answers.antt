use Rattle.std.proofs.Common.{arith}
use Rattle.std.proofs.lemmas.Grind.{common_steps}
use Rattle.jasmin_words.specs.Lexing.{token_at}
use Rattle.jasmin_words.proofs.token.token_of.Goals as goal

pub returns-in-59 : goal.returns-in-59
unfolding token_at
returns-in-59 c = grind (arith, common_steps)

pub returns-in-61 : goal.returns-in-61
unfolding token_at
returns-in-61 c = grind (arith, common_steps)

pub returns-in-58 : goal.returns-in-58
unfolding token_at
returns-in-58 c = grind (arith, common_steps)

pub returns-in_ok-string_of-in-34 : goal.returns-in_ok-string_of-in-34
unfolding token_at
returns-in_ok-string_of-in-34 c = grind (arith, common_steps)

pub returns-in_default-rest : goal.returns-in_default-rest
unfolding token_at
returns-in_default-rest c = grind (arith, common_steps)

pub loop-rest-preserved : goal.loop-rest-preserved
unfolding token_at
loop-rest-preserved c = grind (arith, common_steps)
