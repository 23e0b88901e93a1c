use Rattle.std.proofs.Common.{arith}
use Rattle.std.proofs.lemmas.Grind.{common_steps}
use Rattle.jasmin_reader.specs.Heads.{named_from}
use Rattle.jasmin_reader.proofs.head.read_name.Goals as goal

pub returns-in_err-name : goal.returns-in_err-name
unfolding named_from
returns-in_err-name c = grind (arith, common_steps)

pub returns-then-not-name_follows : goal.returns-then-not-name_follows
unfolding named_from
returns-then-not-name_follows c = grind (arith, common_steps)

pub returns-in_err-words : goal.returns-in_err-words
unfolding named_from
returns-in_err-words c = grind (arith, common_steps)

pub returns-in_err-within : goal.returns-in_err-within
unfolding named_from
returns-in_err-within c = grind (arith, common_steps)

pub loop-rest-preserved : goal.loop-rest-preserved
unfolding named_from
loop-rest-preserved c = grind (arith, common_steps)

pub returns : goal.returns
unfolding named_from
returns c = grind (arith, common_steps)
