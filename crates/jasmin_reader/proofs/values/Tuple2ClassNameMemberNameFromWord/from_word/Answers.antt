use Rattle.std.proofs.Common.{arith}
use Rattle.std.proofs.lemmas.Grind.{common_steps}
use Rattle.jasmin_text.specs.MemberWords.{member_in}
use Rattle.jasmin_reader.proofs.values.Tuple2ClassNameMemberNameFromWord.from_word.Goals as goal

pub returns-in_default : goal.returns-in_default
unfolding member_in
returns-in_default c = grind (arith, common_steps)

pub returns-in_err-class : goal.returns-in_err-class
unfolding member_in
returns-in_err-class c = grind (arith, common_steps)

pub returns-in_err-name : goal.returns-in_err-name
unfolding member_in
returns-in_err-name c = grind (arith, common_steps)

pub returns : goal.returns
unfolding member_in
returns c = grind (arith, common_steps)
