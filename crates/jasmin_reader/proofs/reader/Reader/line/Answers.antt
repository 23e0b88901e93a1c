use Rattle.std.proofs.Common.{arith}
use Rattle.std.proofs.lemmas.Grind.{common_steps}
use Rattle.jasmin_reader.specs.Reading.{line_at}
use Rattle.jasmin_reader.proofs.reader.Reader.line.Goals as goal

pub returns-in_err-word-in-len1-up : goal.returns-in_err-word-in-len1-up
unfolding line_at
returns-in_err-word-in-len1-up c = grind (arith, common_steps)

pub returns-then-begins : goal.returns-then-begins
unfolding line_at
returns-then-begins c = grind (arith, common_steps)

pub returns-in-Some : goal.returns-in-Some
unfolding line_at
returns-in-Some c = grind (arith, common_steps)

pub returns-else-begins : goal.returns-else-begins
unfolding line_at
returns-else-begins c = grind (arith, common_steps)
