use Rattle.std.proofs.Common.{rules}
use Rattle.trace_reader.proofs.LineNumbers.{digit_word}
use Rattle.trace_reader.proofs.numbers.number.Goals as goal

pub returns-in-len1 : goal.returns-in-len1
returns-in-len1 c = digit_word c.args.word.now c.in-len1.len_at_least c.in-len1.len_below (search rules)
