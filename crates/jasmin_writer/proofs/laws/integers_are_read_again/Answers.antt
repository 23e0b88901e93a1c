use Rattle.jasmin_words.proofs.Numbers.{written_again}
use Rattle.jasmin_writer.proofs.laws.integers_are_read_again.Goals as goal

pub returns : goal.returns
returns c = written_again
