use Rattle.jasmin_reader.proofs.ClassRows.{spelled_is_read}
use Rattle.jasmin_reader.proofs.laws.what_is_spelled_is_read.Goals as goal

pub returns : goal.returns
returns c = spelled_is_read
