use Rattle.jasmin_reader.proofs.ClassRows.{read_is_spelled}
use Rattle.jasmin_reader.proofs.laws.what_is_read_is_spelled.Goals as goal

pub returns : goal.returns
returns c = read_is_spelled
