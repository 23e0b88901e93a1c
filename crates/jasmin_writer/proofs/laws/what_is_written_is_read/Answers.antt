use Rattle.jasmin_writer.specs.Canonical.{canonical_text}
use Rattle.jasmin_writer.proofs.Classes.{spelled_again}
use Rattle.jasmin_reader.proofs.ClassRows.{spelled_is_read}
use Rattle.jasmin_writer.proofs.laws.what_is_written_is_read.Goals as goal

pub returns : goal.returns
returns c = λ parts h. spelled_is_read (canonical_text parts) parts (spelled_again parts h)
