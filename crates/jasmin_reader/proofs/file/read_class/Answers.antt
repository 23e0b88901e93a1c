use Rattle.std.proofs.Common.{subst, Result}
use Rattle.jasmin_text.specs.declared.class_text.ClassParts.{ClassParts}
use Rattle.jasmin_reader.specs.declared.fault.ReadFault.{ReadFault}
use Rattle.jasmin_reader.specs.File.{Reads}
use Rattle.jasmin_reader.proofs.ClassRows.{spelled_is_read, found_is_spelled}
use Rattle.jasmin_reader.proofs.file.read_class.Goals as goal

pub returns-clause-found : goal.returns-clause-found
returns-clause-found c = found_is_spelled c.args.bytes.now c.read_lines-read.result c.read_lines-read.ensures

pub returns-clause-only : goal.returns-clause-only
returns-clause-only c = λ parts spelled.
    subst (λ (read : Result ClassParts ReadFault). Reads c.read_lines-read.result read) (spelled_is_read c.args.bytes.now parts spelled) c.read_lines-read.ensures
