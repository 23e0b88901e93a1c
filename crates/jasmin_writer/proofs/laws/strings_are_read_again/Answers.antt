use Rattle.std.proofs.Common.{[], ◌∷◌, append_assoc}
use Rattle.jasmin_words.specs.Quoting.{quoted_bytes}
use Rattle.jasmin_writer.proofs.Quoting.{quoted_again, quoted_spelled}
use Rattle.jasmin_writer.proofs.laws.strings_are_read_again.Goals as goal

pub returns-clause-alone : goal.returns-clause-alone
returns-clause-alone c = quoted_again

pub returns-clause-before : goal.returns-clause-before
returns-clause-before c fresh bytes rest words u f h = rw (append_assoc (quoted_bytes bytes) (34 ∷ []) rest) (quoted_spelled fresh bytes rest words u f h)
