use Rattle.jasmin_writer.proofs.Classes.{lines_again, spelled_again}
use Rattle.jasmin_writer.proofs.laws.canonical_texts_are_spelled.Goals as goal

pub returns-clause-spells : goal.returns-clause-spells
returns-clause-spells c = spelled_again

pub returns-clause-lines : goal.returns-clause-lines
returns-clause-lines c = lines_again
