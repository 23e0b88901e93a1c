use Rattle.std.proofs.Common.{◌≡◌, length}
use Rattle.jasmin_text.specs.Tables.{rows}
use Rattle.jasmin_writer.specs.CanonicalWords.{first_word}
use Rattle.jasmin_writer.proofs.word.first_word.Given as goal

abbrev pub invariant-loop-rest : goal.invariant-loop-rest
invariant-loop-rest l = first_word l.form (rows l.rest) l.otherwise ≡ first_word l.form (rows l.table) l.otherwise

abbrev pub decreases-loop-rest : goal.decreases-loop-rest
decreases-loop-rest l = length l.rest
