use Rattle.std.proofs.Common.{◌≡◌, length}
use Rattle.jasmin_text.specs.Tables.{find_row, rows}
use Rattle.jasmin_text.proofs.table.find.Given as goal

abbrev pub invariant-loop-rest : goal.invariant-loop-rest
invariant-loop-rest g l = find_row l.word (rows l.rest) ≡ find_row l.word (rows l.table)

abbrev pub decreases-loop-rest : goal.decreases-loop-rest
decreases-loop-rest g l = length l.rest
