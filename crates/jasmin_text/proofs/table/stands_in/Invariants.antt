use Rattle.std.proofs.Common.{◌≡◌, length, map}
use Rattle.jasmin_text.specs.Tables.{stands_in}
use Rattle.jasmin_text.proofs.table.stands_in.Given as goal

abbrev pub invariant-loop-rest : goal.invariant-loop-rest
invariant-loop-rest l = stands_in l.word (map (λ w. w.now) l.rest) ≡ stands_in l.word (map (λ w. w.now) l.words)

abbrev pub decreases-loop-rest : goal.decreases-loop-rest
decreases-loop-rest l = length l.rest
