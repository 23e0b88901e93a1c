use Rattle.std.proofs.Common.{refl, arith}
use Rattle.std.proofs.lemmas.Grind.{common_steps}
use Rattle.frames.proofs.moves.dup2.Goals as goal

pub returns-clause-decided : goal.returns-clause-decided
returns-clause-decided c = record { row = grind (arith, common_steps); kept = λ n. absurd (n refl); near = omega arith }
