use Rattle.std.proofs.Common.{arith}
use Rattle.std.proofs.lemmas.Grind.{common_steps}
use Rattle.jasmin_reader.specs.Bodies.{closed}
use Rattle.jasmin_reader.proofs.body.Body.code.Goals as goal

pub returns-clause-gives : goal.returns-clause-gives
unfolding closed
returns-clause-gives c = grind (arith, common_steps)
