use Rattle.std.proofs.Common.{arith}
use Rattle.std.proofs.lemmas.Grind.{common_steps}
use Rattle.cli.proofs.orders.commas.Goals as goal

pub loop-rest-preserved-then-byte-eq44 : goal.loop-rest-preserved-then-byte-eq44
loop-rest-preserved-then-byte-eq44 c = grind (arith, common_steps)

pub loop-rest-preserved : goal.loop-rest-preserved
loop-rest-preserved c = grind (arith, common_steps)
