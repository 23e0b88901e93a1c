use Rattle.std.proofs.Common.{arith}
use Rattle.std.proofs.lemmas.Grind.{common_steps}
use Rattle.jasmin_reader.specs.Bodies.{each}
use Rattle.jasmin_reader.proofs.Gathered.{gathering}
use Rattle.jasmin_reader.proofs.closing.all_with_places.Goals as goal

pub loop-item-preserved : goal.loop-item-preserved
unfolding each
loop-item-preserved g c = grind (arith, common_steps, gathering)

pub returns : goal.returns
unfolding each
returns g c = grind (arith, common_steps, gathering)
