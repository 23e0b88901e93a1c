use Rattle.std.proofs.Common.{arith}
use Rattle.std.proofs.lemmas.Grind.{common_steps}
use Rattle.guest_threads.proofs.report.separated.Goals as goal

pub loop-worked-preserved : goal.loop-worked-preserved
loop-worked-preserved c = grind (arith, common_steps)

pub returns-clause-passes : goal.returns-clause-passes
returns-clause-passes c = grind (arith, common_steps)

pub returns-clause-outcomes : goal.returns-clause-outcomes
returns-clause-outcomes c = grind (arith, common_steps)
