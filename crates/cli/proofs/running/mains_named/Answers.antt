use Rattle.std.proofs.Common.{arith}
use Rattle.std.proofs.lemmas.Grind.{common_steps}
use Rattle.cli.proofs.running.mains_named.Goals as goal

pub loop-rest-preserved-in_ok-push : goal.loop-rest-preserved-in_ok-push
loop-rest-preserved-in_ok-push c = grind (arith, common_steps)

pub loop-rest-preserved : goal.loop-rest-preserved
loop-rest-preserved c = grind (arith, common_steps)

pub returns-in_default-main_named-clause-named : goal.returns-in_default-main_named-clause-named
returns-in_default-main_named-clause-named c = grind (arith, common_steps)

pub returns-in_default-main_named-2-clause-named : goal.returns-in_default-main_named-2-clause-named
returns-in_default-main_named-2-clause-named c = grind (arith, common_steps)

pub returns-then-len-gt16-clause-named : goal.returns-then-len-gt16-clause-named
returns-then-len-gt16-clause-named c = grind (arith, common_steps)

pub returns-clause-named : goal.returns-clause-named
returns-clause-named c = grind (arith, common_steps)
