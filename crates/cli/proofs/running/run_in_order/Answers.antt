use Rattle.std.proofs.Common.{◌≡◌, ◌<◌, arith, length, subst}
use Rattle.std.specs.List.{AllByRecursion}
use Rattle.std.proofs.lemmas.Grind.{common_steps}
use Rattle.cli.proofs.running.run_in_order.Goals as goal

pub run_alone-requires-clause-order : goal.run_alone-requires-clause-order
run_alone-requires-clause-order c =
    let one : length c.args.mains.now ≡ 1 = omega arith in
    subst (λ n. AllByRecursion (λ t. t < n) c.args.order.now) one c.requires.order

pub returns-in-len1-clause-ran : goal.returns-in-len1-clause-ran
returns-in-len1-clause-ran c = grind (arith, common_steps)

pub returns-clause-ran : goal.returns-clause-ran
returns-clause-ran c = grind (arith, common_steps)
