use Rattle.std.proofs.Common.{◌≡◌, [], length}
use Rattle.cli.specs.Orders.{numbers_from}
use Rattle.cli.proofs.OrderText.{before_further}
use Rattle.cli.proofs.orders.numbers_between.Given as goal

abbrev pub invariant-loop-rest : goal.invariant-loop-rest
invariant-loop-rest l = numbers_from l.most [] l.text ≡ before_further l.numbers.items (numbers_from l.most l.entry.items l.rest)

abbrev pub decreases-loop-rest : goal.decreases-loop-rest
decreases-loop-rest l = length l.rest
