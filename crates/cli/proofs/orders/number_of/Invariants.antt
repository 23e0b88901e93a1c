use Rattle.std.proofs.Common.{◌≡◌, ◌≤◌, length}
use Rattle.cli.specs.Orders.{number_up_to}
use Rattle.cli.proofs.OrderText.{goes_on}
use Rattle.cli.proofs.orders.number_of.Given as goal

abbrev pub invariant-loop-rest : goal.invariant-loop-rest
invariant-loop-rest l = (number_up_to l.most l.digits ≡ goes_on l.most l.number l.rest) × (l.number ≤ l.most)

abbrev pub decreases-loop-rest : goal.decreases-loop-rest
decreases-loop-rest l = length l.rest
