use Rattle.std.proofs.Common.{◌≡◌, length, nat_lt}
use Rattle.std.specs.List.{list_all}
use Rattle.cli.specs.Orders.{is_of_threads, numbers_of}
use Rattle.cli.proofs.orders.fits.Given as goal

abbrev pub invariant-loop-rest : goal.invariant-loop-rest
invariant-loop-rest l = is_of_threads l.threads (numbers_of l.fn.order) ≡ list_all (λ t. nat_lt t l.threads) l.rest

abbrev pub decreases-loop-rest : goal.decreases-loop-rest
decreases-loop-rest l = length l.rest
