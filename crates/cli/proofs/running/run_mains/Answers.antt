use Rattle.std.proofs.Common.{rules, length}
use Rattle.cli.proofs.OrderText.{are_threads}
use Rattle.cli.proofs.running.run_mains.Goals as goal

pub run_in_order-requires-clause-order : goal.run_in_order-requires-clause-order
run_in_order-requires-clause-order g c = are_threads (length c.args.mains.now) c.in-Some.order.now (search rules)
