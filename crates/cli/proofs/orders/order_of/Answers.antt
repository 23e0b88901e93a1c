use Rattle.std.proofs.Common.{rules}
use Rattle.cli.specs.Orders.{no_memory, no_order}
use Rattle.cli.proofs.orders.order_of.Goals as goal

pub returns-in_default-mains-clause-refused : goal.returns-in_default-mains-clause-refused
returns-in_default-mains-clause-refused c = no_order (search rules)

pub returns-in_err-numbers-clause-refused : goal.returns-in_err-numbers-clause-refused
returns-in_err-numbers-clause-refused c = search (rules, no_memory)

pub returns-in-None-clause-refused : goal.returns-in-None-clause-refused
returns-in-None-clause-refused c = no_order (search rules)
