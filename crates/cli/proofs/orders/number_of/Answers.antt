use Rattle.std.proofs.Common.{arith}
use Rattle.std.proofs.lemmas.Grind.{common_steps}
use Rattle.cli.proofs.OrderText.{begins, next_digit, one_digit}
use Rattle.cli.proofs.orders.number_of.Goals as goal

pub loop-rest-init : goal.loop-rest-init
loop-rest-init c = grind (arith, begins)

pub loop-rest-preserved : goal.loop-rest-preserved
loop-rest-preserved c = (next_digit c.args.most c.loop-rest.number c.in-Some.next c.args.digits.now c.loop-rest.rest.now c.in-len1-up.len_at_least c.loop-rest.invariant.0 c.in-Some.ensures, grind (arith, common_steps))

pub returns-in-None : goal.returns-in-None
returns-in-None c = grind (arith, one_digit)
