use Rattle.std.proofs.Common.{rules, arith}
use Rattle.heap.proofs.Made.{made_beyond, none_below}
use Rattle.heap.proofs.Heap.made_at.Goals as goal

pub returns-then-reference-ready : goal.returns-then-reference-ready
returns-then-reference-ready c = none_below c.args.program.now c.args.self.now c.args.reference c.ready_count-ready.result c.ready_count-ready.ensures.count (search (rules, arith))

pub returns : goal.returns
returns c = made_beyond c.args.program.now c.args.self.now c.args.reference c.ready_count-ready.result _ c.ready_count-ready.ensures.count (search (rules, arith)) (search rules)
