use Rattle.heap.proofs.Taken.{few_elements}
use Rattle.heap.proofs.Heap.length.Goals as goal

pub returns-clause-few : goal.returns-clause-few
returns-clause-few c = few_elements c.args.program.now c.args.self.now c.args.reference c.length_at.result c.is_within.ensures c.length_at.ensures
