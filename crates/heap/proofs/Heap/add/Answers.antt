use Rattle.std.proofs.Common.{arith}
use Rattle.heap.proofs.Taken.{made_within, taken_with}
use Rattle.heap.proofs.Heap.add.Goals as goal

pub overflow_cast-reference : goal.overflow_cast-reference
overflow_cast-reference c = grind (arith, made_within, taken_with)

pub invariant_of-self-2 : goal.invariant_of-self-2
invariant_of-self-2 c = grind (arith, made_within, taken_with)
