use Rattle.std.proofs.Common.{arith}
use Rattle.std.proofs.lemmas.Grind.{common_steps}
use Rattle.heap.proofs.Heap.new_object.Goals as goal

pub returns-then-not-has_cells-clause-reference : goal.returns-then-not-has_cells-clause-reference
returns-then-not-has_cells-clause-reference c = grind (arith, common_steps)

pub returns-then-not-has_cells-clause-made : goal.returns-then-not-has_cells-clause-made
returns-then-not-has_cells-clause-made c = grind (arith, common_steps)

pub add-requires-clause-count : goal.add-requires-clause-count
add-requires-clause-count c = grind (arith, common_steps)

pub returns-clause-reference : goal.returns-clause-reference
returns-clause-reference c = grind (arith, common_steps)

pub returns-clause-made : goal.returns-clause-made
returns-clause-made c = grind (arith, common_steps)
