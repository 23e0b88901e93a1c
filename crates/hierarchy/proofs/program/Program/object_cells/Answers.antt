use Rattle.std.proofs.Common.{arith}
use Rattle.hierarchy.proofs.ObjectCells.{few_cells}
use Rattle.hierarchy.proofs.program.Program.object_cells.Goals as goal

pub returns-clause-within : goal.returns-clause-within
returns-clause-within c = omega (arith, c.kept_cells.ensures, few_cells c.args.self.now c.is_linked.ensures.linked c.args.id)
