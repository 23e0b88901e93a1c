use Rattle.std.proofs.Common.{refl}
use Rattle.hierarchy.specs.Objects.{field_cell}
use Rattle.hierarchy.proofs.ObjectCells.{cells_above_first, cell_found}
use Rattle.hierarchy.proofs.laws.fields_keep_their_cells.Goals as goal

pub returns-clause-order : goal.returns-clause-order
returns-clause-order c = cells_above_first c.args.program.now c.is_linked.ensures.acyclic c.args.id

pub returns-clause-cells : goal.returns-clause-cells
returns-clause-cells c place = cell_found c.args.program.now c.is_linked.ensures.acyclic c.args.id place (field_cell c.args.program.now c.args.id place) refl
