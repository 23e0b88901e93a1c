use Rattle.std.proofs.Common.{take}
use Rattle.hierarchy.proofs.CellTables.{HasCellsOf}
use Rattle.hierarchy.proofs.object_cells.all_object_cells.Given as goal

abbrev pub invariant-loop-id : goal.invariant-loop-id
invariant-loop-id l = HasCellsOf l.classes (take l.id-index l.order) l.all.items
