use Rattle.std.proofs.Common.{◌≡◌}
use Rattle.std.specs.Vec.Iter.{into_iter_items}
use Rattle.jasmin_reader.specs.Bodies.{each}
use Rattle.jasmin_reader.proofs.Gathered.{behind}
use Rattle.jasmin_reader.proofs.closing.all_with_places.Given as goal

abbrev pub invariant-loop-item : goal.invariant-loop-item
invariant-loop-item g l = behind l.all (each (g.T.HasLabels.placed l.labels) (into_iter_items l.item-iterator)) ≡ each (g.T.HasLabels.placed l.labels) l.fn.items.items
