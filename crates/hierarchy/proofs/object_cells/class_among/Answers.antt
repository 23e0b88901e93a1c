use Rattle.hierarchy.proofs.Gotten.{gotten}
use Rattle.hierarchy.proofs.object_cells.class_among.Goals as goal

pub returns : goal.returns
returns c = gotten c.args.classes.now c.args.id.number c.get.result c.get.ensures.lookup.1 c.get.ensures.lookup.3
