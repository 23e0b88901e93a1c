use Rattle.std.proofs.Common.{sym}
use Rattle.hierarchy.proofs.Enumerations.{among_supers}
use Rattle.hierarchy.proofs.FinishedLists.{finished_from}
use Rattle.hierarchy.proofs.Walks.{interface_there}
use Rattle.hierarchy.proofs.order.superinterfaces.Goals as goal

pub add_enumeration-requires-clause-finished : goal.add_enumeration-requires-clause-finished
add_enumeration-requires-clause-finished c =
    finished_from c.requires.finished (among_supers c.args.classes.now c.args.id _ (interface_there c.args.classes.now c.args.id _ c.loop-interface.interface-index (sym c.interfaces-interface-items.ensures) c.loop-interface-test.true))
