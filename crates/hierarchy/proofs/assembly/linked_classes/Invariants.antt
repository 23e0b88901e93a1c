use Rattle.std.proofs.Common.{◌≡◌}
use Rattle.std.specs.Vec.Iter.{into_iter_items}
use Rattle.hierarchy.specs.Linking.{classes_from}
use Rattle.hierarchy.proofs.Resolved.{after_these}
use Rattle.hierarchy.proofs.assembly.linked_classes.Given as goal

abbrev pub invariant-loop-text : goal.invariant-loop-text
invariant-loop-text l = after_these l.classes.items (classes_from l.names l.kinds (into_iter_items l.text-iterator)) ≡ classes_from l.names l.kinds l.fn.texts.items
