use Rattle.std.proofs.Common.{length}
use Rattle.hierarchy.specs.Ancestry.{superclasses}
use Rattle.hierarchy.proofs.field_order.+add_superclasses.Given as goal

abbrev pub decreases-add_superclasses : goal.decreases-add_superclasses
decreases-add_superclasses l = length (superclasses l.classes.now l.id)
