use Rattle.hierarchy.specs.BuiltIn.{number_of}
use Rattle.hierarchy.proofs.subtype.+is_built_in_below.Given as goal

abbrev pub decreases-is_built_in_below : goal.decreases-is_built_in_below
decreases-is_built_in_below l = number_of l.class
