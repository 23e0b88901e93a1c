use Rattle.hierarchy.proofs.Searches.{Searches}
use Rattle.hierarchy.proofs.supertypes.supertypes.Given as goal

abbrev pub invariant-loop-place : goal.invariant-loop-place
invariant-loop-place l = Searches l.fn.classes l.fn.id l.found l.place
