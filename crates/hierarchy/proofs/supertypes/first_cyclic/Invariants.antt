use Rattle.hierarchy.proofs.Acyclic.{AreClear}
use Rattle.hierarchy.proofs.supertypes.first_cyclic.Given as goal

abbrev pub invariant-loop-number : goal.invariant-loop-number
invariant-loop-number l = AreClear l.fn.classes l.number
