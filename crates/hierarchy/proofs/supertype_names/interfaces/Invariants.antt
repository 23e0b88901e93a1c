use Rattle.std.proofs.Common.{◌≡◌, length}
use Rattle.hierarchy.specs.Supertypes.{interface_ids}
use Rattle.hierarchy.proofs.Resolved.{after_these}
use Rattle.hierarchy.proofs.supertype_names.interfaces.Given as goal

abbrev pub invariant-loop-rest : goal.invariant-loop-rest
invariant-loop-rest l = after_these l.found (interface_ids l.names l.kinds l.rest) ≡ interface_ids l.names l.kinds l.wanted

abbrev pub decreases-loop-rest : goal.decreases-loop-rest
decreases-loop-rest l = length l.rest
