use Rattle.std.proofs.Common.{◌≡◌, map, length}
use Rattle.hierarchy.specs.MemberOrder.{type_numbers, key_cmp}
use Rattle.hierarchy.proofs.member_order.compare_parameters.Given as goal

abbrev pub invariant-loop-rest : goal.invariant-loop-rest
invariant-loop-rest l = key_cmp (map type_numbers l.rest) (map type_numbers l.other_rest) ≡ key_cmp (map type_numbers l.parameters) (map type_numbers l.others)

abbrev pub decreases-loop-rest : goal.decreases-loop-rest
decreases-loop-rest l = length l.rest
