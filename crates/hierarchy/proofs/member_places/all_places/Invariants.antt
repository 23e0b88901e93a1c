use Rattle.std.proofs.Common.{◌≡◌}
use Rattle.hierarchy.specs.MemberPlaces.{places_below}
use Rattle.hierarchy.proofs.member_places.all_places.Given as goal

abbrev pub invariant-loop-place : goal.invariant-loop-place
invariant-loop-place l = l.places.items ≡ places_below l.place
