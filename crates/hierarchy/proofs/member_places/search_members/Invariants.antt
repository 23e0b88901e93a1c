use Rattle.std.proofs.Common.{◌≡◌, false, take}
use Rattle.std.specs.List.{list_any}
use Rattle.hierarchy.specs.Members.{repeats_member}
use Rattle.hierarchy.specs.MemberPlaces.{HavePlaces}
use Rattle.hierarchy.proofs.member_places.search_members.Given as goal

abbrev pub invariant-loop-place : goal.invariant-loop-place
invariant-loop-place l = record {
  places : HavePlaces (take l.place l.classes) l.all.items;
  none : list_any repeats_member (take l.place l.classes) ≡ false;
}
