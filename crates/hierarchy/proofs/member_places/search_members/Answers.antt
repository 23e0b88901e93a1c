use Rattle.std.proofs.Common.{◌∙◌, List, refl, sym, ap, subst}
use Rattle.std.specs.List.{list_any}
use Rattle.std.proofs.lemmas.List.{take_all}
use Rattle.std.proofs.lemmas.Option.{slice_get_read}
use Rattle.hierarchy.specs.declared.class.Class.{Class}
use Rattle.hierarchy.specs.Members.{repeats_member}
use Rattle.hierarchy.specs.MemberPlaces.{HavePlaces}
use Rattle.hierarchy.proofs.Positions.{first_place, position_by_steps, none_at}
use Rattle.hierarchy.proofs.PlaceTables.{have_more, none_more}
use Rattle.hierarchy.proofs.member_places.search_members.Goals as goal

pub returns-in_default : goal.returns-in_default
returns-in_default c =
    let class = c.index-classes-place.result in
    position_by_steps repeats_member c.args.classes.now ∙
    first_place repeats_member c.args.classes.now c.loop-place.place class (slice_get_read c.args.classes.now _ c.loop-place.place class refl c.loop-place-test.true c.index-classes-place.is) (rw c.in_default.is at c.in_ok-places.ensures) c.loop-place.invariant.none

pub loop-place-preserved : goal.loop-place-preserved
loop-place-preserved c =
    let class = c.index-classes-place.result in
    let found = rw c.in-Some.is at c.in_ok-places.ensures in
    record {
      places = rw c.in_ok-push.ensures.items (have_more c.args.classes.now c.loop-place.all.items c.loop-place.place class c.in-Some.places (slice_get_read c.args.classes.now _ c.loop-place.place class refl c.loop-place-test.true c.index-classes-place.is) c.loop-place.invariant.places found.0);
      none = none_more c.args.classes.now c.loop-place.place class (slice_get_read c.args.classes.now _ c.loop-place.place class refl c.loop-place-test.true c.index-classes-place.is) c.loop-place.invariant.none found.1;
    }

pub returns : goal.returns
returns c =
    let all = take_all c.loop-place.place c.args.classes.now c.loop-place-test.false in (
      subst (λ (xs : List Class). HavePlaces xs c.loop-place.all.items) all c.loop-place.invariant.places,
      position_by_steps repeats_member c.args.classes.now ∙ none_at repeats_member 0 c.args.classes.now (ap (list_any repeats_member) (sym all) ∙ c.loop-place.invariant.none),
    )
