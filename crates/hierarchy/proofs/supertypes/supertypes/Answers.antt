use Rattle.std.proofs.Common.{◌∙◌, sym}
use Rattle.hierarchy.proofs.Searches.{searches_none, searches_more, searches_all, searched_through, length-get_none}
use Rattle.hierarchy.proofs.supertypes.supertypes.Goals as goal
use Rattle.hierarchy.proofs.supertypes.supertypes.Goals.{else-loop-place-test, then-loop-place-test+in_default}

pub loop-place-init : goal.loop-place-init
loop-place-init c = searches_none c.args.classes.now c.args.id _ _ c.new-found.ensures c.in_ok-add_supers.ensures

pub loop-place-preserved : goal.loop-place-preserved
loop-place-preserved c =
    searches_more c.args.classes.now c.args.id c.loop-place.found _ c.loop-place.place c.in-Some.next c.loop-place.invariant
    (sym c.in-Some.is ∙ c.at.ensures) c.in_ok-add_supers-2.ensures

pub returns : goal.returns
returns c =
    searches_all c.args.classes.now c.args.id c.loop-place.found c.loop-place.place c.loop-place.invariant
    (elim c.loop-place-test.branch [
      | else-loop-place-test w ↦ searched_through c.args.classes.now c.args.id c.loop-place.found c.loop-place.place c.requires.in_range c.loop-place.invariant w.loop-place-test.false c.is_distinct.ensures
      | then-loop-place-test+in_default w ↦ length-get_none _ c.loop-place.place (sym w.in_default.is ∙ w.at.ensures)
    ])
    c.is_distinct.ensures
