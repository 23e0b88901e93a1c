use Rattle.std.proofs.Common.{◌≡◌, ℕ, List, [], ◌∷◌, ◌++◌, sym, ap, ◌∙◌, arith}
use Rattle.hierarchy.specs.MemberPlaces.{places_below}
use Rattle.hierarchy.proofs.MemberPlaces.{next_places}
use Rattle.hierarchy.proofs.member_places.all_places.Goals as goal

pub loop-place-preserved : goal.loop-place-preserved
loop-place-preserved c = c.in_ok-push.ensures.items ∙ ap (λ (places : List ℕ). places ++ c.loop-place.place ∷ []) c.loop-place.invariant ∙ sym (next_places c.loop-place.place)

pub returns : goal.returns
returns c =
    let all : c.loop-place.place ≡ c.args.count = omega (arith, c.loop-place-test.false, c.loop-place.auto.place-end) in
    c.loop-place.invariant ∙ ap places_below all
