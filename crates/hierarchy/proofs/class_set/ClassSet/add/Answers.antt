use Rattle.std.proofs.Common.{◌≡◌, ◌∷◌, [], ◌++◌, ◌∙◌, sym, ap, subst, false, arith}
use Rattle.std.proofs.lemmas.List.{map-append}
use Rattle.std.specs.List.{IsDistinct}
use Rattle.hierarchy.specs.ClassLists.{is_among, same_class}
use Rattle.hierarchy.specs.ClassNumbers.{ids}
use Rattle.hierarchy.specs.LinkedProgram.{id}
use Rattle.hierarchy.proofs.ClassSets.{added, distinct_pushed, marked_more}
use Rattle.hierarchy.proofs.class_set.ClassSet.add.Goals as goal

pub invariant_of-self-2 : goal.invariant_of-self-2
invariant_of-self-2 c =
    let numbers = c.self.inside.numbers.items in
    let all = ids numbers in
    let same : c.in-Ok.number ≡ c.args.id.number = omega (arith, c.in-Ok.ensures) in
    let pushed : ids c.push.new.self.items ≡ all ++ c.args.id ∷ [] =
    ap ids c.in_ok-push.ensures.items ∙ map-append id numbers (c.in-Ok.number ∷ []) ∙ ap (λ n. all ++ id n ∷ []) same in
    let absent : is_among c.args.id all ≡ false = ap (is_among c.args.id) c.self.view_is ∙ sym c.contains.ensures ∙ c.if-contains.false in
    record {
      once = subst (IsDistinct same_class) (sym pushed) (distinct_pushed all c.args.id c.self.invariant.once absent);
      marked = λ n. marked_more c.make_room.new.marks.items all c.args.id (λ m. c.in_ok-make_room.ensures.same m ∙ c.self.invariant.marked m) c.in_ok-make_room.ensures.room n ∙ ap (is_among (id n)) (sym pushed);
    }

pub returns-clause-added : goal.returns-clause-added
returns-clause-added c = added c.self.inside.numbers.items c.push.new.self.items c.in-Ok.number c.args.self.now c.args.id c.in_ok-push.ensures.items (omega (arith, c.in-Ok.ensures)) c.self.view_is (sym c.contains.ensures ∙ c.if-contains.false)
