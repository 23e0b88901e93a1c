use Rattle.std.proofs.Common.{◌≡◌, ◌≤◌, ◌++◌, ◌∙◌, true, false, length, slice_get, slice_index_or, sym, subst, ap}
use Rattle.std.proofs.lemmas.List.{map-append}
use Rattle.std.specs.Prelude.{vec_items}
use Rattle.std.specs.List.{IsDistinct}
use Rattle.hierarchy.specs.ClassLists.{add_all, is_among, same_class}
use Rattle.hierarchy.specs.ClassNumbers.{ids}
use Rattle.hierarchy.specs.LinkedProgram.{id}
use Rattle.hierarchy.proofs.ClassSets.{add_all-distinct, marked_alone, marked_before}
use Rattle.hierarchy.proofs.class_set.ClassSet.add_set.Goals as goal
use Rattle.hierarchy.proofs.class_set.ClassSet.add_set.Goals.{in-Some+in_ok-make_room, in_default}

pub invariant_of-self-2 : goal.invariant_of-self-2
invariant_of-self-2 c =
    let xs = ids c.self.inside.numbers.items in
    let ys = ids c.other.inside.numbers.items in
    let short : c.is_short_of.result ≡ true = c.if-not-is_short_of.false in
    let few : length xs ≤ 1 = subst (λ z. length z ≤ 1) (sym c.self.view_is) (c.is_short_of.ensures.few short) in
    let apart : add_all xs ys ≡ xs ++ ys =
    subst (λ z. add_all xs z ≡ xs ++ z) (sym c.other.view_is)
    (subst (λ z. add_all z c.args.other.now ≡ z ++ c.args.other.now) (sym c.self.view_is) (c.is_short_of.ensures.apart short)) in
    let joined : ids c.extend_from_slice.new.self.items ≡ xs ++ ys =
    ap ids (c.in_ok-extend_from_slice.ensures.items ∙ ap (λ z. z ++ c.as_slice-2.result.now) c.in_ok-reserve.ensures.items ∙ ap (λ z. c.self.inside.numbers.items ++ z) c.as_slice-2.ensures.value)
    ∙ map-append id c.self.inside.numbers.items c.other.inside.numbers.items in
    let copied : c.in_ok-marks.marks.items ≡ c.other.inside.marks.items = c.in_ok-marks.ensures.items ∙ c.as_slice.ensures.value in
    record {
      once = subst (IsDistinct same_class) (apart ∙ sym joined) (add_all-distinct xs ys c.self.invariant.once);
      marked = λ n.
          elim c.match-at.branch [
            | in-Some+in_ok-make_room w ↦
                ap (λ z. slice_index_or z n false) (ap vec_items w.marks-is)
                ∙ marked_before w.make_room.new.marks.items xs ys w.in-Some.id few (sym w.in-Some.is ∙ c.at.ensures ∙ ap (λ z. slice_get z 0) (sym c.self.view_is))
                (λ k. w.in_ok-make_room.ensures.same k ∙ ap (λ z. slice_index_or z k false) copied ∙ c.other.invariant.marked k) w.in_ok-make_room.ensures.room n
            | in_default w ↦
                ap (λ z. slice_index_or z n false) (ap vec_items w.marks-is)
                ∙ marked_alone c.in_ok-marks.marks.items xs ys (sym w.in_default.is ∙ c.at.ensures ∙ ap (λ z. slice_get z 0) (sym c.self.view_is))
                (λ k. ap (λ z. slice_index_or z k false) copied ∙ c.other.invariant.marked k) n
          ]
          ∙ ap (is_among (id n)) (sym joined);
    }
