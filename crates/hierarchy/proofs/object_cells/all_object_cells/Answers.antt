use Rattle.std.proofs.Common.{◌≡◌, ◌∙◌, ◌+◌, ◌≤◌, Some, take, get_or, slice_get, length, ap, sym, subst, arith}
use Rattle.std.proofs.lemmas.Option.{slice_get-get_or}
use Rattle.std.specs.Option.{unwrap_or}
use Rattle.std.specs.Prelude.{filter, option_copied}
use Rattle.hierarchy.specs.LinkedProgram.{id}
use Rattle.hierarchy.specs.Objects.{is_instance_field}
use Rattle.hierarchy.proofs.CellTables.{HasCellsOf, cells_fit, seen_all, seen_more, seen_past}
use Rattle.hierarchy.proofs.Searches.{length-get_none}
use Rattle.hierarchy.proofs.object_cells.all_object_cells.Goals as goal
use Rattle.hierarchy.proofs.object_cells.all_object_cells.Goals.{in-Some, in_default}

pub overflow_add-above : goal.overflow_add-above
overflow_add-above c =
    let k = c.loop-id.id-index in
    let fits =
    cells_fit
    c.args.classes.now c.requires.acyclic c.requires.fields c.requires.few c.args.order.now c.requires.upward k (get_or c.args.order.now k (id 0)) c.in-Some.class.now c.cells_among-above.result c.instance_count.result c.loop-id.all.items c.loop-id.invariant
    (slice_get-get_or c.args.order.now k (id 0) c.loop-id-test.true)
    (sym c.class_among.ensures ∙ ap option_copied c.in-Some.is)
    (c.cells_among-above.ensures ∙ ap (λ all. unwrap_or (slice_get all c.in-Some.class.now.superclass.number) 0) c.deref.ensures.value)
    (c.instance_count.ensures.count ∙ ap (λ fields. length (filter is_instance_field fields)) c.as_slice.ensures)
    in
    omega (arith, fits)

pub loop-id-preserved : goal.loop-id-preserved
loop-id-preserved c =
    let k = c.loop-id.id-index in
    let order = c.args.order.now in
    let next = get_or order k (id 0) in
    let at : slice_get order k ≡ Some next = slice_get-get_or order k (id 0) c.loop-id-test.true in
    elim c.match-class_among.branch [
      | in-Some w ↦
          seen_more
          c.args.classes.now c.requires.acyclic order c.requires.upward k next w.in-Some.class.now w.cells_among-above.result w.instance_count.result c.loop-id.all.items c.match-class_among.all.items c.loop-id.invariant at
          (sym c.class_among.ensures ∙ ap option_copied w.in-Some.is)
          (w.cells_among-above.ensures ∙ ap (λ all. unwrap_or (slice_get all w.in-Some.class.now.superclass.number) 0) w.deref.ensures.value)
          (w.instance_count.ensures.count ∙ ap (λ fields. length (filter is_instance_field fields)) w.as_slice.ensures)
          (ap (λ v. v.items) w.all-is)
      | in_default w ↦
          let past : length c.args.classes.now ≤ next.number = length-get_none c.args.classes.now next.number (ap option_copied (sym w.in_default.is) ∙ c.class_among.ensures) in
          subst (λ v. HasCellsOf c.args.classes.now (take (k + 1) order) v.items) (sym w.all-is) (seen_past c.args.classes.now order k next c.loop-id.all.items c.loop-id.invariant at past)
    ]

pub returns : goal.returns
returns c = seen_all c.args.classes.now c.args.order.now c.loop-id.id-index c.loop-id.all.items c.requires.upward c.loop-id.invariant (let past = c.loop-id-test.false in omega (arith, past))
