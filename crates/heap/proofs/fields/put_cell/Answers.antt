use Rattle.std.proofs.Common.{refl, ap, length, slice_set, arith}
use Rattle.std.proofs.lemmas.Option.{slice_get_past, slice_get_read}
use Rattle.heap.specs.Contents.{cell_written, no_object}
use Rattle.heap.proofs.Taken.{taken_set, with_cell_keeps}
use Rattle.heap.proofs.fields.put_cell.Goals as goal

pub returns-then-place-len-clause-put : goal.returns-then-place-len-clause-put
returns-then-place-len-clause-put c = no_object (slice_get_past c.args.made.now.items c.args.place (omega (arith, c.if-place-len.true, c.len.ensures)))

pub returns-clause-put : goal.returns-clause-put
returns-clause-put c =
    let xs = c.args.made.now.items in
    let at = slice_get_read xs (length xs) c.args.place c.index_mut-object.result.now refl (omega (arith, c.if-place-len.false, c.len.ensures)) c.index_mut-object.ensures.value in
    cell_written at c.put_cell.ensures.found (ap (λ o. slice_set xs c.args.place o) c.put_cell.ensures.written)

pub returns-clause-cells : goal.returns-clause-cells
returns-clause-cells c =
    let xs = c.args.made.now.items in
    let at = slice_get_read xs (length xs) c.args.place c.index_mut-object.result.now refl (omega (arith, c.if-place-len.false, c.len.ensures)) c.index_mut-object.ensures.value in
    rw c.put_cell.ensures.written (taken_set xs c.args.place c.index_mut-object.result.now _ at (with_cell_keeps c.index_mut-object.result.now c.args.cell c.args.value))
