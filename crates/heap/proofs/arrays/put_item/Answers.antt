use Rattle.std.proofs.Common.{refl, ap, length, slice_set, arith}
use Rattle.std.proofs.lemmas.Option.{slice_get_past, slice_get_read}
use Rattle.heap.specs.Contents.{item_written, no_array}
use Rattle.heap.proofs.Taken.{taken_set, with_element_keeps}
use Rattle.heap.proofs.arrays.put_item.Goals as goal

pub returns-then-place-len-clause-put : goal.returns-then-place-len-clause-put
returns-then-place-len-clause-put c = no_array (slice_get_past c.args.made.now.items c.args.place (omega (arith, c.if-place-len.true, c.len.ensures)))

pub returns-clause-put : goal.returns-clause-put
returns-clause-put c =
    let xs = c.args.made.now.items in
    let at = slice_get_read xs (length xs) c.args.place c.index_mut-object.result.now refl (omega (arith, c.if-place-len.false, c.len.ensures)) c.index_mut-object.ensures.value in
    item_written at c.put_element.ensures.found (ap (λ o. slice_set xs c.args.place o) c.put_element.ensures.written)

pub returns-clause-cells : goal.returns-clause-cells
returns-clause-cells c =
    let xs = c.args.made.now.items in
    let at = slice_get_read xs (length xs) c.args.place c.index_mut-object.result.now refl (omega (arith, c.if-place-len.false, c.len.ensures)) c.index_mut-object.ensures.value in
    rw c.put_element.ensures.written (taken_set xs c.args.place c.index_mut-object.result.now _ at (with_element_keeps c.index_mut-object.result.now c.args.index c.args.value))
