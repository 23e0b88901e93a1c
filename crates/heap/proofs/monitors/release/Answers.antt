use Rattle.std.proofs.Common.{None, get_or, sym, arith}
use Rattle.std.proofs.lemmas.List.Edits.{map_over_more}
use Rattle.std.proofs.lemmas.Option.{get_or_from_slice_get, slice_get-get_or}
use Rattle.heap.specs.Monitors.{released}
use Rattle.heap.proofs.monitors.release.Goals as goal

pub loop-place-preserved : goal.loop-place-preserved
loop-place-preserved c =
    let xs = c.loop-place.held in
    let i = c.loop-place.place in
    let at = slice_get-get_or xs i None (omega (arith, c.loop-place-test.true, c.loop-place.auto.held)) in
    rw c.released_by.ensures (map_over_more (released c.args.thread) c.args.held.now xs i (get_or xs i None) c.loop-place-test.true c.loop-place.invariant (sym (get_or_from_slice_get xs i (get_or xs i None) (get_or xs i None) at)))
