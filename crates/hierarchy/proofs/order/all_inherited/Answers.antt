use Rattle.std.proofs.Common.{ap, arith}
use Rattle.std.specs.Prelude.{vec_items}
use Rattle.hierarchy.proofs.FinishedLists.{none_finished, finished_above, finished_more, finished_past, finished_all}
use Rattle.hierarchy.proofs.order.all_inherited.Goals as goal
use Rattle.hierarchy.proofs.order.all_inherited.Goals.{then-id-classes+in_ok-found, else-id-classes}

pub loop-id-init : goal.loop-id-init
loop-id-init c = none_finished c.in_ok-all.ensures

pub inherited-requires-clause-finished : goal.inherited-requires-clause-finished
inherited-requires-clause-finished c =
    finished_above c.args.order.now c.loop-id.id-index c.requires.upward c.loop-id-test.true c.loop-id.invariant c.deref.ensures.value

pub loop-id-preserved : goal.loop-id-preserved
loop-id-preserved c =
    elim c.if-id-classes.branch [
      | then-id-classes+in_ok-found w ↦ finished_more c.args.order.now c.loop-id.id-index w.in_ok-found.found c.loop-id-test.true c.loop-id.invariant w.in_ok-found.ensures (ap vec_items w.all-is)
      | else-id-classes w ↦ finished_past c.args.order.now c.loop-id.id-index c.loop-id-test.true c.loop-id.invariant (omega (arith, w.if-id-classes.false)) (ap vec_items w.all-is)
    ]

pub returns : goal.returns
returns c = finished_all c.args.order.now c.loop-id.id-index c.requires.upward (omega (arith, c.loop-id-test.false)) c.loop-id.invariant
