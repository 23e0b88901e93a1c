use Rattle.std.proofs.Common.{take}
use Rattle.hierarchy.specs.declared.class.ClassId.{ClassId}
use Rattle.hierarchy.specs.ClassLists.{Among}
use Rattle.hierarchy.specs.UpwardOrder.{Rises}
use Rattle.hierarchy.proofs.upward.+note_upward.Given as goal

abbrev pub decreases-note_upward : goal.decreases-note_upward
decreases-note_upward l = l.steps

abbrev pub invariant-loop-interface : goal.invariant-loop-interface
invariant-loop-interface l = record {
  rises : Rises l.fn.classes l.order;
  keeps : (d : ClassId) → Among d l.fn.order → Among d l.order;
  noted : (d : ClassId) → Among d (take l.interface-index l.interface-items) → Among d l.order;
}
