use Rattle.std.proofs.Common.{◌∙◌, [], refl, sym, take}
use Rattle.hierarchy.specs.ClassLists.{add_new}
use Rattle.hierarchy.specs.Fields.{interfaces_first}
use Rattle.hierarchy.specs.Hierarchy.{interfaces_of}
use Rattle.hierarchy.proofs.Ancestries.{interfaces_first_upward, whole_next}
use Rattle.hierarchy.proofs.FieldOrders.{interface_above, superclass_above, interfaces_walked, ordered_some, ordered_none}
use Rattle.hierarchy.proofs.FinishedLists.{finished_from}
use Rattle.hierarchy.proofs.field_order.order_of.Goals as goal

pub add_order-requires-clause-finished : goal.add_order-requires-clause-finished
add_order-requires-clause-finished c =
    let classes = c.args.classes.now in
    let m = interface_above classes c.args.id c.interfaces-interface-items.result.now c.loop-interface.interface-index (sym c.interfaces-interface-items.ensures) c.loop-interface-test.true in
    finished_from c.requires.finished (interfaces_first_upward classes c.args.id _ m)

pub add_order-requires-clause-whole : goal.add_order-requires-clause-whole
add_order-requires-clause-whole c =
    let classes = c.args.classes.now in
    let items = c.interfaces-interface-items.result.now in
    let k = c.loop-interface.interface-index in
    let m = interface_above classes c.args.id items k (sym c.interfaces-interface-items.ensures) c.loop-interface-test.true in
    whole_next classes (interfaces_first classes) (interfaces_first_upward classes) c.requires.acyclic [] c.loop-interface.found (add_new [] c.args.id) (take k items) c.args.id _ (λ d h q. elim q [ ]) m refl c.loop-interface.invariant

pub add_order-requires-in-Some-clause-finished : goal.add_order-requires-in-Some-clause-finished
add_order-requires-in-Some-clause-finished c =
    let classes = c.args.classes.now in
    let m = superclass_above classes c.args.id c.in-Some.superclass (sym c.superclass.ensures ∙ c.in-Some.is) in
    finished_from c.requires.finished (interfaces_first_upward classes c.args.id c.in-Some.superclass m)

pub add_order-requires-in-Some-clause-whole : goal.add_order-requires-in-Some-clause-whole
add_order-requires-in-Some-clause-whole c =
    let classes = c.args.classes.now in
    let start = add_new [] c.args.id in
    let m = superclass_above classes c.args.id c.in-Some.superclass (sym c.superclass.ensures ∙ c.in-Some.is) in
    let n = interfaces_walked classes c.args.id _ start c.loop-interface.found _ (sym c.interfaces-interface-items.ensures) c.loop-interface-test.false c.loop-interface.invariant in
    whole_next classes (interfaces_first classes) (interfaces_first_upward classes) c.requires.acyclic [] c.loop-interface.found start (interfaces_of classes c.args.id) c.args.id c.in-Some.superclass (λ d h q. elim q [ ]) m refl n

pub returns-in_ok-add_order-in-Some : goal.returns-in_ok-add_order-in-Some
returns-in_ok-add_order-in-Some c =
    let classes = c.args.classes.now in
    let n = interfaces_walked classes c.args.id _ (add_new [] c.args.id) c.loop-interface.found _ (sym c.interfaces-interface-items.ensures) c.loop-interface-test.false c.loop-interface.invariant in
    ordered_some classes c.requires.acyclic [] c.loop-interface.found _ c.args.id c.in-Some.superclass n (sym c.superclass.ensures ∙ c.in-Some.is) c.in_ok-add_order-in-Some.ensures

pub returns-in-None : goal.returns-in-None
returns-in-None c =
    let classes = c.args.classes.now in
    let n = interfaces_walked classes c.args.id _ (add_new [] c.args.id) c.loop-interface.found _ (sym c.interfaces-interface-items.ensures) c.loop-interface-test.false c.loop-interface.invariant in
    ordered_none classes c.requires.acyclic [] c.loop-interface.found c.args.id n (sym c.superclass.ensures ∙ c.in-None.is)
