use Rattle.std.proofs.Common.{◌∙◌, [], inl, refl, sym, ap}
use Rattle.hierarchy.specs.ClassLists.{add_all}
use Rattle.hierarchy.specs.Fields.{field_order, interfaces_first}
use Rattle.hierarchy.proofs.Ancestries.{interfaces_first_upward, skipped_order}
use Rattle.hierarchy.proofs.ClassMembership.{add_all-added}
use Rattle.hierarchy.proofs.CoveredLists.{ordered_again}
use Rattle.hierarchy.proofs.FinishedLists.{listed_within}
use Rattle.hierarchy.proofs.Superclasses.{order_past}
use Rattle.hierarchy.proofs.field_order.add_order.Goals as goal

pub returns-then-contains : goal.returns-then-contains
returns-then-contains c =
    let classes = c.args.classes.now in
    skipped_order classes (interfaces_first classes) (interfaces_first_upward classes) c.requires.acyclic c.args.found.now c.args.id c.requires.whole (sym c.contains.ensures ∙ c.if-contains.true)

pub returns-then-len-lt2 : goal.returns-then-len-lt2
returns-then-len-lt2 c =
    c.in_ok-add_list.ensures ∙ ap (add_all c.args.found.now) (listed_within c.requires.finished c.args.id (inl refl) c.if-id-classes.true) ∙ add_all-added c.args.found.now [] (field_order c.args.classes.now c.args.id)

pub returns-in_ok-add_list_unless : goal.returns-in_ok-add_list_unless
returns-in_ok-add_list_unless c =
    ordered_again c.args.classes.now c.requires.acyclic c.args.found.now _ _ _ c.args.id (listed_within c.requires.finished c.args.id (inl refl) c.if-id-classes.true) c.in_ok-add.ensures.added c.in_ok-add_list_unless.ensures

pub returns-in_ok-add_superclasses : goal.returns-in_ok-add_superclasses
returns-in_ok-add_superclasses c = c.in_ok-add_superclasses.ensures ∙ ap (add_all c.args.found.now) (order_past c.args.classes.now c.args.id c.if-id-classes.false)
