use Rattle.std.proofs.Common.{sym, ◌∙◌}
use Rattle.hierarchy.proofs.InheritedLists.{superclass_kept, inherited_made, none_inherited}
use Rattle.hierarchy.proofs.order.inherited.Goals as goal

pub returns-in_ok-add_set-in-Some-list_or_other : goal.returns-in_ok-add_set-in-Some-list_or_other
returns-in_ok-add_set-in-Some-list_or_other c =
    let named = sym c.superclass.ensures ∙ c.in-Some.is in
    inherited_made c.args.classes.now c.requires.acyclic c.args.superinterfaces.now c.args.id c.in-Some.superclass c.in-Some-list_or_other.above.now _ _ _ c.requires.superinterfaces named
    (c.in-Some-list_or_other.ensures.some.0 ∙ superclass_kept c.args.classes.now c.requires.acyclic c.args.superinterfaces.now c.args.finished.now c.args.id c.in-Some.superclass named c.requires.superinterfaces c.requires.finished)
    c.in-Some-list_or_other.ensures.some.1 c.new-found.ensures c.in_ok-add_list-in-Some-list_or_other.ensures c.in_ok-add_set-in-Some-list_or_other.ensures

pub returns-in-None : goal.returns-in-None
returns-in-None c =
    let named = sym c.superclass.ensures ∙ c.in-Some.is in
    none_inherited c.args.classes.now c.args.id c.in-Some.superclass _ c.new-found.result named
    (superclass_kept c.args.classes.now c.requires.acyclic c.args.superinterfaces.now c.args.finished.now c.args.id c.in-Some.superclass named c.requires.superinterfaces c.requires.finished)
    (c.list_or_other.ensures.none c.in-None.is) c.new-found.ensures
