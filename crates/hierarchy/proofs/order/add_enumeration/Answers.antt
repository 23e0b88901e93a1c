use Rattle.std.proofs.Common.{◌∙◌, inl, refl, sym, subst}
use Rattle.hierarchy.specs.Hierarchy.{IsSubtype}
use Rattle.hierarchy.specs.Superinterfaces.{IsClosed}
use Rattle.hierarchy.proofs.CoveredLists.{listed_superinterfaces, enumerated}
use Rattle.hierarchy.proofs.Enumerations.{closed-add_all}
use Rattle.hierarchy.proofs.Walks.{skipped}
use Rattle.hierarchy.proofs.order.add_enumeration.Goals as goal

pub returns-then-contains-clause-found : goal.returns-then-contains-clause-found
returns-then-contains-clause-found c = skipped _ _ _ c.requires.acyclic c.requires.closed (sym c.contains.ensures ∙ c.if-contains.true)

pub returns-clause-found : goal.returns-clause-found
returns-clause-found c =
    enumerated c.args.classes.now c.requires.acyclic c.args.found.now _ _ _ c.args.id
    (listed_superinterfaces c.args.classes.now (IsSubtype c.args.classes.now c.args.id) c.args.finished.now c.args.id (inl refl) c.requires.finished)
    c.in_ok-add_list_unless.ensures c.in_ok-add.ensures.added

pub returns-clause-closed : goal.returns-clause-closed
returns-clause-closed c =
    subst (IsClosed c.args.classes.now) (sym (returns-clause-found c)) (closed-add_all _ c.requires.acyclic _ c.args.id c.requires.closed)
