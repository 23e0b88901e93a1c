use Rattle.std.proofs.Common.{◌∙◌, inl, refl, sym, ap, subst}
use Rattle.std.specs.List.{list_all}
use Rattle.hierarchy.specs.ClassLists.{Among, is_among}
use Rattle.hierarchy.proofs.ClassMembership.{among_from_true}
use Rattle.hierarchy.proofs.CoveredLists.{order_covered, order_brought}
use Rattle.hierarchy.proofs.FinishedLists.{listed_within}
use Rattle.hierarchy.proofs.field_order.is_order_found.Goals as goal

pub returns-then-is_covered : goal.returns-then-is_covered
returns-then-is_covered c e =
    order_covered c.args.classes.now c.requires.acyclic c.args.superinterfaces.now c.args.finished.now c.args.id _ c.args.found.now c.requires.superinterfaces c.requires.finished c.requires.of_files c.requires.whole c.last_listed-nearest.ensures (c.is_covered.ensures c.if-is_covered.true)

pub returns-then-contains : goal.returns-then-contains
returns-then-contains c e y m =
    order_brought c.args.classes.now c.requires.acyclic c.args.id _ c.args.found.now c.requires.whole (sym c.superclass.ensures ∙ c.in-Some.is) (among_from_true _ _ (sym c.contains.ensures ∙ c.if-contains.true))
    (ap (list_all (λ d. is_among d c.args.found.now)) (sym c.interfaces.ensures) ∙ sym c.contains_all.ensures ∙ e) y
    (subst (λ z. Among y z) (listed_within c.requires.finished c.args.id (inl refl) c.requires.of_files) m)
