use Rattle.std.proofs.Common.{◌∙◌, inl, refl, sym, ap, subst}
use Rattle.std.specs.List.{list_all}
use Rattle.hierarchy.specs.ClassLists.{Among, is_among}
use Rattle.hierarchy.specs.Hierarchy.{IsSubtype}
use Rattle.hierarchy.proofs.CoveredLists.{listed_superinterfaces, superinterfaces_covered, superinterfaces_brought}
use Rattle.hierarchy.proofs.order.are_found.Goals as goal

pub returns-then-is_covered : goal.returns-then-is_covered
returns-then-is_covered c e =
    superinterfaces_covered c.args.classes.now c.requires.acyclic c.args.finished.now c.args.id _ c.args.found.now c.requires.finished c.requires.closed c.last_listed-nearest.ensures (c.is_covered.ensures c.if-is_covered.true)

pub returns : goal.returns
returns c e y m =
    superinterfaces_brought c.args.classes.now c.args.id c.args.found.now c.requires.closed (ap (list_all (λ d. is_among d c.args.found.now)) (sym c.interfaces.ensures) ∙ sym c.contains_all.ensures ∙ e) y
    (subst (λ z. Among y z) (listed_superinterfaces c.args.classes.now (IsSubtype c.args.classes.now c.args.id) c.args.finished.now c.args.id (inl refl) c.requires.finished) m)
