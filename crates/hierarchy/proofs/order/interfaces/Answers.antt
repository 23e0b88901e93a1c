use Rattle.std.proofs.Common.{option_copied, sym, ap, ◌∙◌}
use Rattle.hierarchy.specs.Hierarchy.{interfaces_in}
use Rattle.hierarchy.proofs.Gotten.{gotten}
use Rattle.hierarchy.proofs.order.interfaces.Goals as goal

pub returns-in-Some : goal.returns-in-Some
returns-in-Some c = c.as_slice.ensures ∙ ap interfaces_in (sym (ap option_copied c.in-Some.is) ∙ gotten c.args.classes.now c.args.id.number c.get.result c.get.ensures.lookup.1 c.get.ensures.lookup.3)

pub returns-in-None : goal.returns-in-None
returns-in-None c = ap interfaces_in (sym (ap option_copied c.in-None.is) ∙ gotten c.args.classes.now c.args.id.number c.get.result c.get.ensures.lookup.1 c.get.ensures.lookup.3)
