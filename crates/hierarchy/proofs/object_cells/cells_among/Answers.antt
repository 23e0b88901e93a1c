use Rattle.std.proofs.Common.{ℕ, Option, option_copied, sym, ap, ◌∙◌}
use Rattle.std.specs.Option.{unwrap_or}
use Rattle.hierarchy.proofs.Gotten.{gotten}
use Rattle.hierarchy.proofs.object_cells.cells_among.Goals as goal

pub returns-in-Some : goal.returns-in-Some
returns-in-Some c = ap (λ (o : Option ℕ). unwrap_or o 0) (sym (ap option_copied c.in-Some.is) ∙ gotten c.args.all.now c.args.id.number c.get.result c.get.ensures.lookup.1 c.get.ensures.lookup.3)

pub returns-in-None : goal.returns-in-None
returns-in-None c = ap (λ (o : Option ℕ). unwrap_or o 0) (sym (ap option_copied c.in-None.is) ∙ gotten c.args.all.now c.args.id.number c.get.result c.get.ensures.lookup.1 c.get.ensures.lookup.3)
