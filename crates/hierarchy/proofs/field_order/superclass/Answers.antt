use Rattle.std.proofs.Common.{◌≡◌, ℕ, ◌+◌, ◌-◌, Option, Some, None, length, slice_get, option_copied, sym, ap, ◌∙◌}
use Rattle.std.specs.Option.{option_map}
use Rattle.hierarchy.specs.declared.class.Class.{Class}
use Rattle.hierarchy.specs.Ancestry.{superclass_in}
use Rattle.hierarchy.specs.BuiltIn.{built_ins}
use Rattle.hierarchy.specs.LinkedProgram.{built_in_after, id}
use Rattle.hierarchy.proofs.Gotten.{gotten}
use Rattle.hierarchy.proofs.field_order.superclass.Goals as goal

pub returns-in-Some : goal.returns-in-Some
returns-in-Some c =
    let cs = c.args.classes.now in
    ap (λ (o : Option Class). superclass_in cs o (slice_get built_ins (c.args.id.number - length cs)))
    (sym (ap option_copied c.in-Some.is) ∙ gotten cs c.args.id.number c.get.result c.get.ensures.lookup.1 c.get.ensures.lookup.3)

pub returns-in-Some-superclass : goal.returns-in-Some-superclass
returns-in-Some-superclass c =
    let cs = c.args.classes.now in
    let none : None ≡ slice_get cs c.args.id.number = sym (ap option_copied c.in-None.is) ∙ gotten cs c.args.id.number c.get.result c.get.ensures.lookup.1 c.get.ensures.lookup.3 in
    ap (λ (n : ℕ). Some (id (length cs + n))) c.number.ensures.number
    ∙ ap (option_map (built_in_after cs)) (sym c.in-Some-superclass.is ∙ c.superclass.ensures)
    ∙ ap (superclass_in cs None) (sym c.in-Some-at.is ∙ c.at.ensures)
    ∙ ap (λ (o : Option Class). superclass_in cs o (slice_get built_ins (c.args.id.number - length cs))) none

pub returns-in-None-superclass : goal.returns-in-None-superclass
returns-in-None-superclass c =
    let cs = c.args.classes.now in
    let none : None ≡ slice_get cs c.args.id.number = sym (ap option_copied c.in-None.is) ∙ gotten cs c.args.id.number c.get.result c.get.ensures.lookup.1 c.get.ensures.lookup.3 in
    ap (option_map (built_in_after cs)) (sym c.in-None-superclass.is ∙ c.superclass.ensures)
    ∙ ap (superclass_in cs None) (sym c.in-Some-at.is ∙ c.at.ensures)
    ∙ ap (λ (o : Option Class). superclass_in cs o (slice_get built_ins (c.args.id.number - length cs))) none

pub returns-in-None-at : goal.returns-in-None-at
returns-in-None-at c =
    let cs = c.args.classes.now in
    let none : None ≡ slice_get cs c.args.id.number = sym (ap option_copied c.in-None.is) ∙ gotten cs c.args.id.number c.get.result c.get.ensures.lookup.1 c.get.ensures.lookup.3 in
    ap (superclass_in cs None) (sym c.in-None-at.is ∙ c.at.ensures)
    ∙ ap (λ (o : Option Class). superclass_in cs o (slice_get built_ins (c.args.id.number - length cs))) none
