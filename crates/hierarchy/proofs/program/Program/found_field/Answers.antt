use Rattle.std.proofs.Common.{◌≤◌, ◌∙◌, ap, length, arith}
use Rattle.hierarchy.specs.Ancestry.{first_given}
use Rattle.hierarchy.specs.Fields.{declared_field, field_order}
use Rattle.hierarchy.proofs.Superclasses.{order_past}
use Rattle.hierarchy.proofs.FirstGiven.{first_given-distinct}
use Rattle.hierarchy.proofs.program.Program.found_field.Goals as goal

pub returns-then-id-len : goal.returns-then-id-len
returns-then-id-len c =
    let f = declared_field c.args.self.now c.args.name.now c.args.field_type.now in
    c.first_field.ensures ∙ ap (first_given f) c.field_order.ensures ∙ first_given-distinct f (field_order c.args.self.now.classes c.args.id)

pub returns : goal.returns
returns c =
    let p = c.args.self.now in
    let past : length p.classes ≤ c.args.id.number = omega (arith, c.if-id-len.false, c.len.ensures.count) in
    c.field_of_superclasses.ensures ∙ ap (first_given (declared_field p c.args.name.now c.args.field_type.now)) (order_past p.classes c.args.id past)
