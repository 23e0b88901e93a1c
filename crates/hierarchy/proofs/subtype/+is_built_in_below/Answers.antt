use Rattle.std.proofs.Common.{◌≡◌, ◌∙◌, sym, ap, ◌+◌, length, arith}
use Rattle.hierarchy.specs.declared.class.ClassId.{ClassId}
use Rattle.hierarchy.specs.LinkedProgram.{built_in_after}
use Rattle.hierarchy.specs.BuiltIn.{number_of}
use Rattle.hierarchy.proofs.Subtypes.{below_none, below_here, below_further, id-same}
use Rattle.hierarchy.proofs.subtype.+is_built_in_below.Goals as goal

pub returns-in-None : goal.returns-in-None
returns-in-None t c = below_none c.args.classes.now c.args.class c.args.other (sym c.superclass.ensures ∙ c.in-None.is)

pub returns-then-classes-number : goal.returns-then-classes-number
returns-then-classes-number t c =
    below_here c.args.classes.now c.args.class c.in-Some.superclass c.args.other (sym c.superclass.ensures ∙ c.in-Some.is)
    (id-same c.args.other (built_in_after c.args.classes.now c.in-Some.superclass) (omega (arith, c.if-classes-number.true, c.number.ensures.number)))

pub returns-else-classes-number : goal.returns-else-classes-number
returns-else-classes-number t c =
    below_further c.args.classes.now c.args.class c.in-Some.superclass c.args.other c.is_built_in_below.result (sym c.superclass.ensures ∙ c.in-Some.is)
    (λ q. let e : c.args.other.number ≡ length c.args.classes.now + number_of c.in-Some.superclass = ap (λ (z : ClassId). z.number) q in
    c.if-classes-number.false (ap (λ n. length c.args.classes.now + n) c.number.ensures.number ∙ sym e))
    c.is_built_in_below.ensures
