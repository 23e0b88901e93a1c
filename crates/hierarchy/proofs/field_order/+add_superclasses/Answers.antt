use Rattle.std.proofs.Common.{◌∙◌, sym, arith}
use Rattle.hierarchy.specs.Ancestry.{superclass_alone}
use Rattle.hierarchy.proofs.Ancestries.{superclass_upward, ancestry-falls}
use Rattle.hierarchy.proofs.FieldOrders.{superclass_is_above}
use Rattle.hierarchy.proofs.Superclasses.{chain_some, chain_none}
use Rattle.hierarchy.proofs.field_order.+add_superclasses.Goals as goal

pub add_superclasses-requires : goal.add_superclasses-requires
add_superclasses-requires t c = (
  omega (
    arith,
    ancestry-falls c.args.classes.now (superclass_alone c.args.classes.now) (superclass_upward c.args.classes.now) c.requires.acyclic c.args.id c.in-Some.superclass
        (superclass_is_above c.args.classes.now c.args.id c.in-Some.superclass (sym c.superclass.ensures ∙ c.in-Some.is)),
    c.decreases,
  ),
  (c.requires.few, c.requires.acyclic),
)

pub returns-in-None : goal.returns-in-None
returns-in-None t c = chain_none c.args.classes.now c.requires.acyclic c.args.found.now _ c.args.id (sym c.superclass.ensures ∙ c.in-None.is) c.in_ok-add.ensures.added

pub returns-in_ok-add_superclasses-in-Some : goal.returns-in_ok-add_superclasses-in-Some
returns-in_ok-add_superclasses-in-Some t c =
    chain_some c.args.classes.now c.requires.acyclic c.args.found.now _ _ c.args.id c.in-Some.superclass (sym c.superclass.ensures ∙ c.in-Some.is) c.in_ok-add.ensures.added c.in_ok-add_superclasses-in-Some.ensures
