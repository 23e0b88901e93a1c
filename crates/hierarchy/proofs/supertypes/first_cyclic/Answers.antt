use Rattle.std.proofs.Common.{◌∙◌, sym, arith}
use Rattle.hierarchy.proofs.Acyclic.{first_from_clear, clear_more, acyclic_all}
use Rattle.hierarchy.proofs.supertypes.first_cyclic.Goals as goal

pub returns-then-contains : goal.returns-then-contains
returns-then-contains c =
    first_from_clear c.args.classes.now c.loop-number.number c.in_ok-found.found c.loop-number-test.true c.loop-number.invariant c.in_ok-found.ensures
    (sym c.contains.ensures ∙ c.if-contains.true)

pub loop-number-preserved : goal.loop-number-preserved
loop-number-preserved c =
    clear_more c.args.classes.now c.loop-number.number c.in_ok-found.found c.loop-number.invariant c.in_ok-found.ensures
    (sym c.contains.ensures ∙ c.if-contains.false)

pub unreachable-requires : goal.unreachable-requires
unreachable-requires c =
    c.requires.cyclic (acyclic_all c.args.classes.now c.requires.in_range (λ n h. c.loop-number.invariant n (omega (arith, h, c.loop-number-test.false))))
