use Rattle.std.proofs.Common.{◌≡◌, ◌+◌, ◌*◌, length, subst, sym, arith}
use Rattle.hierarchy.specs.declared.built_in.TheConstants.{BUILT_IN_COUNT}
use Rattle.hierarchy.specs.Hierarchy.{IsWithin, height}
use Rattle.hierarchy.specs.LinkedProgram.{id}
use Rattle.hierarchy.specs.UpwardOrder.{IsUpwardOrder}
use Rattle.hierarchy.proofs.UpwardSearches.{rises_acyclic}
use Rattle.hierarchy.proofs.upward.search.Goals as goal

pub first_cyclic-requires-clause-cyclic : goal.first_cyclic-requires-clause-cyclic
first_cyclic-requires-clause-cyclic c a =
    let classes = c.args.classes.now in
    let same : height classes ≡ length classes + 2 * BUILT_IN_COUNT + 2 = omega arith in
    c.in_ok-note_upward.ensures.endless (cc) (subst (λ n. IsWithin n classes (id c.loop-number.number)) same (a (id c.loop-number.number)))

pub returns : goal.returns
returns c =
    let classes = c.args.classes.now in
    let upward : IsUpwardOrder classes c.loop-number.order = record {
      rises = c.loop-number.invariant.rises;
      whole = λ n h. c.loop-number.invariant.whole n (omega (arith, h, c.loop-number-test.false));
      once = c.is_distinct.ensures;
    } in
    (subst (IsUpwardOrder classes) (sym c.in_ok-to_vec.ensures) upward, rises_acyclic classes c.loop-number.order c.requires.in_range upward)
