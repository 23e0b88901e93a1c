use Rattle.std.proofs.Common.{◌∙◌, ◌-◌, sym, subst, arith}
use Rattle.hierarchy.specs.declared.class.ClassId.{ClassId}
use Rattle.hierarchy.specs.ClassLists.{Among}
use Rattle.hierarchy.specs.Hierarchy.{interfaces_of}
use Rattle.hierarchy.proofs.ClassMembership.{among_from_true, add_new-keeps, add_new-has}
use Rattle.hierarchy.proofs.Enumerations.{among_supers}
use Rattle.hierarchy.proofs.UpwardSearches.{rises_more, noted_more, noted_all, all_noted, all_noted_none, endless_further}
use Rattle.hierarchy.proofs.Walks.{interface_there}
use Rattle.hierarchy.proofs.upward.+note_upward.Goals as goal

pub returns-then-contains-clause-there : goal.returns-then-contains-clause-there
returns-then-contains-clause-there t c e = among_from_true c.args.id c.args.order.now (sym c.contains.ensures ∙ c.if-contains.true)

pub returns-then-not-branch-clause-endless : goal.returns-then-not-branch-clause-endless
returns-then-not-branch-clause-endless t c e =
    let classes = c.args.classes.now in
    endless_further classes c.args.steps (c.args.steps - 1) c.args.id _ (omega (arith, c.if-steps-eq0.false))
    (among_supers classes c.args.id _ (interface_there classes c.args.id _ c.loop-interface.interface-index (sym c.interfaces-interface-items.ensures) c.loop-interface-test.true))
    (c.in_ok-note_upward.ensures.endless cc)

pub loop-interface-preserved : goal.loop-interface-preserved
loop-interface-preserved t c = record {
  rises = c.in_ok-note_upward.ensures.rises;
  keeps = λ d m. c.in_ok-note_upward.ensures.keeps d (c.loop-interface.invariant.keeps d m);
  noted = noted_more c.interfaces-interface-items.result.now c.loop-interface.order _ c.loop-interface.interface-index c.loop-interface-test.true c.loop-interface.invariant.noted c.in_ok-note_upward.ensures.keeps (c.in_ok-note_upward.ensures.there cc);
}

pub returns-in_default-clause-rises : goal.returns-in_default-clause-rises
returns-in_default-clause-rises t c =
    let noted : (d : ClassId) → Among d (interfaces_of c.args.classes.now c.args.id) → Among d c.loop-interface.order = λ d m.
    noted_all c.interfaces-interface-items.result.now c.loop-interface.order c.loop-interface.interface-index c.loop-interface-test.false c.loop-interface.invariant.noted d (subst (Among d) (sym c.interfaces-interface-items.ensures) m) in
    rises_more c.args.classes.now c.loop-interface.order c.add.new.self c.args.id c.loop-interface.invariant.rises
    (all_noted_none c.args.classes.now c.args.id c.loop-interface.order noted (sym c.superclass.ensures ∙ c.in_default.is))
    c.in_ok-add.ensures.added

pub returns-in_default-clause-keeps : goal.returns-in_default-clause-keeps
returns-in_default-clause-keeps t c d m =
    subst (Among d) (sym c.in_ok-add.ensures.added) (add_new-keeps c.loop-interface.order c.args.id (c.loop-interface.invariant.keeps d m))

pub returns-in_default-clause-there : goal.returns-in_default-clause-there
returns-in_default-clause-there t c e = subst (Among c.args.id) (sym c.in_ok-add.ensures.added) (add_new-has c.loop-interface.order c.args.id)

pub returns-clause-rises : goal.returns-clause-rises
returns-clause-rises t c =
    let up = c.in_ok-note_upward-2.ensures in
    let noted : (d : ClassId) → Among d (interfaces_of c.args.classes.now c.args.id) → Among d c.note_upward-2.new.order = λ d m.
    up.keeps d (noted_all c.interfaces-interface-items.result.now c.loop-interface.order c.loop-interface.interface-index c.loop-interface-test.false c.loop-interface.invariant.noted d (subst (Among d) (sym c.interfaces-interface-items.ensures) m)) in
    rises_more c.args.classes.now c.note_upward-2.new.order c.add-2.new.self c.args.id up.rises
    (all_noted c.args.classes.now c.args.id c.in-Some.superclass c.note_upward-2.new.order noted (sym c.superclass.ensures ∙ c.in-Some.is) (up.there cc))
    c.in_ok-add-2.ensures.added

pub returns-clause-keeps : goal.returns-clause-keeps
returns-clause-keeps t c d m =
    subst (Among d) (sym c.in_ok-add-2.ensures.added)
    (add_new-keeps c.note_upward-2.new.order c.args.id (c.in_ok-note_upward-2.ensures.keeps d (c.loop-interface.invariant.keeps d m)))

pub returns-clause-there : goal.returns-clause-there
returns-clause-there t c e = subst (Among c.args.id) (sym c.in_ok-add-2.ensures.added) (add_new-has c.note_upward-2.new.order c.args.id)
