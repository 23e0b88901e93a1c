use Rattle.judge.proofs.Judged.{all_judged, illegal, is_whole, is_unfinished, one_further, none_of}
use Rattle.judge.proofs.Verdicts.{legal_exactly}
use Rattle.judge.proofs.check.Goals as goal

pub returns-in-Some-clause-verdict : goal.returns-in-Some-clause-verdict
returns-in-Some-clause-verdict c =
    illegal c.args.program.now c.args.mains.now c.args.events.now c.events.judge c.events.number c.index-events-number.result c.events-test.true c.index-events-number.is c.events.invariant c.in-Some.rule (rw c.in-Some.is at c.in_ok-rule.ensures.breaks)

pub returns-in-Some-clause-legal : goal.returns-in-Some-clause-legal
returns-in-Some-clause-legal c = legal_exactly c.args.program.now c.args.mains.now c.args.events.now _ (returns-in-Some-clause-verdict c)

pub events-preserved : goal.events-preserved
events-preserved c =
    one_further c.args.program.now c.args.mains.now c.args.events.now c.events.judge c.events.number c.index-events-number.result c.events-test.true c.index-events-number.is c.events.invariant c.take.new.self (c.in_ok-rule.ensures.fits (none_of c.in_ok-rule.field-0 c.in_default.not-Some))

pub returns-then-may_stop-clause-verdict : goal.returns-then-may_stop-clause-verdict
returns-then-may_stop-clause-verdict c =
    is_whole c.args.program.now c.args.mains.now c.args.events.now c.events.judge (all_judged c.args.program.now c.args.mains.now c.args.events.now c.events.judge c.events.number c.events-test.false c.events.invariant) (c.may_stop.ensures.yes c.if-may_stop.true)

pub returns-then-may_stop-clause-legal : goal.returns-then-may_stop-clause-legal
returns-then-may_stop-clause-legal c = legal_exactly c.args.program.now c.args.mains.now c.args.events.now _ (returns-then-may_stop-clause-verdict c)

pub returns-clause-verdict : goal.returns-clause-verdict
returns-clause-verdict c =
    is_unfinished c.args.program.now c.args.mains.now c.args.events.now c.events.judge (all_judged c.args.program.now c.args.mains.now c.args.events.now c.events.judge c.events.number c.events-test.false c.events.invariant) (c.may_stop.ensures.no c.if-may_stop.false)

pub returns-clause-legal : goal.returns-clause-legal
returns-clause-legal c = legal_exactly c.args.program.now c.args.mains.now c.args.events.now _ (returns-clause-verdict c)
