use Rattle.std.proofs.Common.{refl}
use Rattle.init_core.specs.declared.event.Decision.TheVariants as decision
use Rattle.init_core.proofs.Answered.{may_look, has_begun, has_looked, waits_so}
use Rattle.init_core.proofs.procedure.Procedure.look_at.Goals as goal

pub returns-in-Prepared-clause-standing : goal.returns-in-Prepared-clause-standing
returns-in-Prepared-clause-standing c =
    has_looked c.args.program.now c.args.thread c.args.class_record.now.class c.args.self.now c.begin_at.new.self decision.Begins c.requires.next (λ e. cc) (has_begun _ _ _ c.in_ok-begin_at.ensures.standing)

pub advance-requires : goal.advance-requires
advance-requires c =
    may_look c.args.program.now c.args.class_record.now.class c.args.self.now c.in_ok-decision.decision c.requires.next (λ e. waits_so c.args.thread {h = c.args.class_record.now.events} refl c.in_ok-decision.ensures.decision e c.requires.waiting (c.in_ok-decision.ensures.first e))

pub returns-clause-standing : goal.returns-clause-standing
returns-clause-standing c =
    has_looked c.args.program.now c.args.thread c.args.class_record.now.class c.args.self.now c.advance.new.self c.in_ok-decision.decision c.requires.next (λ e. waits_so c.args.thread {h = c.args.class_record.now.events} refl c.in_ok-decision.ensures.decision e c.requires.waiting (c.in_ok-decision.ensures.first e)) c.in-Ok.ensures.standing

pub returns-clause-again : goal.returns-clause-again
returns-clause-again c = λ e. waits_so c.args.thread {h = c.args.class_record.now.events} refl c.in_ok-decision.ensures.decision e c.requires.waiting (c.in_ok-decision.ensures.again e)

pub returns-clause-first : goal.returns-clause-first
returns-clause-first c = λ e. waits_so c.args.thread {h = c.args.class_record.now.events} refl c.in_ok-decision.ensures.decision e c.requires.waiting (c.in_ok-decision.ensures.first e)
