use Rattle.judge.proofs.Rules.{class_breaks_rule}
use Rattle.judge.proofs.judge.Judge.take_parts.Goals as goal

pub returns-in-Some-clause-breaks : goal.returns-in-Some-clause-breaks
returns-in-Some-clause-breaks c =
    rw c.in-Some.is (class_breaks_rule c.args.program.now c.args.self.now c.read.new.self c.args.thread c.in-Some.class c.args.kind.now c.take.result (rw c.in-Some.is at (c.in_ok-read.ensures.yes c.if-not-branch.false)) c.take.ensures.breaks)
