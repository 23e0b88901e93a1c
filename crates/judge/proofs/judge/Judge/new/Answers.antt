use Rattle.judge.proofs.Rules.{nothing_judged}
use Rattle.judge.proofs.judge.Judge.new.Goals as goal

pub returns : goal.returns
returns c = λ p. nothing_judged p c.args.mains.now _ c.in_ok-new.ensures c.new-2.ensures
