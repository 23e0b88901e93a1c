use Rattle.judge.proofs.States.{state_after}
use Rattle.judge.proofs.classes.apply.Goals as goal

pub returns : goal.returns
returns c = λ p d h st. rw c.add.ensures.step (state_after p d c.args.state.now h c.args.thread c.args.kind.now st c.requires.allowed c.requires.holds)
