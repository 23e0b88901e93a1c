use Rattle.init_core.proofs.States.{state_after}
use Rattle.init_core.proofs.state.ClassState.add.Goals as goal

pub returns-clause-history : goal.returns-clause-history
returns-clause-history c = λ events h range holds. rw c.step.ensures (state_after c.args.self.now events c.args.thread c.args.kind.now c.requires.thread c.requires.allowed h range holds)
