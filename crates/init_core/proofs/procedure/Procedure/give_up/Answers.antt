use Rattle.init_core.proofs.Answered.{look_is_given_up}
use Rattle.init_core.proofs.procedure.Procedure.give_up.Goals as goal

pub returns-else-begun : goal.returns-else-begun
returns-else-begun c = λ p. rw c.if-begun.false (look_is_given_up p _ _ c.args.error c.complete.ensures)
