use Rattle.init_core.proofs.Bodies.{used_leads, print_leads}
use Rattle.init_core.proofs.procedure.Procedure.forget_last.Goals as goal

pub returns-clause-uses : goal.returns-clause-uses
returns-clause-uses c = λ p t d k xs body is_use last h. rw c.clear_last.ensures (used_leads p t c.args.self.now d k xs body is_use last h)

pub returns-clause-prints : goal.returns-clause-prints
returns-clause-prints c = λ p t text xs body on h. rw c.clear_last.ensures (print_leads p t c.args.self.now.frames c.args.self.now.last text xs body on h)
