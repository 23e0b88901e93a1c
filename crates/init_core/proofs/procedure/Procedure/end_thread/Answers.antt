use Rattle.std.proofs.Common.{append-nil}
use Rattle.init_core.proofs.Answered.{ends_thread}
use Rattle.init_core.proofs.Bodies.{answer_leads}
use Rattle.init_core.proofs.procedure.Procedure.end_thread.Goals as goal

pub returns-clause-leads : goal.returns-clause-leads
returns-clause-leads c = λ p t xs machine on h. rw c.stop.ensures (rw append-nil at (answer_leads p t (ends_thread p t c.args.self.now c.args.error c.requires on machine).1 h))
