use Rattle.init_core.proofs.Bodies.{end_leads}
use Rattle.init_core.proofs.procedure.Procedure.end_class.Goals as goal

pub returns-clause-leads : goal.returns-clause-leads
returns-clause-leads c = λ p t d k xs asks h. end_leads p t c.args.self.now c.leave_class.new.self xs d k c.leave_class.ensures asks h
