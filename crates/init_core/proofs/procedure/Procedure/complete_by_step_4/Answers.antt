use Rattle.init_core.proofs.Bodies.{step_4_leads}
use Rattle.init_core.proofs.procedure.Procedure.complete_by_step_4.Goals as goal

pub returns-clause-leads : goal.returns-clause-leads
returns-clause-leads c = λ p t d xs asks h. step_4_leads p t c.args.self.now c.complete.new.self xs d c.complete.ensures asks h
