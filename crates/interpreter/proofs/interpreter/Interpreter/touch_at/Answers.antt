use Rattle.std.proofs.Common.{subst}
use Rattle.frames.specs.declared.run.Stop.{Stop}
use Rattle.interpreter.specs.Rows.{IsStopped}
use Rattle.interpreter.proofs.CodeBodies.{err_map, on_ok}
use Rattle.interpreter.proofs.Running.{at_throw, here_at, here_is, leads_at, left_at, past_the_end, takes_at_throw, takes_here, takes_past_the_end}
use Rattle.interpreter.proofs.Served.{leads_here, served_here}
use Rattle.interpreter.proofs.interpreter.Interpreter.touch_at.Goals as goal

pub unreachable-requires : goal.unreachable-requires
unreachable-requires c = c.requires.left c.in-Limit.is

pub returns-in-PastTheEnd-clause-row : goal.returns-in-PastTheEnd-clause-row
returns-in-PastTheEnd-clause-row c = on_ok c.run_past.result (λ h. past_the_end c.args.program.now c.args.self.now c.run_past.new.self c.args.at c.args.code.now (subst (λ (w : Stop). IsStopped c.args.program.now c.args.self.now c.args.at c.args.code.now w) c.in-PastTheEnd.is c.requires.stopped) h) c.run_past.ensures.ok

pub returns-in-PastTheEnd-clause-memory : goal.returns-in-PastTheEnd-clause-memory
returns-in-PastTheEnd-clause-memory c = err_map c.run_past.result (takes_past_the_end c.args.program.now c.args.self.now c.args.at c.args.code.now (subst (λ (w : Stop). IsStopped c.args.program.now c.args.self.now c.args.at c.args.code.now w) c.in-PastTheEnd.is c.requires.stopped)) c.run_past.ensures.memory

pub returns-in-Throws-clause-row : goal.returns-in-Throws-clause-row
returns-in-Throws-clause-row c = on_ok c.fail_by.result (λ h. at_throw c.args.program.now c.args.self.now c.fail_by.new.self c.args.at c.args.code.now c.in-Throws.class (subst (λ (w : Stop). IsStopped c.args.program.now c.args.self.now c.args.at c.args.code.now w) c.in-Throws.is c.requires.stopped) h) c.fail_by.ensures.ok

pub returns-in-Throws-clause-memory : goal.returns-in-Throws-clause-memory
returns-in-Throws-clause-memory c = err_map c.fail_by.result (takes_at_throw c.args.program.now c.args.self.now c.args.at c.args.code.now c.in-Throws.class (subst (λ (w : Stop). IsStopped c.args.program.now c.args.self.now c.args.at c.args.code.now w) c.in-Throws.is c.requires.stopped)) c.fail_by.ensures.memory

pub lead_of-lead-requires-clause-out : goal.lead_of-lead-requires-clause-out
lead_of-lead-requires-clause-out c = leads_here c.args.program.now c.args.self.now c.args.at c.args.code.now c.in-LeadsOut.op (here_at c.args.program.now c.args.self.now c.args.at c.args.code.now c.in-LeadsOut.op (subst (λ (w : Stop). IsStopped c.args.program.now c.args.self.now c.args.at c.args.code.now w) c.in-LeadsOut.is c.requires.stopped))

pub perform_one-requires-clause-served : goal.perform_one-requires-clause-served
perform_one-requires-clause-served c = served_here c.args.program.now c.args.self.now c.args.at c.args.code.now c.in-LeadsOut.op c.lead_of-lead.result c.instructions_name_what_is_there.ensures (here_at c.args.program.now c.args.self.now c.args.at c.args.code.now c.in-LeadsOut.op (subst (λ (w : Stop). IsStopped c.args.program.now c.args.self.now c.args.at c.args.code.now w) c.in-LeadsOut.is c.requires.stopped)) c.lead_of-lead.ensures

pub perform_one-requires-clause-left : goal.perform_one-requires-clause-left
perform_one-requires-clause-left c = (left_at c.args.program.now c.args.self.now c.args.at c.args.code.now c.in-LeadsOut.op (subst (λ (w : Stop). IsStopped c.args.program.now c.args.self.now c.args.at c.args.code.now w) c.in-LeadsOut.is c.requires.stopped))

pub perform_one-requires-clause-at : goal.perform_one-requires-clause-at
perform_one-requires-clause-at c = here_is c.args.program.now c.args.self.now c.args.at c.args.code.now c.in-LeadsOut.op (here_at c.args.program.now c.args.self.now c.args.at c.args.code.now c.in-LeadsOut.op (subst (λ (w : Stop). IsStopped c.args.program.now c.args.self.now c.args.at c.args.code.now w) c.in-LeadsOut.is c.requires.stopped))

pub returns-in-LeadsOut-clause-row : goal.returns-in-LeadsOut-clause-row
returns-in-LeadsOut-clause-row c = on_ok c.perform_one.result (λ h. leads_at c.args.program.now c.args.self.now c.perform_one.new.self c.args.at c.args.code.now c.in-LeadsOut.op c.lead_of-lead.result (here_at c.args.program.now c.args.self.now c.args.at c.args.code.now c.in-LeadsOut.op (subst (λ (w : Stop). IsStopped c.args.program.now c.args.self.now c.args.at c.args.code.now w) c.in-LeadsOut.is c.requires.stopped)) (left_at c.args.program.now c.args.self.now c.args.at c.args.code.now c.in-LeadsOut.op (subst (λ (w : Stop). IsStopped c.args.program.now c.args.self.now c.args.at c.args.code.now w) c.in-LeadsOut.is c.requires.stopped)) c.lead_of-lead.ensures h) c.perform_one.ensures.ok

pub returns-in-LeadsOut-clause-memory : goal.returns-in-LeadsOut-clause-memory
returns-in-LeadsOut-clause-memory c = err_map c.perform_one.result (takes_here c.args.program.now c.args.self.now c.args.at c.args.code.now c.in-LeadsOut.op c.lead_of-lead.result (here_at c.args.program.now c.args.self.now c.args.at c.args.code.now c.in-LeadsOut.op (subst (λ (w : Stop). IsStopped c.args.program.now c.args.self.now c.args.at c.args.code.now w) c.in-LeadsOut.is c.requires.stopped)) (left_at c.args.program.now c.args.self.now c.args.at c.args.code.now c.in-LeadsOut.op (subst (λ (w : Stop). IsStopped c.args.program.now c.args.self.now c.args.at c.args.code.now w) c.in-LeadsOut.is c.requires.stopped)) c.lead_of-lead.ensures) c.perform_one.ensures.memory
