use Rattle.std.proofs.Common.{sym, ◌∙◌}
use Rattle.init_core.proofs.Answered.{body_is_stopped}
use Rattle.init_core.proofs.procedure.Procedure.stop.Goals as goal

pub returns-then-is_running : goal.returns-then-is_running
returns-then-is_running c = body_is_stopped c.args.self.now c.leave_body.new.self c.args.error (sym c.is_running.ensures ∙ c.if-is_running.true) c.leave_body.ensures
