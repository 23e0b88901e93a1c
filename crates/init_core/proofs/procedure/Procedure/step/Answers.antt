use Rattle.init_core.proofs.Answered.{is_at_end}
use Rattle.init_core.proofs.procedure.Procedure.step.Goals as goal

pub leave_class-requires : goal.leave_class-requires
leave_class-requires c = is_at_end c.args.program.now c.args.self.now (rw c.in-Ended.is at c.requires)
