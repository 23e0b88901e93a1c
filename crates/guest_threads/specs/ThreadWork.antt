-- What a thread promises of its pass, of what it did, and of how it ended.
use Rattle.std.specs.List.{AllByRecursion}
use Rattle.hierarchy.specs.declared.class.ClassId.{ClassId}
use Rattle.hierarchy.specs.LinkedProgram.{LinkedProgram}
use Rattle.init_core.specs.ProgramEvents.{IsProgramEvent}
use Rattle.init_lock.specs.Known.{TableFacts}
use Rattle.bodies.specs.declared.report.Limits.{Limits}
use Rattle.bodies.specs.Making.{Making}
use Rattle.guest_threads.specs.declared.work.Worked.{Worked}
use Rattle.guest_threads.specs.Tasks.{TaskFacts}
use Rattle.bodies.specs.Runs.{IsThreadRun}
use Rattle.guest_threads.specs.Working.{Works, drawn}

-- what a thread of main class m did with its pass, by bodies that M makes from this start, and how it ended
pub record IsDone {S : Type 0} (p : LinkedProgram) (M : Making S) (start : S) (table : TableFacts) (limits : Limits) (m : ClassId) (w : Worked) : Type 0 where
  pub run : IsThreadRun p M start limits w.pass.number m (drawn w.pass.journal) w.outcome
  pub events : AllByRecursion (λ e. IsProgramEvent p table.threads e) (drawn w.pass.journal)

-- a thread has done its task
pub record HasDone {S : Type 0} (M : Making S) (k : TaskFacts S) (w : Worked) : Type 0 where
  pub works : Works k.program k.table k.number w.pass
  pub done : IsDone k.program M k.start k.table k.limits k.main w
