-- What one thread is to do, and for what the machine ends it.
use Rattle.std.specs.Prelude.{ℕ}
use Rattle.hierarchy.specs.declared.built_in.BuiltIn.TheVariants.{InternalError, OutOfMemoryError}
use Rattle.hierarchy.specs.declared.class.ClassId.{ClassId}
use Rattle.hierarchy.specs.LinkedProgram.{LinkedProgram, built_in}
use Rattle.init_core.specs.declared.event.Decision.{Decision}
use Rattle.init_core.specs.declared.event.Decision.TheVariants.{Begins}
use Rattle.init_core.specs.declared.frames.Outcome.{Outcome}
use Rattle.init_core.specs.declared.frames.Outcome.TheVariants.{Normal, Abrupt, Ended}
use Rattle.init_lock.specs.Known.{TableFacts}
use Rattle.bodies.specs.declared.report.Limit.{Limit}
use Rattle.bodies.specs.declared.report.Limit.TheVariants.{Steps, Patience, Memory}
use Rattle.bodies.specs.declared.report.Limits.{Limits}
use Rattle.bodies.specs.declared.report.ThreadOutcome.{ThreadOutcome}
use Rattle.bodies.specs.declared.report.ThreadOutcome.TheVariants as outcome
use Rattle.bodies.specs.Making.{Making}
use Rattle.bodies.specs.Runs.{IsEndedAt}

-- a thread of this number and main class, in this program and table, whose bodies are run from this start
pub record TaskFacts (S : Type 0) : Type 0 where
  pub program : LinkedProgram
  pub table : TableFacts
  pub limits : Limits
  pub number : ℕ
  pub main : ClassId
  pub start : S

-- the error by which the machine ends a thread at a limit
abbrev pub error_of : LinkedProgram → Limit → ClassId
error_of p Memory = built_in p OutOfMemoryError
error_of p Steps = built_in p InternalError
error_of p Patience = built_in p InternalError

-- the machine may end the thread at this limit, by this error, where its bodies are in this state
abbrev pub IsWhy : {S : Type 0} → Making S → TaskFacts S → S → Limit → ClassId → Type 0
IsWhy M k s l e = IsEndedAt k.program M k.limits s l e

-- the machine may end the thread at this limit, where its bodies are in this state
abbrev pub IsLimitOf : {S : Type 0} → Making S → TaskFacts S → S → Limit → Type 0
IsLimitOf M k s l = IsWhy M k s l (error_of k.program l)

-- the room that a look takes, by what it decided: that of its event and, where it begins the class, of the step that ends it
abbrev pub room_of : Decision → ℕ
room_of Begins = 2
room_of d = 1

-- how a thread ended, by the result of what it did, and by what the machine ended it for, if it did
abbrev pub outcome_by : Limit → Outcome → ThreadOutcome
outcome_by why Normal = outcome.Normal
outcome_by why (Abrupt e) = outcome.Abrupt e
outcome_by why (Ended e) = outcome.Ended why
