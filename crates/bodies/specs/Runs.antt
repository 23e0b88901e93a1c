-- What a run of several threads makes, each of a main class of its own, by the bodies that it runs.
use Rattle.std.specs.Prelude.{◌≡◌, ◌≢◌, ◌≤◌, ℕ, length, List, Some, slice_get}
use Rattle.std.specs.List.{AllByRecursion}
use Rattle.hierarchy.specs.declared.built_in.BuiltIn.TheVariants.{InternalError, OutOfMemoryError}
use Rattle.hierarchy.specs.declared.class.ClassId.{ClassId}
use Rattle.hierarchy.specs.LinkedProgram.{LinkedProgram, built_in}
use Rattle.init_core.specs.declared.event.Event.{Event}
use Rattle.init_core.specs.declared.event.TheConstants.{THREADS}
use Rattle.init_core.specs.declared.event.Label.TheVariants.{InProgress}
use Rattle.init_core.specs.declared.frames.Outcome.{Outcome}
use Rattle.init_core.specs.declared.frames.Outcome.TheVariants.{Normal, Abrupt, Ended}
use Rattle.init_core.specs.Interleaving.{IsLegal, labels_of, label_at, of_thread}
use Rattle.init_core.specs.ProcedureWord.{ThreadWordOf, IsOfFiles}
use Rattle.init_core.specs.ProgramEvents.{IsProgramEvent}
use Rattle.bodies.specs.declared.report.Limit.{Limit}
use Rattle.bodies.specs.declared.report.Limit.TheVariants.{Steps, Patience, Memory}
use Rattle.bodies.specs.declared.report.Limits.{Limits}
use Rattle.bodies.specs.declared.report.Report.{Report}
use Rattle.bodies.specs.declared.report.ThreadOutcome.{ThreadOutcome}
use Rattle.bodies.specs.declared.report.ThreadOutcome.TheVariants as outcome
use Rattle.bodies.specs.Output.{output_of}
use Rattle.bodies.specs.Making.{Making, maker_of}

-- the main classes of a run: 1 to 16, each one of the files
pub record AreMains (p : LinkedProgram) (mains : List ClassId) : Type 0 where
  pub of_files : AllByRecursion (λ m. IsOfFiles p m) mains
  pub some : 1 ≤ length mains
  pub few : length mains ≤ THREADS

-- the machine ends a thread at this limit, by this error: at one that its bodies have, or its patience, which has one, by
-- InternalError; out of memory, by OutOfMemoryError
abbrev pub IsEndedAt : {S : Type 0} → LinkedProgram → Making S → Limits → S → Limit → ClassId → Type 0
IsEndedAt p M limits s Steps e = (e ≡ built_in p InternalError) × M.limits Steps s
IsEndedAt p M limits s Patience e = (e ≡ built_in p InternalError) × (limits.patience ≢ 0)
IsEndedAt p M limits s Memory e = e ≡ built_in p OutOfMemoryError

-- how a thread ended, by the result of what it did
abbrev pub IsOutcome : {S : Type 0} → LinkedProgram → Making S → Limits → S → Outcome → ThreadOutcome → Type 0
IsOutcome p M limits s Normal o = o ≡ outcome.Normal
IsOutcome p M limits s (Abrupt e) o = o ≡ outcome.Abrupt e
IsOutcome p M limits s (Ended e) (outcome.Ended l) = IsEndedAt p M limits s l e
IsOutcome p M limits s (Ended e) o = ⊥

-- Thread t of main class m did this and ended so, by bodies that M makes from this start: the procedure for m, and then the
-- method main.
pub record IsThreadRun {S : Type 0} (p : LinkedProgram) (M : Making S) (start : S) (limits : Limits) (t : ℕ) (m : ClassId) (events : List Event) (o : ThreadOutcome) : Type 0 where
  pub result : Outcome
  pub end : S
  pub word : ThreadWordOf p t (maker_of p M) start m events result end
  pub outcome : IsOutcome p M limits end result o

-- how each thread ended, by what it did of these events
abbrev pub AreOutcomes : {S : Type 0} → LinkedProgram → Making S → List S → List ClassId → Limits → List Event → List ThreadOutcome → Type 0
AreOutcomes {S} p M starts mains limits events outcomes = (t : ℕ) (m : ClassId) (start : S) → slice_get mains t ≡ Some m → slice_get starts t ≡ Some start →
    (o : ThreadOutcome) × (slice_get outcomes t ≡ Some o) × IsThreadRun p M start limits t m (of_thread t events) o

-- The report is of a run of these main classes, thread t of the t-th with the t-th start of its bodies.
pub record IsRunOf {S : Type 0} (p : LinkedProgram) (M : Making S) (starts : List S) (mains : List ClassId) (limits : Limits) (r : Report) : Type 0 where
  pub legal : IsLegal p mains r.events
  pub events : AllByRecursion (λ e. IsProgramEvent p (length mains) e) r.events
  pub labels : r.labels ≡ labels_of p r.events
  pub count : length r.outcomes ≡ length mains
  pub outcomes : AreOutcomes p M starts mains limits r.events r.outcomes
  -- no class is left in progress
  pub finished : (c : ClassId) (t : ℕ) → label_at r.events c ≢ InProgress t
  -- what was printed, in order
  pub output : r.output ≡ output_of r.events
