-- What all threads of a run promise, each of its pass and its bodies, and what they give back.
use Rattle.std.specs.Prelude.{◌≡◌, ℕ, length, List, [], ◌∷◌, Some, map, slice_get}
use Rattle.std.specs.List.{AllByRecursion}
use Rattle.hierarchy.specs.declared.class.ClassId.{ClassId}
use Rattle.hierarchy.specs.LinkedProgram.{LinkedProgram}
use Rattle.init_core.specs.declared.event.Event.{Event}
use Rattle.init_lock.specs.Known.{PassFacts, TableFacts, IsAway}
use Rattle.init_lock.specs.Closing.{numbers}
use Rattle.bodies.specs.declared.report.Limits.{Limits}
use Rattle.bodies.specs.declared.report.Report.{Report}
use Rattle.bodies.specs.Sharing.{Sharing, free_bodies}
use Rattle.guest_threads.specs.declared.guarded.Guarded.{Guarded}
use Rattle.guest_threads.specs.declared.launch.Job.{Job}
use Rattle.guest_threads.specs.declared.work.Worked.{Worked}
use Rattle.bodies.specs.Runs.{AreMains, IsRunOf}
use Rattle.guest_threads.specs.MergedJournals.{IsMergeOf}
use Rattle.guest_threads.specs.ThreadWork.{IsDone}
use Rattle.guest_threads.specs.Working.{MayBegin, Works}

-- what all threads of a run are given: the classes, their records, the main class of each thread, how far each may go
pub record PlanFacts : Type 0 where
  pub program : LinkedProgram
  pub table : TableFacts
  pub mains : List ClassId
  pub limits : Limits

-- the table has a record for each class, and there is a thread for each main class
pub record IsPlan (k : PlanFacts) : Type 0 where
  pub mains : AreMains k.program k.mains
  pub places : k.table.places ≡ length k.program.classes
  pub threads : k.table.threads ≡ length k.mains

-- a new pass of the table
abbrev pub MayWork : PlanFacts → PassFacts Guarded Event → Type 0
MayWork k x = MayBegin k.program k.table x

-- what the thread of a job promises of its pass and outcome
pub record Did {S H : Type 0} (making : LinkedProgram → Sharing S H) (k : PlanFacts) (j : Job S) (w : Worked) : Type 0 where
  pub number : w.pass.number ≡ j.pass.number
  pub works : Works k.program k.table w.pass.number w.pass
  pub done : (m : ClassId) → slice_get k.mains w.pass.number ≡ Some m → IsDone k.program (free_bodies (making k.program)) j.bodies k.table k.limits m w

-- something of each pair
abbrev pub Pairs : {A B : Type 0} → (A → B → Type 0) → List A → List B → Type 0
Pairs P [] [] = Unit {0}
Pairs P (x ∷ xs) (y ∷ ys) = P x y × Pairs P xs ys
Pairs P xs ys = ⊥

-- all passes of the table came back, in the order of their numbers, and none has a record
pub record AreBack (table : TableFacts) (ws : List Worked) : Type 0 where
  pub numbered : map (λ w. w.pass.number) ws ≡ numbers 0 table.threads
  pub of_table : AllByRecursion (λ w. w.pass.table ≡ table.id) ws
  pub away : AllByRecursion (λ w. IsAway w.pass.places) ws

-- what each thread did, the t-th with the t-th main class and the t-th start of its bodies
pub record AreDone {S H : Type 0} (making : LinkedProgram → Sharing S H) (k : PlanFacts) (starts : List S) (ws : List Worked) : Type 0 where
  pub numbered : map (λ w. w.pass.number) ws ≡ numbers 0 (length k.mains)
  pub works : AllByRecursion (λ w. Works k.program k.table w.pass.number w.pass) ws
  pub count : length starts ≡ length k.mains
  pub done : (t : ℕ) (m : ClassId) (start : S) (w : Worked) → slice_get k.mains t ≡ Some m → slice_get starts t ≡ Some start → slice_get ws t ≡ Some w → IsDone k.program (free_bodies (making k.program)) start k.table k.limits m w

-- the report is of the run whose threads did this, and has the events of their journals in the order of the stamps
abbrev pub IsReportOf : {S H : Type 0} → (LinkedProgram → Sharing S H) → TableFacts → List Worked → Report → Type 0
IsReportOf {S} making table ws r = (k : PlanFacts) (starts : List S) → k.table ≡ table → IsPlan k → AreDone making k starts ws → IsMergeOf (map (λ w. w.pass.journal) ws) r.events × IsRunOf k.program (free_bodies (making k.program)) starts k.mains k.limits r
