-- What one thread knows: where its own events have led it, and what it has seen of each class.
use Rattle.std.specs.Prelude.{◌≡◌, ◌≢◌, ℕ, List, [], ◌∷◌, ◌++◌, Option, Some, None}
use Rattle.std.specs.List.{AllByRecursion}
use Rattle.hierarchy.specs.declared.class.ClassId.{ClassId}
use Rattle.hierarchy.specs.LinkedProgram.{LinkedProgram}
use Rattle.init_core.specs.declared.event.Event.{Event}
use Rattle.init_core.specs.declared.event.Label.TheVariants.{InProgress}
use Rattle.init_core.specs.declared.frames.Completed.{Completed}
use Rattle.init_core.specs.declared.frames.Frame.{Frame}
use Rattle.init_core.specs.declared.frames.Outcome.TheVariants.{Normal}
use Rattle.init_core.specs.declared.frames.Phase.{Phase}
use Rattle.init_core.specs.declared.frames.Phase.TheVariants.{Looking, Needing, EndingBy}
use Rattle.init_core.specs.Advance.{is_waiting}
use Rattle.init_core.specs.Decisions.{waits}
use Rattle.init_core.specs.Label.{label_of}
use Rattle.init_core.specs.Lawful.{AgreesAfter, MayUse}
use Rattle.init_core.specs.Leads.{LeadsOf, outcome_of}
use Rattle.init_core.specs.ProcedureWord.{Maker, free, IsOfFiles, completed, ended_by, given_up}
use Rattle.init_core.specs.Standing.{Standing}

-- the open classes whose step 6 was made, innermost first
abbrev pub begun_in : ClassId → Phase → List ClassId → List ClassId
begun_in c (Looking waited) cs = cs
begun_in c phase cs = c ∷ cs

abbrev pub begun_classes : List Frame → List ClassId
begun_classes [] = []
begun_classes (f ∷ fs) = begun_in f.class f.phase (begun_classes fs)

-- no class is there twice
abbrev pub AreDifferent : List ClassId → Type 0
AreDifferent [] = Unit {0}
AreDifferent (c ∷ cs) = AllByRecursion (λ d. d ≢ c) cs × AreDifferent cs

-- the classes that an open one still needs
abbrev pub still_needed : Phase → List ClassId
still_needed (Needing rest) = rest
still_needed phase = []

-- an open class, and what it still needs, is of the files
abbrev pub NamesFiles : LinkedProgram → Frame → Type 0
NamesFiles p f = AllByRecursion (IsOfFiles p) (f.class ∷ still_needed f.phase)

-- the error by which the machine is ending the thread
abbrev pub ending_error_in : Phase → Option Completed → Option ClassId
ending_error_in (EndingBy k by_machine) last = ended_by (outcome_of k by_machine)
ending_error_in phase last = given_up last

abbrev pub ending_error : Standing → Option ClassId
ending_error s = elim s.frames [ [] ↦ given_up s.last | f ∷ fs ↦ ending_error_in f.phase s.last ]

-- After these events of its own, by what makes its bodies, thread t stands so, where it has seen this history of each
-- class. Outer says what may come before a request from outside of any class, and Idle what has been done where no class
-- is open.
pub record StandsOf (p : LinkedProgram) (t : ℕ) (M : Maker) (Outer : ClassId → List Event → M.State → Type 0) (Idle : Option Completed → List Event → M.State → Type 0) (s : Standing) (own : List Event) (seen : ClassId → List Event) (z : M.State) : Type 0 where
  pub leads : LeadsOf p t M Outer Idle s own z
  pub files : AllByRecursion (λ f. NamesFiles p f) s.frames
  -- what it has begun is in progress by it
  pub mine : AllByRecursion (λ c. label_of (seen c) ≡ InProgress t) (begun_classes s.frames)
  pub different : AreDifferent (begun_classes s.frames)
  -- it waits where its last event was a wait, while the machine isn't ending it
  pub waiting : ending_error s ≡ None → (c : ClassId) → waits t (seen c) ≡ is_waiting c s.frames
  -- a class whose procedure was completed last, normally, may be used
  pub used : (c : ClassId) → s.last ≡ Some (completed c Normal) → MayUse t (label_of (seen c))

-- the same whatever the bodies do
abbrev pub Stands : LinkedProgram → ℕ → (ClassId → List Event → Type 0) → (Option Completed → List Event → Type 0) → Standing → List Event → (ClassId → List Event) → Type 0
Stands p t Outer Idle s own seen = StandsOf p t free (λ d ys z. Outer d ys) (λ last ys z. Idle last ys) s own seen tt

-- these events are seen of each class besides, and agree with its labels
pub record SeesMore (seen : ClassId → List Event) (more : ClassId → List Event) (now : ClassId → List Event) : Type 0 where
  pub adds : (c : ClassId) → now c ≡ seen c ++ more c
  pub agrees : (c : ClassId) → AgreesAfter (seen c) (more c)

-- none of these is an event of t
abbrev pub AreOfOthers : ℕ → List Event → Type 0
AreOfOthers t events = AllByRecursion (λ e. e.thread ≢ t) events
