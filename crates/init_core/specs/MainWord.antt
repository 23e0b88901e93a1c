-- What a thread of main class m has done so far: the procedure for m, and then what main's body does (JVMS SE 8 5.2).
use Rattle.std.specs.Prelude.{ℕ, List, [], ◌++◌, Option, Some, None}
use Rattle.hierarchy.specs.declared.class.ClassId.{ClassId}
use Rattle.hierarchy.specs.LinkedProgram.{LinkedProgram}
use Rattle.init_core.specs.declared.event.Event.{Event}
use Rattle.init_core.specs.declared.frames.Completed.{Completed}
use Rattle.init_core.specs.declared.frames.Outcome.{Outcome}
use Rattle.init_core.specs.declared.frames.Outcome.TheVariants.{Normal}
use Rattle.init_core.specs.ProcedureWord.{Maker, free, Word, ItemsOf, GoesOn, IsOfFiles, completed}
use Rattle.init_core.specs.Standing.{Standing}
use Rattle.init_core.specs.Leads.{Leads}

-- Before main's body, from a first state s. What has been done where no class is open: nothing, or the procedure for m.
pub data MainDoneOf (p : LinkedProgram) (t : ℕ) (M : Maker) (s : M.State) (m : ClassId) : Option Completed → List Event → M.State → Type 0 where
  nothing : MainDoneOf p t M s m None [] s
  main_done : {z : M.State} {w : List Event} {r : Outcome} → Word p t M s m w r z → MainDoneOf p t M s m (Some (completed m r)) w z

-- what may come before a request from there: it is of m, and the first
pub data BeforeMainOf (p : LinkedProgram) (t : ℕ) (M : Maker) (s : M.State) (m : ClassId) : ClassId → List Event → M.State → Type 0 where
  before_first : BeforeMainOf p t M s m m [] s

-- In main's body. What has been done where no class is open: the procedure for m, completed normally, and items.
pub data MainItemsOf (p : LinkedProgram) (t : ℕ) (M : Maker) (s : M.State) (m : ClassId) : Option Completed → List Event → M.State → Type 0 where
  main_items : {u v z : M.State} {w items : List Event} {last : Option Completed} → Word p t M s m w Normal u → M.enters u m v → ItemsOf p t M v last items z → MainItemsOf p t M s m last (w ++ items) z

-- what may come before a request from there
pub data BeforeItemOf (p : LinkedProgram) (t : ℕ) (M : Maker) (s : M.State) (m : ClassId) : ClassId → List Event → M.State → Type 0 where
  before_item : {u v y z : M.State} {w items : List Event} {last : Option Completed} {c : ClassId} → Word p t M s m w Normal u → M.enters u m v → ItemsOf p t M v last items y → GoesOn last → IsOfFiles p c → M.asks y last c z →
      BeforeItemOf p t M s m c (w ++ items) z

-- the same whatever the bodies do
abbrev pub MainDone : LinkedProgram → ℕ → ClassId → Option Completed → List Event → Type 0
MainDone p t m last xs = MainDoneOf p t free tt m last xs tt

abbrev pub BeforeMain : LinkedProgram → ℕ → ClassId → ClassId → List Event → Type 0
BeforeMain p t m c xs = BeforeMainOf p t free tt m c xs tt

abbrev pub MainItems : LinkedProgram → ℕ → ClassId → Option Completed → List Event → Type 0
MainItems p t m last xs = MainItemsOf p t free tt m last xs tt

abbrev pub BeforeItem : LinkedProgram → ℕ → ClassId → ClassId → List Event → Type 0
BeforeItem p t m c xs = BeforeItemOf p t free tt m c xs tt

-- a list of events of such a thread leads to where its procedures stand
abbrev pub LeadsMain : LinkedProgram → ℕ → ClassId → Standing → List Event → Type 0
LeadsMain p t m s xs = Leads p t (BeforeMain p t m) (MainDone p t m) s xs

-- a list of events of a thread in main's body leads to where its procedures stand
abbrev pub LeadsMainBody : LinkedProgram → ℕ → ClassId → Standing → List Event → Type 0
LeadsMainBody p t m s xs = Leads p t (BeforeItem p t m) (MainItems p t m) s xs

-- what such a thread has done so far leads somewhere, before main's body or in it
pub data BeginsMain (p : LinkedProgram) (t : ℕ) (m : ClassId) (xs : List Event) : Type 0 where
  in_procedure : (s : Standing) → LeadsMain p t m s xs → BeginsMain p t m xs
  in_body : (s : Standing) → LeadsMainBody p t m s xs → BeginsMain p t m xs
