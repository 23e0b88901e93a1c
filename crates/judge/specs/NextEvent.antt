-- Which event a thread may make next, by the state of its procedures, and their state after it: what `Reads` says, as
-- the code tests it.
use Rattle.std.specs.Prelude.{◌≡◌, List, [], ◌∷◌, Option, Some, None, Bool, true, false}
use Rattle.hierarchy.specs.declared.class.ClassId.{ClassId}
use Rattle.hierarchy.specs.declared.built_in.BuiltIn.TheVariants.{NoClassDefFoundError, OutOfMemoryError}
use Rattle.hierarchy.specs.LinkedProgram.{LinkedProgram, built_in}
use Rattle.hierarchy.specs.Subclasses.{IsError}
use Rattle.init_core.specs.Needs.{needs}
use Rattle.init_core.specs.declared.event.Kind.{Kind}
use Rattle.init_core.specs.declared.event.Kind.TheVariants as kind
use Rattle.init_core.specs.declared.frames.Completed.{Completed}
use Rattle.init_core.specs.declared.frames.Ending.{Ending}
use Rattle.init_core.specs.declared.frames.Ending.TheVariants as ending
use Rattle.init_core.specs.declared.frames.Frame.{Frame}
use Rattle.init_core.specs.declared.frames.Outcome.TheVariants.{Normal, Abrupt, Ended}
use Rattle.init_core.specs.declared.frames.Phase.{Phase}
use Rattle.init_core.specs.declared.frames.Phase.TheVariants.{Looking, Needing, Running, EndingBy}
use Rattle.init_core.specs.ProcedureWord.{GoesOn, given_up, IsOfFiles, IsMachineError, completed}
use Rattle.init_core.specs.Standing.{Standing}
use Rattle.init_core.specs.Leads.{frame, standing, outcome_of}
use Rattle.init_core.specs.Advance.{after_needs, after_word}

-- b says whether an event may come next; where it may, the procedures stand there now
pub record MovesIf (May : Type 0) (there now : Standing) (b : Bool) : Type 0 where
  pub yes : b ≡ true → May
  pub leads : b ≡ true → now ≡ there
  pub no : b ≡ false → May → ⊥

-- steps 2 to 6, where a request has waited or not
abbrev pub MayLook : Bool → Kind → Type 0
MayLook waited kind.Waits = waited ≡ false
MayLook waited kind.Recurs = Unit {0}
MayLook waited kind.FindsInitialized = Unit {0}
MayLook waited kind.FindsErroneous = Unit {0}
MayLook waited kind.Begins = Unit {0}
MayLook waited _ = ⊥

abbrev pub look_to : LinkedProgram → ClassId → List Frame → Kind → Standing
look_to p c fs kind.Waits = standing (frame c (Looking true) ∷ fs) None
look_to p c fs kind.FindsErroneous = after_word fs c (Abrupt (built_in p NoClassDefFoundError))
look_to p c fs kind.Begins = after_needs c (needs p c) fs
look_to p c fs _ = after_word fs c Normal

-- what a body may go on with: a print, a read or a write directly after the procedure for the class, or a request
abbrev pub MayGoOn : LinkedProgram → Option Completed → Option ClassId → Kind → Type 0
MayGoOn p last None (kind.Prints text) = Unit {0}
MayGoOn p last None _ = ⊥
MayGoOn p last (Some c) (kind.Gets place value) = last ≡ Some (completed c Normal)
MayGoOn p last (Some c) (kind.Puts place value) = last ≡ Some (completed c Normal)
MayGoOn p last (Some c) k = IsOfFiles p c × MayLook false k

abbrev pub item_to : LinkedProgram → List Frame → Option ClassId → Kind → Standing
item_to p frames None k = standing frames None
item_to p frames (Some c) (kind.Gets place value) = standing frames None
item_to p frames (Some c) (kind.Puts place value) = standing frames None
item_to p frames (Some c) k = look_to p c frames k

-- a request has no answer: the class around it is ended by the machine
abbrev pub MayEndAround : LinkedProgram → Phase → ClassId → Option ClassId → Kind → Type 0
MayEndAround p (Needing rest) c o (kind.SuperFails e) = (o ≡ Some c) × IsMachineError p e
MayEndAround p (Running true) c o (kind.Fails e) = (o ≡ Some c) × IsMachineError p e
MayEndAround p phase c o k = ⊥

abbrev pub MayBeUnanswered : LinkedProgram → List Frame → Option ClassId → Kind → Type 0
MayBeUnanswered p [] o k = ⊥
MayBeUnanswered p (f ∷ fs) o k = MayEndAround p f.phase f.class o k

abbrev pub unanswered_to : List Frame → ClassId → Standing
unanswered_to [] e = standing [] None
unanswered_to (f ∷ fs) e = after_word fs f.class (Ended e)

-- at a request
abbrev pub MayAnswer : LinkedProgram → Bool → ClassId → List Frame → Option ClassId → Kind → Type 0
MayAnswer p waited c fs o (kind.SuperFails e) = MayBeUnanswered p fs o (kind.SuperFails e)
MayAnswer p waited c fs o (kind.Fails e) = MayBeUnanswered p fs o (kind.Fails e)
MayAnswer p waited c fs o k = (o ≡ Some c) × MayLook waited k

abbrev pub answer_to : LinkedProgram → ClassId → List Frame → Kind → Standing
answer_to p c fs (kind.SuperFails e) = unanswered_to fs e
answer_to p c fs (kind.Fails e) = unanswered_to fs e
answer_to p c fs k = look_to p c fs k

-- at step 9
abbrev pub MayRun : LinkedProgram → ClassId → Option ClassId → Kind → Type 0
MayRun p c o kind.Runs = o ≡ Some c
MayRun p c o (kind.SuperFails e) = (o ≡ Some c) × (e ≡ built_in p OutOfMemoryError)
MayRun p c o _ = ⊥

abbrev pub run_to : ClassId → List Frame → Kind → Standing
run_to c fs (kind.SuperFails e) = after_word fs c (Ended e)
run_to c fs k = standing (frame c (Running true) ∷ fs) None

-- in a body that the machine is ending by this error: step 12
abbrev pub MayEndBody : ClassId → ClassId → Option ClassId → Kind → Type 0
MayEndBody by c o (kind.Fails e) = (o ≡ Some c) × (e ≡ by)
MayEndBody by c o _ = ⊥

-- in the body after step 9, which the machine is ending by this error or not
abbrev pub MayBeInBody : LinkedProgram → Option ClassId → ClassId → Option Completed → Option ClassId → Kind → Type 0
MayBeInBody p (Some by) c last o k = MayEndBody by c o k
MayBeInBody p None c last o kind.Completes = o ≡ Some c
MayBeInBody p None c last o (kind.Fails e) = (o ≡ Some c) × IsError p e
MayBeInBody p None c last o k = MayGoOn p last o k

abbrev pub body_to : LinkedProgram → Option ClassId → ClassId → List Frame → Option ClassId → Kind → Standing
body_to p (Some by) c fs o k = after_word fs c (Ended by)
body_to p None c fs o kind.Completes = after_word fs c Normal
body_to p None c fs o (kind.Fails e) = after_word fs c (Abrupt e)
body_to p None c fs o k = item_to p (frame c (Running true) ∷ fs) o k

-- before step 7
abbrev pub MayEnd : Ending → ClassId → Option ClassId → Kind → Type 0
MayEnd (ending.SuperFails e) c o (kind.SuperFails thrown) = (o ≡ Some c) × (thrown ≡ e)
MayEnd k c o _ = ⊥

-- in main's body, or directly after the procedure for main's class
abbrev pub MayBeInMain : LinkedProgram → Bool → Option Completed → Option ClassId → Kind → Type 0
MayBeInMain p true last o k = GoesOn last × MayGoOn p last o k
MayBeInMain p false None o k = ⊥
MayBeInMain p false (Some d) o k = (d.outcome ≡ Normal) × MayGoOn p None o k

abbrev pub MayInPhase : LinkedProgram → Phase → ClassId → List Frame → Option Completed → Option ClassId → Kind → Type 0
MayInPhase p (Looking waited) c fs last o k = MayAnswer p waited c fs o k
MayInPhase p (Needing rest) c fs last o k = ⊥
MayInPhase p (Running false) c fs last o k = MayRun p c o k
MayInPhase p (Running true) c fs last o k = MayBeInBody p (given_up last) c last o k
MayInPhase p (EndingBy e by_machine) c fs last o k = MayEnd e c o k

abbrev pub phase_to : LinkedProgram → Phase → ClassId → List Frame → Option Completed → Option ClassId → Kind → Standing
phase_to p (Looking waited) c fs last o k = answer_to p c fs k
phase_to p (Needing rest) c fs last o k = standing [] None
phase_to p (Running false) c fs last o k = run_to c fs k
phase_to p (Running true) c fs last o k = body_to p (given_up last) c fs o k
phase_to p (EndingBy e by_machine) c fs last o k = after_word fs c (outcome_of e by_machine)

abbrev pub MayRead : LinkedProgram → Bool → List Frame → Option Completed → Option ClassId → Kind → Type 0
MayRead p begun [] last o k = MayBeInMain p begun last o k
MayRead p begun (f ∷ fs) last o k = MayInPhase p f.phase f.class fs last o k

abbrev pub read_to : LinkedProgram → List Frame → Option Completed → Option ClassId → Kind → Standing
read_to p [] last o k = item_to p [] o k
read_to p (f ∷ fs) last o k = phase_to p f.phase f.class fs last o k

abbrev pub begun_after : Bool → List Frame → Bool
begun_after begun [] = true
begun_after begun (f ∷ fs) = begun
