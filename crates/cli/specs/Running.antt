-- Class texts, linked and run.
use Rattle.std.specs.Prelude.{◌≡◌, ℕ, zero, suc, Bool, true, false, ◌++◌, List, [], ◌∷◌, Option, Some, None, if◌then◌else◌, length, nat_eq, nat_lt, option_and_then}
use Rattle.jasmin_text.specs.declared.class_text.ClassParts.{ClassParts}
use Rattle.hierarchy.specs.declared.class.ClassId.{ClassId}
use Rattle.hierarchy.specs.declared.fault.LinkFault.{LinkFault}
use Rattle.hierarchy.specs.FirstFault.{IsFirstFault}
use Rattle.hierarchy.specs.LinkedProgram.{LinkedProgram, class_named}
use Rattle.bodies.specs.declared.report.Limits.{Limits}
use Rattle.bodies.specs.declared.report.Report.{Report}
use Rattle.interpreter.specs.declared.interpreter.Interpreter.{Interpreter}
use Rattle.interpreter.specs.CodeRun.{alone_bodies, interpreter_at_start}
use Rattle.interpreter.specs.Touching.{code_bodies, objects_at_start}
use Rattle.bodies.specs.Sharing.{free_bodies}
use Rattle.bodies.specs.Runs.{IsRunOf}
use Rattle.replayer.specs.OrderedRun.{IsOrderedRunOf}
use Rattle.cli.specs.declared.fault.Fault.{Fault}
use Rattle.cli.specs.declared.fault.Fault.TheVariants.{Link, Memory}

-- why class texts aren't linked: their first fault, or being out of memory
pub data IsLinkRefusal (texts : List ClassParts) : Fault → Type 0 where
  first : {f : LinkFault} → IsFirstFault texts f → IsLinkRefusal texts (Link f)
  memory : IsLinkRefusal texts Memory

-- a class of the files
abbrev pub class_of_files : LinkedProgram → ClassId → Option ClassId
class_of_files p c = if nat_lt c.number (length p.classes) then Some c else None

-- the class of the files that a name is of
abbrev pub main_named : LinkedProgram → List ℕ → Option ClassId
main_named p name = option_and_then (class_of_files p) (class_named p name)

-- a class and further ones, where all are there
abbrev pub with_main : Option ClassId → Option (List ClassId) → Option (List ClassId)
with_main (Some c) (Some cs) = Some (c ∷ cs)
with_main _ _ = None

-- the classes that the names between commas (44) are of, where this much of the first name was read before
abbrev pub mains_from : LinkedProgram → List ℕ → List ℕ → Option (List ClassId)
mains_from p name [] = with_main (main_named p name) (Some [])
mains_from p name (byte ∷ rest) = if nat_eq byte 44 then with_main (main_named p name) (mains_from p [] rest) else mains_from p (name ++ byte ∷ []) rest

-- no more than there are threads
abbrev pub up_to_16 : List ClassId → Option (List ClassId)
up_to_16 cs = if nat_lt 16 (length cs) then None else Some cs

-- the classes of the files that the names in a text are of, 1 to 16, separated by commas
abbrev pub mains_named : LinkedProgram → List ℕ → Option (List ClassId)
mains_named p text = option_and_then up_to_16 (mains_from p [] text)

-- those that the text of `--mains` names, where the option is given
abbrev pub mains_in : LinkedProgram → Option (List ℕ) → Option (List ClassId)
mains_in p mains = option_and_then (mains_named p) mains

-- what runs the code of the threads below this one, of which nothing has run
abbrev pub starts_below : ℕ → ℕ → List Interpreter
starts_below zero steps = []
starts_below (suc n) steps = starts_below n steps ++ interpreter_at_start n steps ∷ []

-- and of as many threads as there are main classes
abbrev pub starts_of : List ClassId → Limits → List Interpreter
starts_of mains limits = starts_below (length mains) limits.steps

-- the report is of a run in this order: of one class, whose thread is alone, or of several, whose threads share what is made and who
-- holds which monitor, where nothing is made at first and nobody holds any
abbrev pub IsOrderedRunBy : Bool → LinkedProgram → List Interpreter → List ClassId → List ℕ → Report → Type 0
IsOrderedRunBy true p starts classes order r = IsOrderedRunOf p (alone_bodies p) tt starts classes order r
IsOrderedRunBy false p starts classes order r = IsOrderedRunOf p (code_bodies p) objects_at_start starts classes order r

-- the report is of a run in any order: of one class, whose thread is alone, so that it is the run in order, or of several, whose touches may each
-- meet any heap and any monitors
abbrev pub IsRunBy : Bool → LinkedProgram → List Interpreter → List ClassId → Limits → Report → Type 0
IsRunBy true p starts classes limits r = IsRunOf p (free_bodies (alone_bodies p)) starts classes limits r × IsOrderedRunBy true p starts classes [] r
IsRunBy false p starts classes limits r = IsRunOf p (free_bodies (code_bodies p)) starts classes limits r

-- the report is of a run of the code of these classes, each on a thread of its own: in this order, or, where there is none, in any
abbrev pub IsRunOfMains : LinkedProgram → List ClassId → Option (List ℕ) → Limits → Report → Type 0
IsRunOfMains p classes None limits r = IsRunBy (nat_lt (length classes) 2) p (starts_of classes limits) classes limits r
IsRunOfMains p classes (Some order) limits r = IsOrderedRunBy (nat_lt (length classes) 2) p (starts_of classes limits) classes order r

-- and these are the classes that the text of `--mains` names
pub record IsRunOfNamed (mains : Option (List ℕ)) (order : Option (List ℕ)) (limits : Limits) (p : LinkedProgram) (r : Report) : Type 0 where
  pub classes : List ClassId
  pub named : mains_in p mains ≡ Some classes
  pub run : IsRunOfMains p classes order limits r
