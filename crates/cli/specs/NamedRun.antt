-- A run of the classes that files spell, as the command line asks for it.
use Rattle.std.specs.Prelude.{◌≡◌, ℕ, List, ◌∷◌, ◌++◌, Option, Some, None, false, length, map}
use Rattle.clap.specs.Words.{Text}
use Rattle.hierarchy.specs.declared.class.ClassId.{ClassId}
use Rattle.hierarchy.specs.declared.edition.Edition.{Edition}
use Rattle.hierarchy.specs.LinkedProgram.{LinkedProgram}
use Rattle.init_core.specs.declared.event.Event.{Event}
use Rattle.bodies.specs.declared.report.Limits.{Limits}
use Rattle.bodies.specs.declared.report.Report.{Report}
use Rattle.command_line.specs.CommandLine.{Options}
use Rattle.cli.specs.declared.fault.Fault.{Fault}
use Rattle.cli.specs.declared.fault.Fault.TheVariants.{Memory, Mains, Order, Threads}
use Rattle.cli.specs.Checking.{IsTraceRefusal, TraceHolds}
use Rattle.cli.specs.Files.{Files, IsLinkedFrom, IsOneFile}
use Rattle.cli.specs.Orders.{is_of_threads, order_in}
use Rattle.cli.specs.ReadRefusals.{AreUnlinked}
use Rattle.cli.specs.Running.{IsRunOfNamed, mains_in}

-- the threads of events, one after the other
abbrev pub threads_of : List Event → List ℕ
threads_of events = map (λ e. e.thread) events

-- the order in which the threads go on, if there is one: what `--order` says, or the threads of the events of the trace that `--replay` names
pub data IsOrder (known : Option Files) (p : LinkedProgram) (words : Options) : Option (List ℕ) → Type 0 where
  said : {order : Option (List ℕ)} → words.replay ≡ None → order_in words.mains words.order ≡ Some order → IsOrder known p words order
  replayed : {name : Text} {classes : List ClassId} {order : Option (List ℕ)} (events : List Event) → words.replay ≡ Some name → mains_in p words.mains ≡ Some classes →
      TraceHolds known name p (length classes) events → order ≡ Some (threads_of events) → IsOrder known p words order

-- the report is of a run of the main classes, in such an order and within these limits
pub record IsRunAsked (known : Option Files) (words : Options) (limits : Limits) (p : LinkedProgram) (r : Report) : Type 0 where
  pub order : Option (List ℕ)
  pub ordered : IsOrder known p words order
  pub ran : IsRunOfNamed words.mains order limits p r

-- why a program isn't run: the first fault, in this order, or being out of memory or of threads
pub data IsRunRefusal (known : Option Files) (p : LinkedProgram) (words : Options) : Fault → Type 0 where
  unnamed : mains_in p words.mains ≡ None → IsRunRefusal known p words Mains
  unreplayed : {name : Text} {classes : List ClassId} {f : Fault} → mains_in p words.mains ≡ Some classes → words.replay ≡ Some name → IsTraceRefusal known name p (length classes) f →
      IsRunRefusal known p words f
  disordered : {classes : List ClassId} {order : Option (List ℕ)} → mains_in p words.mains ≡ Some classes → IsOrder known p words order → is_of_threads (length classes) order ≡ false →
      IsRunRefusal known p words Order
  no_thread : {classes : List ClassId} → mains_in p words.mains ≡ Some classes → IsOrder known p words None → IsRunRefusal known p words Threads
  no_memory : IsRunRefusal known p words Memory

-- why the classes of the files aren't run in this edition: what keeps them from being linked, or else from being run
pub data IsFilesRefusal (known : Option Files) (words : Options) (edition : Edition) : Fault → Type 0 where
  not_linked : {f : Fault} → AreUnlinked known words.files f → IsFilesRefusal known words edition f
  not_run : {p : LinkedProgram} {f : Fault} → IsLinkedFrom known words.files edition p → IsRunRefusal known p words f → IsFilesRefusal known words edition f

-- the name is of one of these files
pub data IsAmongFiles (known : Option Files) (name : Text) (files : List Text) : Type 0 where
  at_file : (before : List Text) (file : Text) (after : List Text) → files ≡ before ++ file ∷ after → IsOneFile known name file → IsAmongFiles known name files
