-- Why what is asked for isn't done: the first fault, in the order in which faults are looked for, or being out of memory before it.
use Rattle.std.specs.Prelude.{◌≡◌, ◌≢◌, ℕ, List, [], Option, Some, None}
use Rattle.std.specs.Io.KnownBytes.{Appends}
use Rattle.clap.specs.Words.{IsAmong, Text}
use Rattle.clap.specs.declared.error.kind.ErrorKind.{ErrorKind}
use Rattle.clap.specs.declared.error.kind.ErrorKind.TheVariants.{DisplayHelp, DisplayVersion}
use Rattle.bodies.specs.declared.report.Limits.{Limits}
use Rattle.hierarchy.specs.declared.edition.Edition.{Edition}
use Rattle.cli.specs.declared.fault.Fault.{Fault}
use Rattle.cli.specs.declared.fault.Fault.TheVariants.{Code, Memory, Words}
use Rattle.cli.specs.Checking.{IsCheckRefusal}
use Rattle.command_line.specs.CommandLine.{CheckWords, NeedsWords, Options, Request, check, explain, explains_in, faults_in, needs, request_in, run, unfit}
use Rattle.cli.specs.Explained.{explanation_of}
use Rattle.cli.specs.FaultText.{fault_line}
use Rattle.cli.specs.Editions.{IsEditionRefusal, edition_in}
use Rattle.cli.specs.Files.{Files, IsOneFile}
use Rattle.cli.specs.Limits.{AreLimits, IsLimitRefusal}
use Rattle.cli.specs.Orders.{IsOrderRefusal, order_in}
use Rattle.cli.specs.NamedRun.{IsAmongFiles, IsFilesRefusal}
use Rattle.cli.specs.ReadRefusals.{AreUnlinked}
use Rattle.cli.specs.Told.{Tells}
use Rattle.cli.specs.Status.{status_of}

-- of `run`: the trace is a file that is read, under another name; or that of the order, or else of the limits, or else of the edition, or else of the files
pub data IsRunFault (known : Option Files) (words : Options) : Fault → Type 0 where
  of_trace : {trace : Text} → words.trace ≡ Some trace → IsAmongFiles known trace words.files → IsRunFault known words Words
  of_replayed_trace : {trace replay : Text} → words.trace ≡ Some trace → words.replay ≡ Some replay → IsOneFile known trace replay → IsRunFault known words Words
  of_order : {f : Fault} → IsOrderRefusal words.mains words.order f → IsRunFault known words f
  of_limits : {f : Fault} (order : Option (List ℕ)) → order_in words.mains words.order ≡ Some order → IsLimitRefusal words.steps words.patience f → IsRunFault known words f
  of_edition : {f : Fault} (order : Option (List ℕ)) (limits : Limits) → order_in words.mains words.order ≡ Some order → AreLimits words.steps words.patience limits →
      IsEditionRefusal words.edition f → IsRunFault known words f
  of_files : {f : Fault} (order : Option (List ℕ)) (limits : Limits) (edition : Edition) → order_in words.mains words.order ≡ Some order → AreLimits words.steps words.patience limits →
      edition_in words.edition ≡ Some edition → IsFilesRefusal known words edition f → IsRunFault known words f

-- of `check`: that of the edition, or else of the files and the trace
pub data IsCheckFault (known : Option Files) (words : CheckWords) : Fault → Type 0 where
  check_edition : {f : Fault} → IsEditionRefusal words.edition f → IsCheckFault known words f
  check_files : {f : Fault} (edition : Edition) → edition_in words.edition ≡ Some edition → IsCheckRefusal known words.files edition words.mains words.trace f → IsCheckFault known words f

-- of `needs`: that of the edition, or else of the files
pub data IsNeedsFault (known : Option Files) (words : NeedsWords) : Fault → Type 0 where
  needs_edition : {f : Fault} → IsEditionRefusal words.edition f → IsNeedsFault known words f
  needs_files : {f : Fault} (edition : Edition) → edition_in words.edition ≡ Some edition → AreUnlinked known words.files f → IsNeedsFault known words f

-- of `explain`: one of the words is no code
pub data IsExplainFault (names : List Text) : Fault → Type 0 where
  unknown : explanation_of names ≡ None → IsExplainFault names Code
  no_text : IsExplainFault names Memory

abbrev pub IsFaultOf : Option Files → Request → Fault → Type 0
IsFaultOf known (run words) f = IsRunFault known words f
IsFaultOf known (check words) f = IsCheckFault known words f
IsFaultOf known (needs words) f = IsNeedsFault known words f
IsFaultOf known (explain names) f = IsExplainFault names f
IsFaultOf known (unfit explains) f = f ≡ Words

-- what is added to standard error, known before and after, is the line that reports the first fault of what is asked for, whose exit
-- status is 2, and where that is to be explained further words after it
pub record IsRefusedBy (known : Option Files) (errors errors_after : Option (List ℕ)) (request : Request) : Type 0 where
  pub first : Fault
  pub is_first : IsFaultOf known request first
  pub status : status_of first ≡ 2
  pub text : List ℕ
  pub tells : Tells (fault_line first) (explains_in request) text
  pub told : Appends errors errors_after text

-- the words are refused: `clap` finds a fault in them, or they are words of the command line, and what they ask for has a fault
pub data AreWordsRefused (known : Option Files) (errors errors_after : Option (List ℕ)) (words : List Text) : Type 0 where
  wrong_words : (k : ErrorKind) → IsAmong k (faults_in words) → k ≢ DisplayHelp → k ≢ DisplayVersion → AreWordsRefused known errors errors_after words
  faulty : faults_in words ≡ [] → IsRefusedBy known errors errors_after (request_in words) → AreWordsRefused known errors errors_after words
