-- What there is at exit status 3: each stream holds a front of what it was to hold, and nothing follows the one that failed.
use Rattle.std.specs.Prelude.{◌≡◌, ◌≢◌, ◌⊎◌, ◌++◌, ℕ, List, [], Option, Some, None}
use Rattle.std.specs.Borrow.{Bor}
use Rattle.std.specs.Io.KnownBytes.{Appends, Keeps}
use Rattle.clap.specs.Words.{IsAmong, Text}
use Rattle.clap.specs.declared.error.kind.ErrorKind.{ErrorKind}
use Rattle.clap.specs.declared.error.kind.ErrorKind.TheVariants.{DisplayHelp, DisplayVersion, OutOfMemory}
use Rattle.hierarchy.specs.LinkedProgram.{LinkedProgram}
use Rattle.hierarchy.specs.declared.edition.Edition.{Edition}
use Rattle.bodies.specs.declared.report.Limits.{Limits}
use Rattle.bodies.specs.declared.report.Report.{Report}
use Rattle.hierarchy.specs.declared.class.ClassId.{ClassId}
use Rattle.init_core.specs.declared.event.Event.{Event}
use Rattle.judge.specs.declared.verdict.Verdict.{Verdict}
use Rattle.cli.specs.declared.fault.Fault.{Fault}
use Rattle.cli.specs.declared.fault.Fault.TheVariants.{Io, Lines, Memory, Output}
use Rattle.cli.specs.Checking.{IsJudged, TellsVerdict}
use Rattle.command_line.specs.CommandLine.{CheckWords, NeedsWords, Options, Request, check, explain, faults_in, needs, request_in, run, unfit}
use Rattle.cli.specs.Editions.{edition_in}
use Rattle.cli.specs.Explained.{explanation_of}
use Rattle.cli.specs.FaultText.{fault_line}
use Rattle.cli.specs.Files.{Files, IsLinkedFrom, KeepsAllBut}
use Rattle.cli.specs.Limits.{AreLimits}
use Rattle.cli.specs.NeedsText.{needs_text}
use Rattle.cli.specs.Refusals.{IsFaultOf}
use Rattle.cli.specs.NamedRun.{IsRunAsked}
use Rattle.cli.specs.Serving.{HasWritten, IsUntouched, Surroundings, file_of, lines_of_run, trace_after}
use Rattle.cli.specs.Sinks.{AppendsFront, AppendsShort}
use Rattle.cli.specs.Status.{status_of}

-- nothing was written, and this fault is the first of what is asked for
pub record IsNotBegun (before after : Surroundings) (errors errors_after : Option (List ℕ)) (request : Request) (f : Fault) : Type 0 where
  pub first : IsFaultOf before.files request f
  pub untouched : IsUntouched before after
  pub silent : Keeps errors errors_after

-- memory was refused to a text that was to be written, or of the text a front was written, and this fault says that a write of it failed
pub data IsTextCut (failed : Fault) (before after : Option (List ℕ)) (text : List ℕ) : Fault → Type 0 where
  no_memory : Keeps before after → IsTextCut failed before after text Memory
  in_text : AppendsFront before after text → IsTextCut failed before after text failed

-- the trace file can't be written, or memory was refused to the trace
pub data IsTraceFault (trace : Option Text) : Fault → Type 0 where
  unwritten : {name : Bor (List ℕ)} → file_of trace ≡ Some name.now → IsTraceFault trace (Io name)
  unmade : {name : Text} → trace ≡ Some name → IsTraceFault trace Memory

-- how far a trace was written to the output, or why it isn't written whole to its file
pub data IsTraceCut (trace : Option Text) (files files_after : Option Files) (output output_after : Option (List ℕ)) (text : List ℕ) : Fault → Type 0 where
  in_output_trace : AppendsFront output output_after text → KeepsAllBut None files files_after → IsTraceCut trace files files_after output output_after text Output
  in_file : {f : Fault} → Keeps output output_after → IsTraceFault trace f → IsTraceCut trace files files_after output output_after text f

-- how far a run was reported: the output comes first, then the trace, then the lines of the threads on standard error
pub data IsReportCut (before after : Surroundings) (errors errors_after : Option (List ℕ)) (words : Options) (program : LinkedProgram) (report : Report) : Fault → Type 0 where
  in_output : AppendsFront before.output after.output (report.output ++ trace_after words.trace program report) → KeepsAllBut None before.files after.files → Keeps errors errors_after →
      IsReportCut before after errors errors_after words program report Output
  in_trace : {f : Fault} → Appends before.output after.output report.output → IsTraceFault words.trace f → Keeps errors errors_after →
      IsReportCut before after errors errors_after words program report f
  in_lines : {f : Fault} → HasWritten before after words.trace program report → IsTextCut Lines errors errors_after (lines_of_run words program report) f →
      IsReportCut before after errors errors_after words program report f

-- the classes that the files spell were linked, in the edition that is said, the main classes were run, and the run was reported so far
pub record IsRunCut (before after : Surroundings) (errors errors_after : Option (List ℕ)) (words : Options) (f : Fault) : Type 0 where
  pub program : LinkedProgram
  pub limits : Limits
  pub edition : Edition
  pub report : Report
  pub edition_said : edition_in words.edition ≡ Some edition
  pub linked : IsLinkedFrom before.files words.files edition program
  pub said : AreLimits words.steps words.patience limits
  pub ran : IsRunAsked before.files words limits program report
  pub cut : IsReportCut before after errors errors_after words program report f

-- a text was written to the output so far, and nothing else
pub record IsOutputCut (before after : Surroundings) (errors errors_after : Option (List ℕ)) (text : List ℕ) (f : Fault) : Type 0 where
  pub output : IsTextCut Output before.output after.output text f
  pub files : KeepsAllBut None before.files after.files
  pub silent : Keeps errors errors_after

-- the trace was judged against the classes that the files spell, in the edition that is said, and the verdict, with the words that explain it, was written so far
pub record IsCheckCut (before after : Surroundings) (errors errors_after : Option (List ℕ)) (words : CheckWords) (f : Fault) : Type 0 where
  pub edition : Edition
  pub program : LinkedProgram
  pub classes : List ClassId
  pub events : List Event
  pub verdict : Verdict
  pub text : List ℕ
  pub edition_said : edition_in words.edition ≡ Some edition
  pub judged : IsJudged before.files words.files edition words.mains words.trace program classes events verdict
  pub told : TellsVerdict verdict words.explains text
  pub cut : IsOutputCut before after errors errors_after text f

-- the classes that the files spell were linked, in the edition that is said, and what each needs was written so far
pub record IsNeedsCut (before after : Surroundings) (errors errors_after : Option (List ℕ)) (words : NeedsWords) (f : Fault) : Type 0 where
  pub edition : Edition
  pub program : LinkedProgram
  pub edition_said : edition_in words.edition ≡ Some edition
  pub linked : IsLinkedFrom before.files words.files edition program
  pub cut : IsOutputCut before after errors errors_after (needs_text program) f

-- what is said of these codes was written so far
pub record IsExplainCut (before after : Surroundings) (errors errors_after : Option (List ℕ)) (names : List Text) (f : Fault) : Type 0 where
  pub text : List ℕ
  pub said : explanation_of names ≡ Some text
  pub cut : IsOutputCut before after errors errors_after text f

-- what is asked for was done, and written so far
abbrev pub IsCutIn : Surroundings → Surroundings → Option (List ℕ) → Option (List ℕ) → Request → Fault → Type 0
IsCutIn before after errors errors_after (run words) f = IsRunCut before after errors errors_after words f
IsCutIn before after errors errors_after (check words) f = IsCheckCut before after errors errors_after words f
IsCutIn before after errors errors_after (needs words) f = IsNeedsCut before after errors errors_after words f
IsCutIn before after errors errors_after (explain names) f = IsExplainCut before after errors errors_after names f
IsCutIn before after errors errors_after (unfit explains) f = ⊥

-- what was written when this fault came up: nothing, or what is asked for so far
abbrev pub IsStopped : Surroundings → Surroundings → Option (List ℕ) → Option (List ℕ) → Request → Fault → Type 0
IsStopped before after errors errors_after request f = IsNotBegun before after errors errors_after request f ⊎ IsCutIn before after errors errors_after request f

-- the line of a fault that ends by status 3 was written so far, or that of any fault wasn't written whole
pub data IsLineCut (before after : Option (List ℕ)) (f : Fault) : Type 0 where
  of_refused : status_of f ≡ 3 → AppendsFront before after (fault_line f) → IsLineCut before after f
  untold : AppendsShort before after (fault_line f) → IsLineCut before after f

-- the request was stopped by a fault, of whose line just so much was added to standard error, as it was then, and nothing else
pub record IsCutShort (before after : Surroundings) (errors errors_after : Option (List ℕ)) (request : Request) : Type 0 where
  pub fault : Fault
  pub errors_then : Option (List ℕ)
  pub stopped : IsStopped before after errors errors_then request fault
  pub line : IsLineCut errors_then errors_after fault

-- What `clap` answers to the words wasn't told, by its kind: memory was refused; or the help or the version wasn't shown; or what is
-- wrong with the words wasn't told. No front of `clap`'s own texts is promised.
pub data IsClapCut (output output_after errors errors_after : Option (List ℕ)) : ErrorKind → Type 0 where
  unread : {k : ErrorKind} → k ≡ OutOfMemory → Keeps output output_after → AppendsFront errors errors_after (fault_line Memory) → IsClapCut output output_after errors errors_after k
  unshown : {k : ErrorKind} → (k ≡ DisplayHelp) ⊎ (k ≡ DisplayVersion) → AppendsFront errors errors_after (fault_line Output) → IsClapCut output output_after errors errors_after k
  untold : {k : ErrorKind} → k ≢ OutOfMemory → k ≢ DisplayHelp → k ≢ DisplayVersion → Keeps output output_after → IsClapCut output output_after errors errors_after k

-- the words were cut short: what `clap` answers to them wasn't told, or they are words of the command line, and what they ask for was cut short
pub data AreWordsCut (before after : Surroundings) (errors errors_after : Option (List ℕ)) (words : List Text) : Type 0 where
  in_words : (k : ErrorKind) → (k ≡ OutOfMemory) ⊎ IsAmong k (faults_in words) → KeepsAllBut None before.files after.files →
      IsClapCut before.output after.output errors errors_after k → AreWordsCut before after errors errors_after words
  in_request : faults_in words ≡ [] → IsCutShort before after errors errors_after (request_in words) → AreWordsCut before after errors errors_after words
