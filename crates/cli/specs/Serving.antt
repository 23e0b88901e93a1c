-- What the program does, where it is known what files hold and what was written to its output.
use Rattle.std.specs.Prelude.{◌≡◌, ◌⊎◌, ◌&&◌, ◌||◌, ◌++◌, ℕ, Bool, true, false, List, [], Option, Some, None, IfSome, codes, if◌then◌else◌, is_some, length, nat_lt}
use Rattle.std.specs.Str.{bytes_eq}
use Rattle.std.specs.Io.KnownBytes.{Appends, Keeps}
use Rattle.clap.specs.Words.{IsAmong, Text}
use Rattle.clap.specs.declared.error.kind.ErrorKind.TheVariants.{DisplayHelp, DisplayVersion}
use Rattle.hierarchy.specs.declared.edition.Edition.{Edition}
use Rattle.hierarchy.specs.LinkedProgram.{LinkedProgram}
use Rattle.trace.specs.TraceText.{trace_of}
use Rattle.bodies.specs.declared.report.Limits.{Limits}
use Rattle.bodies.specs.declared.report.Report.{Report}
use Rattle.hierarchy.specs.declared.class.ClassId.{ClassId}
use Rattle.init_core.specs.declared.event.Event.{Event}
use Rattle.judge.specs.declared.verdict.Verdict.{Verdict}
use Rattle.cli.specs.Checking.{IsJudged, TellsVerdict, status_by}
use Rattle.command_line.specs.CommandLine.{CheckWords, NeedsWords, Options, Request, check, explain, faults_in, needs, request_in, run, unfit}
use Rattle.trace_reader.specs.declared.reader.TheConstants.{MOST_BYTES, MOST_LINES}
use Rattle.cli.specs.Editions.{edition_in}
use Rattle.cli.specs.Explained.{explanation_of}
use Rattle.cli.specs.Files.{FileHolds, Files, IsLinkedFrom, KeepsAllBut}
use Rattle.cli.specs.Limits.{AreLimits}
use Rattle.cli.specs.NeedsText.{needs_text}
use Rattle.cli.specs.Outcomes.{outcomes_text, status_after}
use Rattle.cli.specs.NamedRun.{IsRunAsked}

-- the files, and what was written to the output, where they are known
pub record Surroundings : Type 0 where
  pub files : Option Files
  pub output : Option (List ℕ)

abbrev pub around : Option Files → Option (List ℕ) → Surroundings
around files output = record { files = files; output = output }

-- the name of standard output
abbrev pub is_standard_output : Text → Bool
is_standard_output name = bytes_eq name (codes "-")

-- the file that a trace is asked into, where it isn't standard output
abbrev pub file_of : Option Text → Option Text
file_of None = None
file_of (Some name) = if is_standard_output name then None else Some name

-- what comes after the output of a run: its trace, where that is asked for there
abbrev pub trace_after : Option Text → LinkedProgram → Report → List ℕ
trace_after None program report = []
trace_after (Some name) program report = if is_standard_output name then trace_of program report.events else []

-- the output of a run was written, and its trace after it or into the file that is named for it
pub record HasWritten (before after : Surroundings) (trace : Option Text) (program : LinkedProgram) (report : Report) : Type 0 where
  pub output : Appends before.output after.output (report.output ++ trace_after trace program report)
  pub traced : IfSome (file_of trace) (λ name. FileHolds after.files name (λ bytes. bytes ≡ trace_of program report.events))

-- whether a trace has more than is read of one: 1,000,000 lines, or 64 MiB
abbrev pub is_too_large : LinkedProgram → Report → Bool
is_too_large program report = nat_lt MOST_LINES (length report.events) || nat_lt MOST_BYTES (length (trace_of program report.events))

-- the lines of the threads, and where that is to be noted that the trace is too large to be read
abbrev pub lines_with : Bool → LinkedProgram → Report → List ℕ
lines_with false program report = outcomes_text program report.outcomes
lines_with true program report = outcomes_text program report.outcomes ++ codes "the trace has more than check and --replay read: 1000000 lines or 64 MiB\n"

-- which is noted where faults are to be explained
abbrev pub lines_of_run : Options → LinkedProgram → Report → List ℕ
lines_of_run words program report = lines_with (words.explains && (is_some words.trace && is_too_large program report)) program report

-- The classes that the files spell were linked, in the edition that is said, and the main classes were run, in the order and within the limits. The output is
-- that of the run, the trace, where one is asked for, is after it or in its file, and standard error, known before and after, and the
-- status tell how the threads ended.
pub record HasRun (before after : Surroundings) (errors errors_after : Option (List ℕ)) (words : Options) (status : ℕ) : Type 0 where
  pub program : LinkedProgram
  pub limits : Limits
  pub edition : Edition
  pub report : Report
  pub edition_said : edition_in words.edition ≡ Some edition
  pub linked : IsLinkedFrom before.files words.files edition program
  pub said : AreLimits words.steps words.patience limits
  pub ran : IsRunAsked before.files words limits program report
  pub written : HasWritten before after words.trace program report
  pub told : Appends errors errors_after (lines_of_run words program report)
  pub ended : status ≡ status_after report.outcomes

-- the classes that the files spell were linked, in the edition that is said, and what each needs was written
pub record HasToldNeeds (before after : Surroundings) (words : NeedsWords) : Type 0 where
  pub edition : Edition
  pub program : LinkedProgram
  pub edition_said : edition_in words.edition ≡ Some edition
  pub linked : IsLinkedFrom before.files words.files edition program
  pub output : Appends before.output after.output (needs_text program)

-- the verdict was written, and where it is to be explained further words
abbrev pub HasToldVerdict : Option (List ℕ) → Option (List ℕ) → Verdict → Bool → Type 0
HasToldVerdict before after v explains = (text : List ℕ) × TellsVerdict v explains text × Appends before after text

-- the trace was judged against the classes that the files spell, in the edition that is said, and the verdict was written
pub record IsToldVerdict (before after : Surroundings) (words : CheckWords) (verdict : Verdict) : Type 0 where
  pub edition : Edition
  pub program : LinkedProgram
  pub classes : List ClassId
  pub events : List Event
  pub edition_said : edition_in words.edition ≡ Some edition
  pub judged : IsJudged before.files words.files edition words.mains words.trace program classes events verdict
  pub told : HasToldVerdict before.output after.output verdict words.explains

-- so it was, with nothing on standard error, and the status tells the verdict too
pub record HasChecked (before after : Surroundings) (errors errors_after : Option (List ℕ)) (words : CheckWords) (status : ℕ) : Type 0 where
  pub verdict : Verdict
  pub written : IsToldVerdict before after words verdict
  pub quiet : Keeps errors errors_after
  pub ended : status ≡ status_by verdict

-- what is said of these codes was written
pub record HasExplained (before after : Option (List ℕ)) (names : List Text) : Type 0 where
  pub text : List ℕ
  pub said : explanation_of names ≡ Some text
  pub output : Appends before after text

-- what was asked for is done, with this exit status
abbrev pub IsServed : Surroundings → Surroundings → Option (List ℕ) → Option (List ℕ) → Request → ℕ → Type 0
IsServed before after errors errors_after (run words) status = HasRun before after errors errors_after words status
IsServed before after errors errors_after (check words) status = HasChecked before after errors errors_after words status
IsServed before after errors errors_after (needs words) status = (status ≡ 0) × Keeps errors errors_after × HasToldNeeds before after words
IsServed before after errors errors_after (explain names) status = (status ≡ 0) × Keeps errors errors_after × HasExplained before.output after.output names
IsServed before after errors errors_after (unfit explains) status = ⊥

-- the words ask for help or for the version, or they are words of the command line and what they ask for is done
abbrev pub IsDone : Surroundings → Surroundings → Option (List ℕ) → Option (List ℕ) → List Text → ℕ → Type 0
IsDone before after errors errors_after words status = ((status ≡ 0) × Keeps errors errors_after × (IsAmong DisplayHelp (faults_in words) ⊎ IsAmong DisplayVersion (faults_in words)))
    ⊎ ((faults_in words ≡ []) × IsServed before after errors errors_after (request_in words) status)

-- no file was written, and nothing to the output
pub record IsUntouched (before after : Surroundings) : Type 0 where
  pub files : KeepsAllBut None before.files after.files
  pub output : Keeps before.output after.output

-- the file that a trace is asked into
abbrev pub trace_in : Request → Option Text
trace_in (run words) = file_of words.trace
trace_in request = None
