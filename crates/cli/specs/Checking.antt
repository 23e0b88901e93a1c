-- A trace in a file, judged against the classes that files spell.
use Rattle.std.specs.Prelude.{◌≡◌, ◌+◌, ◌++◌, ℕ, Bool, List, Option, Some, None, Err, codes, decimal, length, take}
use Rattle.std.specs.Borrow.{Bor}
use Rattle.hierarchy.specs.declared.class.ClassId.{ClassId}
use Rattle.hierarchy.specs.declared.edition.Edition.{Edition}
use Rattle.hierarchy.specs.LinkedProgram.{LinkedProgram}
use Rattle.init_core.specs.declared.event.Event.{Event}
use Rattle.judge.specs.declared.verdict.Rule.{Rule}
use Rattle.judge.specs.declared.verdict.Rule.TheVariants.{Word, Label, Value, End}
use Rattle.judge.specs.declared.verdict.Verdict.{Verdict}
use Rattle.judge.specs.declared.verdict.Verdict.TheVariants.{Legal, IllegalAt}
use Rattle.judge.specs.Verdicts.{IsVerdict}
use Rattle.trace_reader.specs.declared.fault.TraceFault.{TraceFault}
use Rattle.trace_reader.specs.declared.reader.TheConstants.{MOST_BYTES}
use Rattle.trace_reader.specs.TraceEvents.{IsTraceOf}
use Rattle.trace_reader.specs.TraceReading.{events_of}
use Rattle.cli.specs.declared.fault.Fault.{Fault}
use Rattle.cli.specs.declared.fault.Fault.TheVariants as fault
use Rattle.cli.specs.Files.{FileHolds, Files, IsLinkedFrom}
use Rattle.cli.specs.ReadRefusals.{AreUnlinked}
use Rattle.cli.specs.Running.{mains_in}
use Rattle.cli.specs.Told.{Tells}

-- the file's text is the trace of these events, of a program and so many threads
abbrev pub TraceHolds : Option Files → List ℕ → LinkedProgram → ℕ → List Event → Type 0
TraceHolds known file p threads events = FileHolds known file (λ all. IsTraceOf p threads all events)

-- the trace in a file is that of these events, of a program and a thread for each class that the text of `--mains` names, and this is
-- the verdict on them
pub record IsJudgedOf (known : Option Files) (p : LinkedProgram) (mains : Option (List ℕ)) (trace : List ℕ) (classes : List ClassId) (events : List Event) (verdict : Verdict) : Type 0 where
  pub named : mains_in p mains ≡ Some classes
  pub traced : TraceHolds known trace p (length classes) events
  pub judged : IsVerdict p classes events verdict

-- and the program is linked from the classes that the files spell, in this edition
pub record IsJudged (known : Option Files) (files : List (List ℕ)) (edition : Edition) (mains : Option (List ℕ)) (trace : List ℕ) (p : LinkedProgram) (classes : List ClassId) (events : List Event) (verdict : Verdict) : Type 0 where
  pub linked : IsLinkedFrom known files edition p
  pub of_program : IsJudgedOf known p mains trace classes events verdict

-- Why a file's trace isn't had: the file can't be had, or has this fault as its first, of which what lies further than a byte
-- past 64 MiB says nothing; or memory runs out.
pub data IsTraceRefusal (known : Option Files) (file : List ℕ) (p : LinkedProgram) (threads : ℕ) : Fault → Type 0 where
  unread : {name : Bor (List ℕ)} → name.now ≡ file → IsTraceRefusal known file p threads (fault.Io name)
  faulty : {name : Bor (List ℕ)} {f : TraceFault} → name.now ≡ file → FileHolds known file (λ all. events_of p threads (take (MOST_BYTES + 1) all) ≡ Err f) →
      IsTraceRefusal known file p threads (fault.Trace name f)
  no_room : IsTraceRefusal known file p threads fault.Memory

-- why a trace isn't judged against a program: the first fault, in this order, or being out of memory
pub data IsJudgeRefusal (known : Option Files) (p : LinkedProgram) (mains : Option (List ℕ)) (trace : List ℕ) : Fault → Type 0 where
  no_mains : mains_in p mains ≡ None → IsJudgeRefusal known p mains trace fault.Mains
  no_trace : {classes : List ClassId} {f : Fault} → mains_in p mains ≡ Some classes → IsTraceRefusal known trace p (length classes) f → IsJudgeRefusal known p mains trace f
  no_memory : IsJudgeRefusal known p mains trace fault.Memory

-- the same, where the program comes from files, in this edition
pub data IsCheckRefusal (known : Option Files) (files : List (List ℕ)) (edition : Edition) (mains : Option (List ℕ)) (trace : List ℕ) : Fault → Type 0 where
  no_program : {f : Fault} → AreUnlinked known files f → IsCheckRefusal known files edition mains trace f
  not_judged : {p : LinkedProgram} {f : Fault} → IsLinkedFrom known files edition p → IsJudgeRefusal known p mains trace f → IsCheckRefusal known files edition mains trace f

abbrev pub rule_text : Rule → List ℕ
rule_text Word = codes "word"
rule_text Label = codes "label"
rule_text Value = codes "value"
rule_text End = codes "end"

-- legal, or illegal at <n>: <rule>
abbrev pub verdict_line : Verdict → List ℕ
verdict_line Legal = codes "legal\n"
verdict_line (IllegalAt n r) = codes "illegal at " ++ decimal n ++ codes ": " ++ rule_text r ++ codes "\n"

-- the line of the verdict alone, or further words after it where it is to be explained
abbrev pub TellsVerdict : Verdict → Bool → List ℕ → Type 0
TellsVerdict v explains text = Tells (verdict_line v) explains text

-- 0 where it is legal, else 1
abbrev pub status_by : Verdict → ℕ
status_by Legal = 0
status_by (IllegalAt n r) = 1
