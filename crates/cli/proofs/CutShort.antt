-- What a request that is cut short leaves, put together from its parts.
use Rattle.std.proofs.Common.{◌≡◌, ◌≤◌, ℕ, Bool, true, false, List, [], ◌++◌, Option, None, Result, Ok, Err, arith, if◌then◌else◌, inl, refl, subst, sym}
use Rattle.std.specs.Prelude.{IfErr, OnErr}
use Rattle.std.specs.List.{list_any}
use Rattle.clap.specs.Words.{Text}
use Rattle.hierarchy.specs.LinkedProgram.{LinkedProgram}
use Rattle.bodies.specs.declared.report.Report.{Report}
use Rattle.judge.specs.declared.verdict.Verdict.{Verdict}
use Rattle.judge.specs.declared.verdict.Verdict.TheVariants.{IllegalAt, Legal}
use Rattle.command_line.specs.CommandLine.{Options, Request, check, explain, needs, run, unfit}
use Rattle.cli.specs.declared.fault.Fault.{Fault}
use Rattle.cli.specs.declared.fault.Fault.TheVariants.{Memory, Output}
use Rattle.cli.specs.Checking.{TellsVerdict, status_by, verdict_line}
use Rattle.cli.specs.CutShort.{IsCutShort, IsLineCut, IsReportCut, IsStopped, IsTextCut, IsTraceCut, in_file, in_lines, in_output, in_output_trace, in_text, in_trace, no_memory, unmade, unwritten}
use Rattle.cli.specs.Files.{Files, KeepsAllBut}
use Rattle.cli.specs.Outcomes.{is_abrupt}
use Rattle.cli.specs.Refusals.{IsFaultOf}
use Rattle.cli.specs.Serving.{IsServed, Surroundings, around, trace_after}
use Rattle.cli.specs.Sinks.{AppendsFront}
use Rattle.cli.specs.Status.{status_of}
use Rattle.cli.proofs.KnownFiles.{keeps_all, keeps_then}
use Rattle.cli.proofs.Emitted.{front_of_first, front_then}
use Rattle.cli.proofs.KnownOutput.{appends_kept, keeps_same}
use Rattle.std.specs.Io.KnownBytes.{Appends}

-- a write of a text failed
pub text_cut : (failed f : Fault) (before after : Option (List ℕ)) (text : List ℕ) → f ≡ failed → AppendsFront before after text → IsTextCut failed before after text f
text_cut failed f before after text is front = subst (IsTextCut failed before after text) (sym is) (in_text front)

-- the same, of what a write answers
pub cut_in_text : {T : Type 0} (failed : Fault) (before after : Option (List ℕ)) (text : List ℕ) (r : Result T Fault) → IfErr r (λ f. f ≡ failed) → OnErr r (AppendsFront before after text) → IfErr r (IsTextCut failed before after text)
cut_in_text failed before after text (Ok _) is front = tt
cut_in_text failed before after text (Err f) is front = text_cut failed f before after text is front

-- memory was refused to a text
pub text_unmade : (failed f : Fault) (known : Option (List ℕ)) (text : List ℕ) → f ≡ Memory → IsTextCut failed known known text f
text_unmade failed f known text is = subst (IsTextCut failed known known text) (sym is) (no_memory (keeps_same known))

-- a verdict has a text
pub verdict_unmade : (v : Verdict) (explains : Bool) (f : Fault) (known : Option (List ℕ)) → f ≡ Memory → (text : List ℕ) × TellsVerdict v explains text × IsTextCut Output known known text f
verdict_unmade v explains f known is = (verdict_line v ++ [], ([], refl, λ unasked. refl), text_unmade Output f known (verdict_line v ++ []) is)

-- a write of it failed
pub verdict_cut : {T : Type 0} (v : Verdict) (explains : Bool) (before after : Option (List ℕ)) (text : List ℕ) (r : Result T Fault) → TellsVerdict v explains text → IfErr r (IsTextCut Output before after text)
    → IfErr r (λ f. (told : List ℕ) × TellsVerdict v explains told × IsTextCut Output before after told f)
verdict_cut v explains before after text (Ok done) tells cut = tt
verdict_cut v explains before after text (Err f) tells cut = (text, tells, cut)

-- what keeps the trace from being written ends by status 3
pub trace_status : (trace : Option Text) (files files_after : Option Files) (output output_after : Option (List ℕ)) (text : List ℕ) (f : Fault) → IsTraceCut trace files files_after output output_after text f → status_of f ≡ 3
trace_status trace files files_after output output_after text _ (in_output_trace front kept) = refl
trace_status trace files files_after output output_after text _ (in_file same (unwritten is)) = refl
trace_status trace files files_after output output_after text _ (in_file same (unmade is)) = refl

-- the output of a run failed
pub cut_in_output : (files : Option Files) (output output_after errors : Option (List ℕ)) (words : Options) (program : LinkedProgram) (report : Report) (f : Fault) → f ≡ Output → KeepsAllBut None files files → AppendsFront output output_after report.output
    → IsReportCut (around files output) (around files output_after) errors errors words program report f
cut_in_output files output output_after errors words program report f is kept front =
    subst (IsReportCut (around files output) (around files output_after) errors errors words program report) (sym is)
    (in_output (front_of_first output output_after report.output (trace_after words.trace program report) front) kept (keeps_same errors))

-- its trace failed
pub cut_in_trace : (files files_after : Option Files) (output middle output_after errors : Option (List ℕ)) (words : Options) (program : LinkedProgram) (report : Report) (f : Fault) → Appends output middle report.output
    → IsTraceCut words.trace files files_after middle output_after (trace_after words.trace program report) f → IsReportCut (around files output) (around files_after output_after) errors errors words program report f
cut_in_trace files files_after output middle output_after errors words program report _ whole (in_output_trace front kept) =
    in_output (front_then output middle output_after report.output (trace_after words.trace program report) whole front) kept (keeps_same errors)
cut_in_trace files files_after output middle output_after errors words program report f whole (in_file same why) = in_trace (appends_kept output middle output_after report.output whole same) why (keeps_same errors)

-- files that were read before are as they were
pub report_cut_before : (files middle files_after : Option Files) (output output_after errors errors_after : Option (List ℕ)) (words : Options) (program : LinkedProgram) (report : Report) (f : Fault) → KeepsAllBut None files middle
    → IsReportCut (around middle output) (around files_after output_after) errors errors_after words program report f → IsReportCut (around files output) (around files_after output_after) errors errors_after words program report f
report_cut_before files middle files_after output output_after errors errors_after words program report _ kept (in_output front same silent) = in_output front (keeps_then None files middle files_after kept same) silent
report_cut_before files middle files_after output output_after errors errors_after words program report f kept (in_trace whole why silent) = in_trace whole why silent
report_cut_before files middle files_after output output_after errors errors_after words program report f kept (in_lines written cut) = in_lines (record { output = written.output; traced = written.traced }) cut

-- files were read, and nothing was written
pub read_only : (files files_after : Option Files) (output errors : Option (List ℕ)) (request : Request) (f : Fault) → IsFaultOf files request f → KeepsAllBut None files files_after
    → IsStopped (around files output) (around files_after output) errors errors request f
read_only files files_after output errors request f first kept = inl (record { first = first; untouched = record { files = kept; output = keeps_same output }; silent = keeps_same errors })

-- nothing was read
pub none_begun : (files : Option Files) (output errors : Option (List ℕ)) (request : Request) (f : Fault) → IsFaultOf files request f → IsStopped (around files output) (around files output) errors errors request f
none_begun files output errors request f first = read_only files files output errors request f first (keeps_all None files)

-- what is done ends by status 0 or 1
small_status : (b : Bool) (status : ℕ) → status ≡ (if b then 1 else 0) → status ≤ 1
small_status true status is = let one : status ≡ 1 = is in omega (arith, one)
small_status false status is = let none : status ≡ 0 = is in omega (arith, none)

verdict_status : (v : Verdict) (status : ℕ) → status ≡ status_by v → status ≤ 1
verdict_status Legal status is = let none : status ≡ 0 = is in omega (arith, none)
verdict_status (IllegalAt n r) status is = let one : status ≡ 1 = is in omega (arith, one)

pub served_status : (before after : Surroundings) (errors errors_after : Option (List ℕ)) (request : Request) (status : ℕ) → IsServed before after errors errors_after request status → status ≤ 1
served_status before after errors errors_after (run words) status done = small_status (list_any is_abrupt done.report.outcomes) status done.ended
served_status before after errors errors_after (check words) status done = verdict_status done.verdict status done.ended
served_status before after errors errors_after (needs files) status done = let none : status ≡ 0 = done.0 in omega (arith, none)
served_status before after errors errors_after (explain names) status done = let none : status ≡ 0 = done.0 in omega (arith, none)
served_status before after errors errors_after (unfit explains) status done = absurd done

-- the line of the fault comes last
pub cut_short : (before after : Surroundings) (errors between errors_after : Option (List ℕ)) (request : Request) (f : Fault) → IsStopped before after errors between request f → IsLineCut between errors_after f
    → IsCutShort before after errors errors_after request
cut_short before after errors between errors_after request f stopped line = record { fault = f; errors_then = between; stopped = stopped; line = line }
