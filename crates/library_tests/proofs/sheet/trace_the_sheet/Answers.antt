use Rattle.std.proofs.Common.{rules, arith, ◌≡◌, refl, subst, inl, inr, ℕ, List, [], ◌∷◌, Option, Some, None, codes, false, if◌then◌else◌}
use Rattle.std.specs.Str.{bytes_eq}
use Rattle.clap.specs.Walk.{texts}
use Rattle.clap.specs.Words.{IsAmong, Text}
use Rattle.clap.specs.declared.error.kind.ErrorKind.TheVariants.{DisplayHelp, DisplayVersion}
use Rattle.clap.proofs.OnLiterals.{clap_on_literals}
use Rattle.jasmin_text.specs.Grammar.{Spells}
use Rattle.jasmin_text.specs.Lines.{lines_of}
use Rattle.jasmin_text.specs.declared.class_text.ClassParts.{ClassParts}
use Rattle.hierarchy.specs.declared.edition.Edition.{Edition}
use Rattle.hierarchy.specs.declared.edition.Edition.TheVariants.{Eight}
use Rattle.hierarchy.specs.FirstFault.{LinksAs, LinksTo}
use Rattle.hierarchy.specs.LinkedProgram.{LinkedProgram}
use Rattle.trace.specs.TraceText.{trace_of}
use Rattle.bodies.specs.declared.report.Limits.{Limits}
use Rattle.bodies.specs.declared.report.Report.{Report}
use Rattle.command_line.specs.CommandLine.{Options, bare_line, command_line, faults_in, file_words, flag_named, option_named, request_in, rows_in, run, subcommand_named, with_run_options, with_trace}
use Rattle.cli.specs.Files.{AreSpelled, Files}
use Rattle.cli.specs.Limits.{AreLimits}
use Rattle.cli.specs.NamedRun.{IsOrder, replayed, said}
use Rattle.cli.specs.Running.{IsRunOfNamed}
use Rattle.cli.specs.Serving.{HasRun, IsDone, IsServed, Surroundings, around}
use Rattle.library_tests.proofs.sheet.trace_the_sheet.Goals as goal

abbrev words : List Text
words = codes "jinit" ∷ codes "run" ∷ codes "--mains" ∷ codes "Solo" ∷ codes "--trace" ∷ codes "trace" ∷ codes "sheet" ∷ []

abbrev run_words : Options
run_words = record { mains = Some (codes "Solo"); trace = Some (codes "trace"); order = None; replay = None; steps = None; patience = None; edition = None; explains = false; files = codes "sheet" ∷ [] }

asked : request_in words ≡ run run_words
unfolding clap_on_literals rows_in faults_in command_line bare_line subcommand_named with_trace with_run_options option_named flag_named file_words
asked = refl

no_fault : faults_in words ≡ []
unfolding clap_on_literals rows_in faults_in command_line bare_line subcommand_named with_trace with_run_options option_named flag_named file_words
no_fault = refl

run_done : (before after : Surroundings) (errors errors_after : Option (List ℕ)) (status : ℕ) (ws : List Text) → ws ≡ words → IsDone before after errors errors_after ws status → HasRun before after errors errors_after run_words status
run_done before after errors errors_after status ws same done = go (subst (λ vs. IsDone before after errors errors_after vs status) same done)
  where
    go : IsDone before after errors errors_after words status → HasRun before after errors errors_after run_words status
    go (inl (zero, quiet, inl help)) = absurd (subst (IsAmong DisplayHelp) no_fault help)
    go (inl (zero, quiet, inr version)) = absurd (subst (IsAmong DisplayVersion) no_fault version)
    go (inr d) = subst (λ r. IsServed before after errors errors_after r status) asked d.1

abbrev sheet : List ℕ → List ℕ → Files
sheet class trace name = if bytes_eq name (codes "trace") then Some trace else (if bytes_eq name (codes "sheet") then Some class else None)

abbrev HasItsTrace : List ℕ → List ℕ → Type 0
HasItsTrace old new = (c : ClassParts) × (p : LinkedProgram) × (l : Limits) × (r : Report) × Spells (lines_of old) c
    × LinksTo (c ∷ []) p × AreLimits None None l × IsRunOfNamed (Some (codes "Solo")) None l p r × (new ≡ trace_of p r.events)

some_same : {x y : Option (List ℕ)} → Some x ≡ Some y → y ≡ x
some_same same = cc

-- no edition is said, so it is edition 8
is_eight : {e : Edition} → Some Eight ≡ Some e → e ≡ Eight
is_eight same = cc

-- no order is said, and no trace to replay
no_order : (known : Option Files) (p : LinkedProgram) (order : Option (List ℕ)) → IsOrder known p run_words order → order ≡ None
no_order known p order (said none is) = some_same is
no_order known p order (replayed events is named traced order_is) = cc

on_sheet : (class trace class_after new : List ℕ) (out out' errors errors_after : Option (List ℕ)) (status : ℕ) → HasRun (around (Some (sheet class trace)) out) (around (Some (sheet class_after new)) out') errors errors_after run_words status
    → HasItsTrace class new
on_sheet class trace class_after new out out' errors errors_after status h = go h.linked.texts h.linked.classes.spelled (subst (λ e. LinksAs e h.linked.texts h.program) (is_eight h.edition_said) h.linked.linked)
  where
    go : (classes : List ClassParts) → AreSpelled (Some (sheet class trace)) (codes "sheet" ∷ []) classes → LinksTo classes h.program → HasItsTrace class new
    go [] spelled linked = absurd spelled
    go (c ∷ []) spelled linked = (c, h.program, h.limits, h.report, spelled.0.1, linked, h.said, subst (λ order. IsRunOfNamed (Some (codes "Solo")) order h.limits h.program h.report) (no_order (Some (sheet class trace)) h.program h.ran.order h.ran.ordered) h.ran.ran, h.written.traced)
    go (c ∷ d ∷ ds) spelled linked = absurd spelled.1

pub returns : goal.returns
returns g c = λ zero. on_sheet _ _ _ _ _ _ _ _ _ (run_done _ _ _ _ _ (texts c.as_slice.result.now) (search rules) (c.serve.ensures.done (let z = zero in omega arith)))
