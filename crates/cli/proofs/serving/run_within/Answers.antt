use Rattle.command_line.specs.CommandLine.{text_of}
use Rattle.cli.proofs.KnownFiles.{keeps_then}
use Rattle.std.proofs.Common.{inr, option_map}
use Rattle.std.proofs.lemmas.Result.{IfErr-weaker}
use Rattle.command_line.specs.CommandLine.{run as run_request, run_words_of}
use Rattle.cli.specs.Refusals.{of_files}
use Rattle.cli.specs.Serving.{file_of}
use Rattle.cli.proofs.CutShort.{read_only, report_cut_before}
use Rattle.cli.proofs.serving.run_within.Goals as goal

pub returns-in-Ok-clause-files : goal.returns-in-Ok-clause-files
returns-in-Ok-clause-files g c =
    keeps_then (file_of (text_of c.args.words.now.trace)) (g.N.Named.held c.args.named.now) (g.N.Named.held c.run_named.new.named) (g.N.Named.held c.report_run.new.named) c.run_named.ensures.files c.report_run.ensures.files

pub returns-in-Err-clause-stopped : goal.returns-in-Err-clause-stopped
returns-in-Err-clause-stopped g c =
    read_only (g.N.Named.held c.args.named.now) (g.N.Named.held c.run_named.new.named) (g.O.Write.contents c.args.out.now) (g.E.Write.contents c.args.err.now) (run_request (run_words_of c.args.words.now)) c.in-Err.fault
    (of_files (option_map (λ all. all.items) c.args.order) c.args.limits c.args.edition c.requires.order c.requires.said c.requires.edition_said c.in-Err.ensures.refused) c.run_named.ensures.files

pub returns-in-Ok-clause-stopped : goal.returns-in-Ok-clause-stopped
returns-in-Ok-clause-stopped g c =
    IfErr-weaker c.report_run.result _ _ (λ f cut. inr (record {
      program = c.in-Ok.ran.program;
      limits = c.args.limits;
      edition = c.args.edition;
      report = c.in-Ok.ran.report;
      edition_said = c.requires.edition_said;
      linked = c.in-Ok.ensures.linked;
      said = c.requires.said;
      ran = c.in-Ok.ensures.ran;
      cut = report_cut_before (g.N.Named.held c.args.named.now) (g.N.Named.held c.run_named.new.named) (g.N.Named.held c.report_run.new.named) (g.O.Write.contents c.args.out.now) (g.O.Write.contents c.report_run.new.out)
          (g.E.Write.contents c.args.err.now) (g.E.Write.contents c.report_run.new.err) (run_words_of c.args.words.now) c.in-Ok.ran.program c.in-Ok.ran.report f c.run_named.ensures.files cut;
    })) c.report_run.ensures.cut

pub returns-in-Err-clause-refused : goal.returns-in-Err-clause-refused
returns-in-Err-clause-refused g c = λ mended. of_files (option_map (λ all. all.items) c.args.order) c.args.limits c.args.edition c.requires.order c.requires.said c.requires.edition_said c.in-Err.ensures.refused
