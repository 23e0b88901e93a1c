use Rattle.std.proofs.Common.{subst}
use Rattle.clap.specs.Walk.{texts}
use Rattle.command_line.specs.CommandLine.{run_words_of}
use Rattle.cli.specs.Files.{IsLinkedFrom}
use Rattle.cli.specs.NamedRun.{not_linked, not_run}
use Rattle.cli.specs.ReadRefusals.{AreUnlinked}
use Rattle.cli.proofs.NamedRun.{asked_before, not_run_before}
use Rattle.cli.proofs.running.run_named.Goals as goal

pub returns-in-Err-clause-refused : goal.returns-in-Err-clause-refused
returns-in-Err-clause-refused g c = not_linked (subst (λ files. AreUnlinked (g.N.Named.held c.args.named.now) (texts files) c.in-Err.fault) c.deref.ensures.value c.in-Err.ensures.refused)

pub returns-in-Ok-run_program-clause-ran : goal.returns-in-Ok-run_program-clause-ran
returns-in-Ok-run_program-clause-ran g c =
    asked_before (g.N.Named.held c.args.named.now) (g.N.Named.held c.link_files.new.named) (run_words_of c.args.words.now) c.args.limits c.in-Ok.program c.in-Ok-run_program.report c.link_files.ensures.files c.in-Ok-run_program.ensures.ran

pub returns-clause-refused : goal.returns-clause-refused
returns-clause-refused g c =
    not_run {p = c.in-Ok.program} (subst (λ files. IsLinkedFrom (g.N.Named.held c.args.named.now) (texts files) c.args.edition c.in-Ok.program) c.deref.ensures.value c.in-Ok.ensures.linked)
    (not_run_before (g.N.Named.held c.args.named.now) (g.N.Named.held c.link_files.new.named) c.in-Ok.program (run_words_of c.args.words.now) c.in-Err-run_program.fault c.link_files.ensures.files c.in-Err-run_program.ensures.refused)
