use Rattle.std.proofs.Common.{◌≡◌, ◌∙◌, inr, subst, sym}
use Rattle.std.proofs.lemmas.Result.{IfErr-weaker}
use Rattle.clap.specs.Walk.{texts}
use Rattle.cli.specs.Files.{IsLinkedFrom}
use Rattle.cli.specs.ReadRefusals.{AreUnlinked}
use Rattle.cli.specs.Refusals.{needs_edition, needs_files}
use Rattle.cli.proofs.KnownOutput.{keeps_same}
use Rattle.command_line.specs.CommandLine.{needs as needs_request, needs_words_of}
use Rattle.cli.proofs.CutShort.{none_begun, read_only}
use Rattle.cli.proofs.serving.tell_needs.Goals as goal

pub returns-clause-untouched : goal.returns-clause-untouched
returns-clause-untouched g c = IfErr-weaker c.write_needed.result _ _ (λ f refused mended. let no : 3 ≡ 2 = sym refused ∙ mended in cc) c.write_needed.ensures.refused

pub returns-in-Err-link_files-clause-untouched : goal.returns-in-Err-link_files-clause-untouched
returns-in-Err-link_files-clause-untouched g c = λ mended. record { files = c.link_files.ensures.files; output = keeps_same (g.O.Write.contents c.args.out.now) }

pub returns-in-Err-clause-refused : goal.returns-in-Err-clause-refused
returns-in-Err-clause-refused g c = λ mended. needs_edition c.in-Err.ensures.refused

pub returns-in-Err-link_files-clause-refused : goal.returns-in-Err-link_files-clause-refused
returns-in-Err-link_files-clause-refused g c = λ mended.
    needs_files c.in-Ok.edition c.in-Ok.ensures.said (subst (λ files. AreUnlinked (g.N.Named.held c.args.named.now) (texts files) c.in-Err-link_files.fault) c.deref.ensures.value c.in-Err-link_files.ensures.refused)

pub returns-in-Err-clause-stopped : goal.returns-in-Err-clause-stopped
returns-in-Err-clause-stopped g c = λ errors.
    none_begun (g.N.Named.held c.args.named.now) (g.O.Write.contents c.args.out.now) errors (needs_request (needs_words_of c.args.words.now)) c.in-Err.fault (needs_edition c.in-Err.ensures.refused)

pub returns-in-Err-link_files-clause-stopped : goal.returns-in-Err-link_files-clause-stopped
returns-in-Err-link_files-clause-stopped g c = λ errors.
    read_only (g.N.Named.held c.args.named.now) (g.N.Named.held c.link_files.new.named) (g.O.Write.contents c.args.out.now) errors (needs_request (needs_words_of c.args.words.now)) c.in-Err-link_files.fault
    (needs_files c.in-Ok.edition c.in-Ok.ensures.said (subst (λ files. AreUnlinked (g.N.Named.held c.args.named.now) (texts files) c.in-Err-link_files.fault) c.deref.ensures.value c.in-Err-link_files.ensures.refused)) c.link_files.ensures.files

pub returns-clause-stopped : goal.returns-clause-stopped
returns-clause-stopped g c =
    IfErr-weaker c.write_needed.result _ _ (λ f cut errors. inr (record {
      edition = c.in-Ok.edition;
      program = c.in-Ok-link_files.program;
      edition_said = c.in-Ok.ensures.said;
      linked = subst (λ files. IsLinkedFrom (g.N.Named.held c.args.named.now) (texts files) c.in-Ok.edition c.in-Ok-link_files.program) c.deref.ensures.value c.in-Ok-link_files.ensures.linked;
      cut = record { output = cut; files = c.link_files.ensures.files; silent = keeps_same errors };
    })) c.write_needed.ensures.cut
