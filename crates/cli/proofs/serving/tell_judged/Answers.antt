use Rattle.std.proofs.Common.{subst}
use Rattle.clap.specs.Walk.{texts}
use Rattle.command_line.specs.CommandLine.{check as check_request, check_words_of, text_of}
use Rattle.cli.specs.Checking.{IsCheckRefusal}
use Rattle.cli.specs.Refusals.{check_edition, check_files}
use Rattle.cli.proofs.CutShort.{none_begun, read_only}
use Rattle.cli.proofs.serving.tell_judged.Goals as goal

pub returns-in-Err-clause-refused : goal.returns-in-Err-clause-refused
returns-in-Err-clause-refused g c = λ mended. check_edition c.in-Err.ensures.refused

pub returns-in-Err-check_named-clause-refused : goal.returns-in-Err-check_named-clause-refused
returns-in-Err-check_named-clause-refused g c = λ mended.
    check_files c.in-Ok.edition c.in-Ok.ensures.said
    (subst (λ files. IsCheckRefusal (g.N.Named.held c.args.named.now) (texts files) c.in-Ok.edition (text_of c.args.words.now.mains) c.args.words.now.trace.now c.in-Err-check_named.fault) c.deref.ensures.value c.in-Err-check_named.ensures.refused)

pub returns-in-Err-clause-stopped : goal.returns-in-Err-clause-stopped
returns-in-Err-clause-stopped g c = λ errors.
    none_begun (g.N.Named.held c.args.named.now) (g.O.Write.contents c.args.out.now) errors (check_request (check_words_of c.args.words.now)) c.in-Err.fault (check_edition c.in-Err.ensures.refused)

pub returns-in-Err-check_named-clause-stopped : goal.returns-in-Err-check_named-clause-stopped
returns-in-Err-check_named-clause-stopped g c = λ errors.
    read_only (g.N.Named.held c.args.named.now) (g.N.Named.held c.check_named.new.named) (g.O.Write.contents c.args.out.now) errors (check_request (check_words_of c.args.words.now)) c.in-Err-check_named.fault
    (check_files c.in-Ok.edition c.in-Ok.ensures.said
    (subst (λ files. IsCheckRefusal (g.N.Named.held c.args.named.now) (texts files) c.in-Ok.edition (text_of c.args.words.now.mains) c.args.words.now.trace.now c.in-Err-check_named.fault) c.deref.ensures.value c.in-Err-check_named.ensures.refused))
    c.check_named.ensures.files
