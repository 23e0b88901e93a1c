use Rattle.std.proofs.Common.{◌<◌, [], rules, subst, sym, ◌+◌, length, take, None}
use Rattle.std.proofs.lemmas.List.{length-map}
use Rattle.clap.specs.Walk.{texts as texts_of}
use Rattle.cli.specs.declared.files.TheConstants.{MOST_FILES}
use Rattle.cli.specs.Files.{AreSpelled}
use Rattle.cli.specs.ReadRefusals.{no_room, too_many}
use Rattle.cli.proofs.KnownFiles.{all_spelled, keeps_all, keeps_then, more_spelled, refused_at}
use Rattle.cli.proofs.files.read_texts.Goals as goal

pub returns-then-files-gt-MOST_FILES-clause-refused : goal.returns-then-files-gt-MOST_FILES-clause-refused
returns-then-files-gt-MOST_FILES-clause-refused g c =
    let many : MOST_FILES < length c.args.files.now = c.if-files-gt-MOST_FILES.true in
    too_many (subst (λ n. MOST_FILES < n) (sym (length-map c.args.files.now (λ s. s.now))) many)

pub returns-then-files-gt-MOST_FILES-clause-files : goal.returns-then-files-gt-MOST_FILES-clause-files
returns-then-files-gt-MOST_FILES-clause-files g c = keeps_all None (g.N.Named.held c.args.named.now)

pub loop-file-init : goal.loop-file-init
loop-file-init g c = (subst (λ items. AreSpelled (g.N.Named.held c.args.named.now) [] items) (sym c.new-texts.ensures.items) tt, keeps_all None (g.N.Named.held c.args.named.now))

pub loop-file-preserved : goal.loop-file-preserved
loop-file-preserved g c =
    let before = g.N.Named.held c.args.named.now in
    let now = g.N.Named.held c.loop-file.named in
    let more = more_spelled before now c.args.files.now c.loop-file.file-index _ c.loop-file.texts.items c.in-Ok.text c.loop-file-test.true
    c.loop-file.invariant.0 c.loop-file.invariant.1 c.in-Ok.ensures.spelled in (
      subst (λ items. AreSpelled before (texts_of (take (c.loop-file.file-index + 1) c.args.files.now)) items) (sym c.in_ok-push.ensures.items) more,
      keeps_then None before now (g.N.Named.held c.read_text.new.named) c.loop-file.invariant.1 c.read_text.ensures.files,
    )

pub returns-in-Err-clause-refused : goal.returns-in-Err-clause-refused
returns-in-Err-clause-refused g c =
    refused_at (g.N.Named.held c.args.named.now) (g.N.Named.held c.loop-file.named) c.args.files.now c.loop-file.file-index _ c.loop-file.texts.items c.in-Err.fault (search rules) c.loop-file-test.true
    c.loop-file.invariant.0 c.loop-file.invariant.1 c.in-Err.ensures.refused

pub returns-in-Err-clause-files : goal.returns-in-Err-clause-files
returns-in-Err-clause-files g c = keeps_then None (g.N.Named.held c.args.named.now) (g.N.Named.held c.loop-file.named) (g.N.Named.held c.read_text.new.named) c.loop-file.invariant.1 c.read_text.ensures.files

pub returns-in_err-push-clause-refused : goal.returns-in_err-push-clause-refused
returns-in_err-push-clause-refused g c = search (rules, no_room)

pub returns-in_err-push-clause-files : goal.returns-in_err-push-clause-files
returns-in_err-push-clause-files g c = keeps_then None (g.N.Named.held c.args.named.now) (g.N.Named.held c.loop-file.named) (g.N.Named.held c.read_text.new.named) c.loop-file.invariant.1 c.read_text.ensures.files

pub returns-clause-classes : goal.returns-clause-classes
returns-clause-classes g c =
    all_spelled (g.N.Named.held c.args.named.now) c.args.files.now c.loop-file.file-index c.loop-file.texts.items (search rules) c.loop-file-test.false c.loop-file.invariant.0

pub returns-clause-files : goal.returns-clause-files
returns-clause-files g c = c.loop-file.invariant.1
