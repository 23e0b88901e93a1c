use Rattle.std.proofs.Common.{drop, take, ◌+◌}
use Rattle.clap.specs.Walk.{texts}
use Rattle.cli.specs.NamedRun.{at_file}
use Rattle.cli.proofs.KnownFiles.{split_at}
use Rattle.cli.proofs.serving.is_among.Goals as goal

pub returns-then-is_same : goal.returns-then-is_same
returns-then-is_same g c =
    at_file (texts (take c.loop-file.file-index c.args.files.now)) _ (texts (drop (c.loop-file.file-index + 1) c.args.files.now)) (split_at c.args.files.now c.loop-file.file-index _ c.loop-file-test.true) c.if-is_same.ensures
