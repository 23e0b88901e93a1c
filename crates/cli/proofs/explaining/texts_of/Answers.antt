use Rattle.std.proofs.Common.{None}
use Rattle.cli.proofs.KnownFiles.{keeps_all, keeps_then}
use Rattle.cli.proofs.explaining.texts_of.Goals as goal

pub loop-file-init : goal.loop-file-init
loop-file-init g c = keeps_all None (g.N.Named.held c.args.named.now)

pub loop-file-preserved : goal.loop-file-preserved
loop-file-preserved g c = keeps_then None (g.N.Named.held c.args.named.now) (g.N.Named.held c.loop-file.named) (g.N.Named.held c.bytes_of-bytes.new.named) c.loop-file.invariant c.bytes_of-bytes.ensures

pub returns-in_err-push : goal.returns-in_err-push
returns-in_err-push g c = keeps_then None (g.N.Named.held c.args.named.now) (g.N.Named.held c.loop-file.named) (g.N.Named.held c.bytes_of-bytes.new.named) c.loop-file.invariant c.bytes_of-bytes.ensures
