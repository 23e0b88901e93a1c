use Rattle.cli.specs.CutShort.{no_memory}
use Rattle.cli.proofs.KnownOutput.{keeps_same}
use Rattle.cli.proofs.reporting.tell_outcomes.Goals as goal

pub returns-in-Err-clause-cut : goal.returns-in-Err-clause-cut
returns-in-Err-clause-cut g c = no_memory (keeps_same (g.E.Write.contents c.args.err.now))
