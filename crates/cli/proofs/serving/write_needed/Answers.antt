use Rattle.std.proofs.Common.{rules}
use Rattle.cli.specs.CutShort.{no_memory}
use Rattle.cli.specs.declared.fault.Fault.TheVariants.{Output}
use Rattle.cli.specs.NeedsText.{needs_text}
use Rattle.cli.proofs.CutShort.{cut_in_text}
use Rattle.cli.proofs.KnownOutput.{keeps_same}
use Rattle.cli.proofs.serving.write_needed.Goals as goal

pub returns-in-Ok-clause-cut : goal.returns-in-Ok-clause-cut
returns-in-Ok-clause-cut g c =
    cut_in_text Output (g.O.Write.contents c.args.out.now) (g.O.Write.contents c.write_output.new.out) (needs_text c.args.program.now) c.write_output.result c.write_output.ensures.refused (search rules)

pub returns-in-Err-clause-cut : goal.returns-in-Err-clause-cut
returns-in-Err-clause-cut g c = no_memory (keeps_same (g.O.Write.contents c.args.out.now))
