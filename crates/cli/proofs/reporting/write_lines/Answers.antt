use Rattle.std.proofs.Common.{rules}
use Rattle.cli.specs.CutShort.{in_text}
use Rattle.cli.proofs.reporting.write_lines.Goals as goal

pub returns-else-is_written-clause-cut : goal.returns-else-is_written-clause-cut
returns-else-is_written-clause-cut g c = in_text (search rules)
