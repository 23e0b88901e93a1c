use Rattle.std.proofs.Common.{take, map}
use Rattle.sequence.specs.Written.{Adds}
use Rattle.jasmin_writer.specs.Canonical.{ended_all, case_line}
use Rattle.jasmin_writer.proofs.write_code.push_case_lines.Given as goal

abbrev pub invariant-loop-case : goal.invariant-loop-case
invariant-loop-case l = Adds l.fn.text (ended_all (map case_line (take l.case-index l.cases))) l.text
