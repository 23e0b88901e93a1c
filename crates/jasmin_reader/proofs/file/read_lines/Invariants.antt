use Rattle.std.proofs.Common.{◌≡◌, ◌+◌, ◌≤◌, length}
use Rattle.jasmin_text.specs.Lines.{lines_of}
use Rattle.jasmin_reader.specs.File.{rest_at, class_at}
use Rattle.jasmin_reader.proofs.file.read_lines.Given as goal

abbrev pub invariant-loop-rest : goal.invariant-loop-rest
invariant-loop-rest l = (rest_at l.last l.reader (lines_of l.rest) ≡ class_at l.bytes) × (l.last + length l.rest ≤ length l.bytes)

abbrev pub decreases-loop-rest : goal.decreases-loop-rest
decreases-loop-rest l = length l.rest
