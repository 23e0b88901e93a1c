use Rattle.std.proofs.Common.{◌≡◌, ◌+◌, length}
use Rattle.jasmin_text.specs.Lines.{line_len}
use Rattle.jasmin_reader.proofs.file.line_length.Given as goal

abbrev pub invariant-loop-rest : goal.invariant-loop-rest
invariant-loop-rest l = (l.count + line_len l.rest ≡ line_len l.bytes) × (l.count + length l.rest ≡ length l.bytes)

abbrev pub decreases-loop-rest : goal.decreases-loop-rest
decreases-loop-rest l = length l.rest
