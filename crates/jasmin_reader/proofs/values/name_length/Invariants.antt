use Rattle.std.proofs.Common.{◌≡◌, ◌+◌, length}
use Rattle.jasmin_text.specs.MemberWords.{name_len}
use Rattle.jasmin_reader.proofs.values.name_length.Given as goal

abbrev pub invariant-loop-rest : goal.invariant-loop-rest
invariant-loop-rest l = (l.count + name_len l.rest ≡ name_len l.word) × (l.count + length l.rest ≡ length l.word)

abbrev pub decreases-loop-rest : goal.decreases-loop-rest
decreases-loop-rest l = length l.rest
