use Rattle.std.proofs.Common.{◌≡◌, ◌+◌, length, false}
use Rattle.jasmin_words.specs.Lexing.{raw_len}
use Rattle.jasmin_words.proofs.token.raw_length.Given as goal

abbrev pub invariant-loop-rest : goal.invariant-loop-rest
invariant-loop-rest l = (l.count + raw_len l.escaped l.rest ≡ raw_len false l.bytes) × (l.count + length l.rest ≡ length l.bytes)

abbrev pub decreases-loop-rest : goal.decreases-loop-rest
decreases-loop-rest l = length l.rest
