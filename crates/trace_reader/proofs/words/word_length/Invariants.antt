use Rattle.std.proofs.Common.{◌≡◌, ◌+◌, length}
use Rattle.trace_reader.specs.Words.{word_len}
use Rattle.trace_reader.proofs.words.word_length.Given as goal

abbrev pub invariant-loop-rest : goal.invariant-loop-rest
invariant-loop-rest l = (l.count + word_len l.rest ≡ word_len l.bytes) × (l.count + length l.rest ≡ length l.bytes)

abbrev pub decreases-loop-rest : goal.decreases-loop-rest
decreases-loop-rest l = length l.rest
