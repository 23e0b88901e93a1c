use Rattle.std.proofs.Common.{◌≡◌, length}
use Rattle.std.specs.Str.{bytes_eq}
use Rattle.trace_reader.proofs.words.same.Given as goal

abbrev pub invariant-loop-rest : goal.invariant-loop-rest
invariant-loop-rest l = bytes_eq l.rest l.wanted ≡ bytes_eq l.word l.other

abbrev pub decreases-loop-rest : goal.decreases-loop-rest
decreases-loop-rest l = length l.rest
