use Rattle.std.proofs.Common.{◌≡◌, length}
use Rattle.jasmin_words.specs.Lexing.{views}
use Rattle.jasmin_reader.specs.Heads.{has_word}
use Rattle.jasmin_reader.proofs.head.holds_word.Given as goal

abbrev pub invariant-loop-rest : goal.invariant-loop-rest
invariant-loop-rest l = has_word (views l.rest) ≡ has_word (views l.tokens)

abbrev pub decreases-loop-rest : goal.decreases-loop-rest
decreases-loop-rest l = length l.rest
