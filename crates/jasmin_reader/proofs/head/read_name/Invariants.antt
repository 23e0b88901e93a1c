use Rattle.std.proofs.Common.{◌≡◌, length}
use Rattle.jasmin_words.specs.Lexing.{views}
use Rattle.jasmin_reader.specs.Heads.{named_from}
use Rattle.jasmin_reader.proofs.head.read_name.Given as goal

abbrev pub invariant-loop-rest : goal.invariant-loop-rest
invariant-loop-rest l = named_from l.place l.words (views l.rest) ≡ named_from l.place l.fn.words (views l.tokens)

abbrev pub decreases-loop-rest : goal.decreases-loop-rest
decreases-loop-rest l = length l.rest
