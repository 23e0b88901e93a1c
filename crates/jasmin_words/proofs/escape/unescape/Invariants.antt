use Rattle.std.proofs.Common.{◌≡◌, length}
use Rattle.jasmin_words.specs.Escapes.{before, unescaped}
use Rattle.jasmin_words.proofs.escape.unescape.Given as goal

abbrev pub invariant-loop-rest : goal.invariant-loop-rest
invariant-loop-rest l = before l.text.items (unescaped l.rest) ≡ unescaped l.bytes

abbrev pub decreases-loop-rest : goal.decreases-loop-rest
decreases-loop-rest l = length l.rest
