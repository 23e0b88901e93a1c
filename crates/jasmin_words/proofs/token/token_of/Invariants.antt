use Rattle.std.proofs.Common.{◌≡◌, length}
use Rattle.jasmin_words.specs.Lexing.{token_at}
use Rattle.jasmin_words.proofs.token.token_of.Given as goal

abbrev pub invariant-loop-rest : goal.invariant-loop-rest
invariant-loop-rest l = token_at l.fresh l.rest ≡ token_at l.fn.fresh l.line

abbrev pub decreases-loop-rest : goal.decreases-loop-rest
decreases-loop-rest l = length l.rest
