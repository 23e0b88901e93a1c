use Rattle.std.proofs.Common.{◌≡◌, ◌++◌, length}
use Rattle.jasmin_words.specs.Lexing.{views, words_from, words_of}
use Rattle.jasmin_words.proofs.token.all_words.Given as goal

abbrev pub invariant-loop-all : goal.invariant-loop-all
invariant-loop-all l = views l.all.items ++ words_from l.fresh l.rest ≡ words_of l.line

abbrev pub decreases-loop-all : goal.decreases-loop-all
decreases-loop-all l = length l.rest
