use Rattle.std.proofs.Common.{◌≡◌, length}
use Rattle.jasmin_words.specs.Integers.{number_after}
use Rattle.jasmin_words.proofs.integer.number.Given as goal

abbrev pub invariant-loop-rest : goal.invariant-loop-rest
invariant-loop-rest l = number_after l.base l.value l.rest ≡ number_after l.base 0 l.digits

abbrev pub decreases-loop-rest : goal.decreases-loop-rest
decreases-loop-rest l = length l.rest
