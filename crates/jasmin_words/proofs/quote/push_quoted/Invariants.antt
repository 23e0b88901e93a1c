use Rattle.std.proofs.Common.{◌∷◌, take}
use Rattle.sequence.specs.Written.{Adds}
use Rattle.jasmin_words.specs.Quoting.{quoted_bytes}
use Rattle.jasmin_words.proofs.quote.push_quoted.Given as goal

abbrev pub invariant-loop-byte : goal.invariant-loop-byte
invariant-loop-byte l = Adds l.fn.text (34 ∷ quoted_bytes (take l.byte-index l.characters)) l.text
