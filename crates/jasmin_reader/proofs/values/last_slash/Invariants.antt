use Rattle.std.proofs.Common.{◌≡◌, ℕ, ◌+◌, ◌<◌, length, Option, Some, None}
use Rattle.std.specs.Prelude.{IfSome}
use Rattle.jasmin_text.specs.MemberWords.{slash_in}
use Rattle.jasmin_reader.proofs.values.last_slash.Given as goal

-- a place in what follows, or the one that was found before
abbrev pub behind : Option ℕ → ℕ → Option ℕ → Option ℕ
behind found place None = found
behind found place (Some n) = Some (place + n)

abbrev pub invariant-loop-rest : goal.invariant-loop-rest
invariant-loop-rest l = (behind l.found l.place (slash_in l.rest) ≡ slash_in l.word) × (l.place + length l.rest ≡ length l.word) × IfSome l.found (λ n. n < l.place)

abbrev pub decreases-loop-rest : goal.decreases-loop-rest
decreases-loop-rest l = length l.rest
