use Rattle.std.proofs.Common.{◌≡◌, eqb, length}
use Rattle.std.specs.List.{list_any}
use Rattle.trace_reader.proofs.fields.has_colon.Given as goal

abbrev pub invariant-loop-rest : goal.invariant-loop-rest
invariant-loop-rest l = list_any (λ b. eqb b 58) l.rest ≡ list_any (λ b. eqb b 58) l.word

abbrev pub decreases-loop-rest : goal.decreases-loop-rest
decreases-loop-rest l = length l.rest
