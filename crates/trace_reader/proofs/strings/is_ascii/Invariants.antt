use Rattle.std.proofs.Common.{◌≡◌, ◌&&◌, length, nat_lt}
use Rattle.std.specs.List.{list_all}
use Rattle.trace_reader.proofs.strings.is_ascii.Given as goal

abbrev pub invariant-loop-rest : goal.invariant-loop-rest
invariant-loop-rest l = (l.all && list_all (λ b. nat_lt b 128) l.rest) ≡ list_all (λ b. nat_lt b 128) l.bytes

abbrev pub decreases-loop-rest : goal.decreases-loop-rest
decreases-loop-rest l = length l.rest
