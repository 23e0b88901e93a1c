use Rattle.std.proofs.Common.{false, ◌≡◌, ◌++◌, ◌+◌, length}
use Rattle.cli.specs.Outcomes.{outcomes_from, outcomes_text}
use Rattle.cli.proofs.outcomes.write_outcomes.Given as goal

abbrev pub invariant-loop-rest : goal.invariant-loop-rest
invariant-loop-rest l = (l.out.is_lost ≡ false → l.out.text ++ outcomes_from l.program l.thread l.rest ≡ outcomes_text l.program l.outcomes) × (l.thread + length l.rest ≡ length l.outcomes)

abbrev pub decreases-loop-rest : goal.decreases-loop-rest
decreases-loop-rest l = length l.rest
