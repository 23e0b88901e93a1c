use Rattle.std.proofs.Common.{◌≡◌, length}
use Rattle.cases.proofs.bench.turns.turns_time.Given as goal

abbrev pub invariant-loop-turn : goal.invariant-loop-turn
invariant-loop-turn g l = record { program : l.world.program ≡ l.program; threads : length l.world.threads ≡ l.threads }
