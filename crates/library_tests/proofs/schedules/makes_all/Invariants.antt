use Rattle.std.proofs.Common.{◌≡◌, length}
use Rattle.library_tests.proofs.schedules.makes_all.Given as goal

abbrev pub invariant-loop-choice : goal.invariant-loop-choice
invariant-loop-choice l = record { program : l.run.world.program ≡ l.program; threads : length l.run.world.threads ≡ 2 }
