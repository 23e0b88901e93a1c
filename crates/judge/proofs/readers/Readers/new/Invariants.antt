use Rattle.std.proofs.Common.{◌≡◌, map, take}
use Rattle.judge.specs.Judging.{opened}
use Rattle.judge.proofs.readers.Readers.new.Given as goal

abbrev pub invariant-mains : goal.invariant-mains
invariant-mains l = l.of_threads.items ≡ map opened (take l.main-index l.mains)
