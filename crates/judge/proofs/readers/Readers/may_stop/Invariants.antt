use Rattle.std.proofs.Common.{take}
use Rattle.judge.specs.Judging.{MayAllStop}
use Rattle.judge.proofs.readers.Readers.may_stop.Given as goal

abbrev pub invariant-readers : goal.invariant-readers
invariant-readers l = MayAllStop (take l.reader-index l.reader-items)
