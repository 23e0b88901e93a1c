use Rattle.std.proofs.Common.{take}
use Rattle.judge.specs.Judging.{HasJudged}
use Rattle.judge.proofs.check.Given as goal

abbrev pub invariant-events : goal.invariant-events
invariant-events l = HasJudged l.program l.mains l.judge (take l.number l.events)
