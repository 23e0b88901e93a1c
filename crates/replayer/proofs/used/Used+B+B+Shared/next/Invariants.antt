use Rattle.replayer.specs.Turning.{HasTurned}
use Rattle.replayer.proofs.Touching.{HasTouched}
use Rattle.replayer.proofs.used.Used+B+B+Shared.next.Given as goal

abbrev pub invariant-touches : goal.invariant-touches
invariant-touches g l = record {
  touched : HasTouched l.program (g.B.Bodies.making l.program) l.fn.last l.told l.fn.self l.self;
  turned : HasTurned l.number l.fn.shared l.shared l.fn.self.uses l.self.uses;
}
