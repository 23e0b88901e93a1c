use Rattle.std.proofs.Common.{◌≡◌, false}
use Rattle.bodies.specs.Sharing.{used_bodies}
use Rattle.replayer.specs.Going.{IsSameThread, Resting}
use Rattle.replayer.specs.Turning.{HasTurned}
use Rattle.replayer.proofs.thread.Thread+Used+B+B+Shared.advance.Given as goal

abbrev pub invariant-turns : goal.invariant-turns
invariant-turns g l = record {
  rests : Resting l.program (used_bodies (g.B.Bodies.making l.program)) l.log l.self;
  log : l.log ≡ l.fn.log;
  same : IsSameThread l.fn.self l.self;
  turned : HasTurned l.fn.self.number l.fn.shared l.shared l.fn.self.bodies.uses l.self.bodies.uses;
  still : l.has_gone_on ≡ false → l.shared ≡ l.fn.shared;
}
