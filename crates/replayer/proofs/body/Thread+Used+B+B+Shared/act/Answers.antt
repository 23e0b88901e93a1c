use Rattle.std.proofs.Common.{subst}
use Rattle.bodies.specs.Sharing.{used_bodies}
use Rattle.replayer.specs.Going.{IsDoing}
use Rattle.replayer.proofs.Acting.{has_come_on}
use Rattle.replayer.proofs.body.Thread+Used+B+B+Shared.act.Goals as goal

pub use_class-requires : goal.use_class-requires
use_class-requires g c = subst (λ d. IsDoing c.args.program.now (used_bodies (g.B.Bodies.making c.args.program.now)) c.args.log.now d c.args.self.now) c.in-Asks.is c.requires.doing

pub read-requires : goal.read-requires
read-requires g c = subst (λ d. IsDoing c.args.program.now (used_bodies (g.B.Bodies.making c.args.program.now)) c.args.log.now d c.args.self.now) c.in-Gets.is c.requires.doing

pub write-requires : goal.write-requires
write-requires g c = subst (λ d. IsDoing c.args.program.now (used_bodies (g.B.Bodies.making c.args.program.now)) c.args.log.now d c.args.self.now) c.in-Puts.is c.requires.doing

pub print-requires : goal.print-requires
print-requires g c = subst (λ d. IsDoing c.args.program.now (used_bodies (g.B.Bodies.making c.args.program.now)) c.args.log.now d c.args.self.now) c.in-Prints.is c.requires.doing

pub end_body-requires : goal.end_body-requires
end_body-requires g c = subst (λ d. IsDoing c.args.program.now (used_bodies (g.B.Bodies.making c.args.program.now)) c.args.log.now d c.args.self.now) c.in-Over.is c.requires.doing

pub leave-requires-clause-come : goal.leave-requires-clause-come
leave-requires-clause-come g c = has_come_on c.args.program.now (used_bodies (g.B.Bodies.making c.args.program.now)) c.args.log.now c.args.self.now c.args.next c.requires.doing
