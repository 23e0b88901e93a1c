use Rattle.std.proofs.Common.{ap}
use Rattle.replayer.proofs.Touching.{steps_once}
use Rattle.replayer.proofs.used.Used+B+B+Shared.end.Goals as goal

pub returns-clause-ends : goal.returns-clause-ends
returns-clause-ends g c = steps_once (g.B.Bodies.making c.args.program.now).ends (ap (λ l. l.state) c.self.view_is) (ap (λ l. l.uses) c.self.view_is) c.of-met.ensures c.end.ensures c.note.ensures.own c.note.ensures.uses
