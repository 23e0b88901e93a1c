use Rattle.std.proofs.Common.{ap}
use Rattle.replayer.proofs.Touching.{steps_once}
use Rattle.replayer.proofs.used.Used+B+B+Shared.replace.Goals as goal

pub returns-clause-replaces : goal.returns-clause-replaces
returns-clause-replaces g c = steps_once (λ u met v left. (g.B.Bodies.making c.args.program.now).replaces u met c.args.thrown c.in_ok-error.error v left) (ap (λ l. l.state) c.self.view_is) (ap (λ l. l.uses) c.self.view_is) c.of-met.ensures c.in_ok-error.ensures.replaces c.note.ensures.own c.note.ensures.uses
