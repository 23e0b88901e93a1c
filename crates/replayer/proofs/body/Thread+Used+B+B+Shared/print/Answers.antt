use Rattle.bodies.specs.Sharing.{used_bodies}
use Rattle.replayer.proofs.Acting.{has_printed}
use Rattle.replayer.proofs.body.Thread+Used+B+B+Shared.print.Goals as goal

pub returns-clause-stepped : goal.returns-clause-stepped
returns-clause-stepped g c = has_printed c.args.program.now (used_bodies (g.B.Bodies.making c.args.program.now)) c.args.log.now c.args.self.now c.print.new.self c.forget_last.new.self c.args.text c.print.ensures.states c.print.ensures.threads c.in_ok-print.ensures.events c.forget_last.ensures.standing c.requires
