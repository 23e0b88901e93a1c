use Rattle.bodies.specs.Sharing.{used_bodies}
use Rattle.replayer.proofs.Acting.{asked}
use Rattle.replayer.proofs.body.Thread+Used+B+B+Shared.use_class.Goals as goal

pub returns-clause-going : goal.returns-clause-going
returns-clause-going g c = asked c.args.program.now (used_bodies (g.B.Bodies.making c.args.program.now)) c.args.log.now c.args.self.now c.request.new.self c.args.class c.in_ok-request.ensures.standing c.requires
