use Rattle.bodies.specs.Sharing.{used_bodies}
use Rattle.std.proofs.Common.{sym}
use Rattle.replayer.proofs.Acting.{left, left_main}
use Rattle.replayer.proofs.body.Thread+Used+B+B+Shared.leave.Goals as goal

pub returns-then-is_running-clause-going : goal.returns-then-is_running-clause-going
returns-then-is_running-clause-going g c = left c.args.program.now (used_bodies (g.B.Bodies.making c.args.program.now)) (λ k s z there ended. g.met.B.Bodies.limits_stay c.args.program.now k s.state z.state there ended.step) c.args.log.now c.args.self.now c.end_body.new.self c.leave.new.self c.args.error c.args.gave_up c.requires.was (sym c.if-is_running.ensures) c.end_body.ensures.standing c.requires.fits c.requires.why c.leave.ensures c.requires.come

pub returns-clause-going : goal.returns-clause-going
returns-clause-going g c = left_main c.args.program.now (used_bodies (g.B.Bodies.making c.args.program.now)) (λ k s z there ended. g.met.B.Bodies.limits_stay c.args.program.now k s.state z.state there ended.step) c.args.log.now c.args.self.now c.leave.new.self c.args.error c.args.gave_up (sym c.if-is_running.ensures) c.requires.fits c.requires.why c.leave.ensures c.requires.come
