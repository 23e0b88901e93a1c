use Rattle.bodies.specs.Sharing.{used_bodies}
use Rattle.replayer.proofs.Stepping.{ran, run_allowed, run_files}
use Rattle.replayer.proofs.thread.Thread+Used+B+B+Shared.run_body.Goals as goal

pub returns-clause-stepped : goal.returns-clause-stepped
returns-clause-stepped g c = ran c.args.program.now (used_bodies (g.B.Bodies.making c.args.program.now)) c.args.log.now c.args.self.now c.add.new.self c.run_body.new.self c.start.new.self c.args.class c.requires.next c.requires.before c.run_body.ensures.standing c.start.ensures c.in_ok-add.ensures.threads c.in_ok-add.ensures.log c.in_ok-add.ensures.events c.requires.going

pub add-requires-clause-thread : goal.add-requires-clause-thread
add-requires-clause-thread g c = c.requires.going.number

pub add-requires-clause-log : goal.add-requires-clause-log
add-requires-clause-log g c = c.requires.going.log

pub add-requires-clause-class : goal.add-requires-clause-class
add-requires-clause-class g c = run_files c.args.program.now (used_bodies (g.B.Bodies.making c.args.program.now)) c.args.log.now c.args.self.now c.args.class c.requires.next c.requires.before c.requires.going

pub add-requires-clause-allowed : goal.add-requires-clause-allowed
add-requires-clause-allowed g c = run_allowed c.args.program.now (used_bodies (g.B.Bodies.making c.args.program.now)) c.args.log.now c.args.self.now c.args.class c.requires.next c.requires.before c.requires.going

pub start-requires-clause-class : goal.start-requires-clause-class
start-requires-clause-class g c = run_files c.args.program.now (used_bodies (g.B.Bodies.making c.args.program.now)) c.args.log.now c.args.self.now c.args.class c.requires.next c.requires.before c.requires.going
