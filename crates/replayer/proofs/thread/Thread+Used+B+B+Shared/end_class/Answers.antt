use Rattle.bodies.specs.Sharing.{used_bodies}
use Rattle.std.proofs.Common.{sym, subst}
use Rattle.statics.specs.Statics.{statics_of}
use Rattle.init_core.specs.Interleaving.{of_class}
use Rattle.init_core.specs.ProgramEvents.{IsDoneAt}
use Rattle.replayer.proofs.Stepping.{end_done, end_files, end_holds, end_may, ended}
use Rattle.replayer.proofs.thread.Thread+Used+B+B+Shared.end_class.Goals as goal

pub add-requires-clause-done : goal.add-requires-clause-done
add-requires-clause-done g c = subst (IsDoneAt c.args.program.now c.args.class) (sym c.kind.ensures) (end_done c.args.program.now (used_bodies (g.B.Bodies.making c.args.program.now)) c.args.log.now c.args.self.now c.args.class c.args.ending c.requires.next c.requires.going)

pub returns-clause-stepped : goal.returns-clause-stepped
returns-clause-stepped g c = ended c.args.program.now (used_bodies (g.B.Bodies.making c.args.program.now)) c.args.log.now c.args.self.now c.add.new.self c.end_class.new.self c.args.class c.args.ending c.kind.result c.kind.ensures c.requires.next c.end_class.ensures.standing c.in_ok-add.ensures.threads c.in_ok-add.ensures.log c.in_ok-add.ensures.events c.requires.going

pub add-requires-clause-thread : goal.add-requires-clause-thread
add-requires-clause-thread g c = c.requires.going.number

pub add-requires-clause-log : goal.add-requires-clause-log
add-requires-clause-log g c = c.requires.going.log

pub add-requires-clause-class : goal.add-requires-clause-class
add-requires-clause-class g c = end_files c.args.program.now (used_bodies (g.B.Bodies.making c.args.program.now)) c.args.log.now c.args.self.now c.args.class c.args.ending c.requires.next c.requires.going

pub add-requires-clause-allowed : goal.add-requires-clause-allowed
add-requires-clause-allowed g c = end_may c.args.program.now (used_bodies (g.B.Bodies.making c.args.program.now)) c.args.log.now c.args.self.now c.args.class c.args.ending c.kind.result c.kind.ensures c.requires.next c.requires.going

pub add-requires-clause-holds : goal.add-requires-clause-holds
add-requires-clause-holds g c = rw c.kind.ensures (end_holds (statics_of c.args.program.now c.args.class) (of_class c.args.class c.args.log.now.events.items) c.args.ending)
