use Rattle.bodies.specs.Sharing.{used_bodies}
use Rattle.std.proofs.Common.{arith, refl}
use Rattle.statics.specs.Statics.{statics_of}
use Rattle.init_core.specs.Interleaving.{of_class}
use Rattle.init_core.proofs.Errors.{decision_done}
use Rattle.replayer.proofs.Stepping.{look_allowed, look_files, look_holds, looked, may_be_told, still_waits}
use Rattle.replayer.proofs.thread.Thread+Used+B+B+Shared.look.Goals as goal

pub advance-requires : goal.advance-requires
advance-requires g c = may_be_told c.args.program.now (used_bodies (g.B.Bodies.making c.args.program.now)) c.args.log.now c.args.self.now c.args.class c.decision-decision.result c.state.result.now c.requires.next (c.state.ensures c.args.program.now c.requires.going.log) c.decision-decision.ensures.first c.requires.going

pub returns-then-waits_again-clause-turn : goal.returns-then-waits_again-clause-turn
returns-then-waits_again-clause-turn g c = (still_waits c.args.program.now (used_bodies (g.B.Bodies.making c.args.program.now)) c.args.log.now c.args.self.now c.args.class c.decision-decision.result c.state.result.now (c.waits_again.ensures.yes c.if-waits_again.true) c.requires.next (c.state.ensures c.args.program.now c.requires.going.log) c.decision-decision.ensures.allowed c.decision-decision.ensures.again c.requires.going tt, refl)

pub returns-clause-turn : goal.returns-clause-turn
returns-clause-turn g c = looked c.args.program.now (used_bodies (g.B.Bodies.making c.args.program.now)) c.args.log.now c.args.self.now c.add.new.self c.advance.new.self c.args.class c.decision-decision.result c.kind.result c.state.result.now c.kind.ensures (c.waits_again.ensures.no c.if-waits_again.false) c.requires.next (c.state.ensures c.args.program.now c.requires.going.log) c.decision-decision.ensures.allowed c.decision-decision.ensures.first c.in_ok-advance.ensures.standing c.in_ok-add.ensures.threads c.in_ok-add.ensures.log c.in_ok-add.ensures.events c.requires.going

pub state-requires : goal.state-requires
state-requires g c =
    let few = look_files c.args.program.now (used_bodies (g.B.Bodies.making c.args.program.now)) c.args.log.now c.args.self.now c.args.class c.requires.next c.requires.going in
    let count = c.requires.going.log.count in
    omega (arith, few, count)

pub decision-decision-requires : goal.decision-decision-requires
decision-decision-requires g c =
    let low = c.requires.going.number in
    let few = c.requires.going.log.few in
    omega (arith, low, few)

pub add-requires-clause-thread : goal.add-requires-clause-thread
add-requires-clause-thread g c = c.requires.going.number

pub add-requires-clause-log : goal.add-requires-clause-log
add-requires-clause-log g c = c.requires.going.log

pub add-requires-clause-class : goal.add-requires-clause-class
add-requires-clause-class g c = look_files c.args.program.now (used_bodies (g.B.Bodies.making c.args.program.now)) c.args.log.now c.args.self.now c.args.class c.requires.next c.requires.going

pub add-requires-clause-allowed : goal.add-requires-clause-allowed
add-requires-clause-allowed g c = look_allowed c.args.program.now (used_bodies (g.B.Bodies.making c.args.program.now)) c.args.log.now c.args.self.now.number c.args.class c.decision-decision.result c.state.result.now c.kind.result c.kind.ensures (c.state.ensures c.args.program.now c.requires.going.log) c.decision-decision.ensures.allowed

pub add-requires-clause-done : goal.add-requires-clause-done
add-requires-clause-done g c = rw c.kind.ensures (decision_done c.args.program.now c.args.class c.decision-decision.result).1

pub add-requires-clause-holds : goal.add-requires-clause-holds
add-requires-clause-holds g c = rw c.kind.ensures (look_holds (statics_of c.args.program.now c.args.class) (of_class c.args.class c.args.log.now.events.items) c.decision-decision.result)
