use Rattle.bodies.specs.Sharing.{used_bodies}
use Rattle.std.proofs.Common.{rules, ap, sym, ◌∙◌}
use Rattle.replayer.specs.OrderedRun.{WaitsAt}
use Rattle.replayer.specs.Turning.{TurnsWith}
use Rattle.replayer.proofs.Acting.{before_main, by_event, ends_still, looks_still, main_rests, no_wait_by, no_wait_event, runs_still, turn_done}
use Rattle.replayer.proofs.Stepping.{class_body}
use Rattle.replayer.proofs.Turned.{none_turned}
use Rattle.replayer.proofs.thread.Thread+Used+B+B+Shared.turn.Goals as goal

pub go_on-requires-clause-body : goal.go_on-requires-clause-body
go_on-requires-clause-body g c = main_rests c.args.program.now (used_bodies (g.B.Bodies.making c.args.program.now)) c.args.log.now c.args.self.now (sym c.next.ensures ∙ c.in-Idle.is) c.if-self.true c.requires.resting

pub enter_main-requires-clause-going : goal.enter_main-requires-clause-going
enter_main-requires-clause-going g c = before_main c.args.program.now (used_bodies (g.B.Bodies.making c.args.program.now)) c.args.log.now c.args.self.now c.if-self.false (sym c.next.ensures ∙ c.in-Idle.is) c.requires.resting

pub look-requires-clause-going : goal.look-requires-clause-going
look-requires-clause-going g c = looks_still c.args.program.now (used_bodies (g.B.Bodies.making c.args.program.now)) c.args.log.now c.args.self.now c.in-Look.class (sym c.next.ensures ∙ c.in-Look.is) c.requires.resting

pub go_on-requires-then-is_running-clause-body : goal.go_on-requires-then-is_running-clause-body
go_on-requires-then-is_running-clause-body g c = class_body c.args.program.now (used_bodies (g.B.Bodies.making c.args.program.now)) c.args.self.now (sym c.is_running.ensures ∙ c.if-is_running.true)

pub run_body-requires-clause-going : goal.run_body-requires-clause-going
run_body-requires-clause-going g c = runs_still c.args.program.now (used_bodies (g.B.Bodies.making c.args.program.now)) c.args.log.now c.args.self.now c.in-Body.class (sym c.next.ensures ∙ c.in-Body.is) (sym c.is_running.ensures ∙ c.if-is_running.false) c.requires.resting

pub end_class-requires-clause-going : goal.end_class-requires-clause-going
end_class-requires-clause-going g c = ends_still c.args.program.now (used_bodies (g.B.Bodies.making c.args.program.now)) c.args.log.now c.args.self.now c.in-End.class c.in-End.ending (sym c.next.ensures ∙ c.in-End.is) c.requires.resting

pub returns-else-self-clause-turn : goal.returns-else-self-clause-turn
returns-else-self-clause-turn g c = turn_done c.args.program.now (used_bodies (g.B.Bodies.making c.args.program.now)) (WaitsAt (g.B.Bodies.making c.args.program.now) c.args.shared.now.state) c.args.log.now c.args.self.now c.enter_main.new.self c.turn_of.result c.enter_main.result c.turn_of.ensures c.enter_main.ensures.going

pub returns-else-self-clause-still : goal.returns-else-self-clause-still
returns-else-self-clause-still g c = no_wait_by c.turn_of.result c.enter_main.result c.turn_of.ensures

pub returns-else-is_running-clause-turn : goal.returns-else-is_running-clause-turn
returns-else-is_running-clause-turn g c = by_event (TurnsWith c.args.program.now (g.B.Bodies.making c.args.program.now) c.args.shared.now.state c.args.log.now c.args.self.now c.run_body.new.log c.run_body.new.self) c.run_body.result c.event_of.result c.event_of.ensures c.run_body.ensures.stepped

pub returns-else-is_running-clause-turned : goal.returns-else-is_running-clause-turned
returns-else-is_running-clause-turned g c =
    let turned = none_turned c.args.self.now.number c.args.shared.now c.args.self.now.bodies.uses c.run_body.new.self.bodies.uses c.run_body.ensures.uses in
    search (rules, turned)

pub returns-else-is_running-clause-still : goal.returns-else-is_running-clause-still
returns-else-is_running-clause-still g c = no_wait_event _ c.run_body.result c.event_of.result c.event_of.ensures

pub returns-in-End-clause-turn : goal.returns-in-End-clause-turn
returns-in-End-clause-turn g c = by_event (TurnsWith c.args.program.now (g.B.Bodies.making c.args.program.now) c.args.shared.now.state c.args.log.now c.args.self.now c.end_class.new.log c.end_class.new.self) c.end_class.result c.event_of-in-End.result c.event_of-in-End.ensures c.end_class.ensures.stepped

pub returns-in-End-clause-turned : goal.returns-in-End-clause-turned
returns-in-End-clause-turned g c =
    let turned = none_turned c.args.self.now.number c.args.shared.now c.args.self.now.bodies.uses c.end_class.new.self.bodies.uses (ap (λ b. b.uses) c.end_class.ensures.bodies) in
    search (rules, turned)

pub returns-in-End-clause-still : goal.returns-in-End-clause-still
returns-in-End-clause-still g c = no_wait_event _ c.end_class.result c.event_of-in-End.result c.event_of-in-End.ensures
