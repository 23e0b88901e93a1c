use Rattle.std.proofs.Common.{refl, inr, sym, ◌∙◌}
use Rattle.std.proofs.lemmas.Result.{IfOk-weaker}
use Rattle.bodies.specs.Sharing.{used_bodies}
use Rattle.replayer.specs.OrderedRun.{WaitsAt}
use Rattle.replayer.specs.Turning.{HasTurned, TurnsWith}
use Rattle.replayer.proofs.Acting.{has_come, is_kept, turn_done, turns_from, was_ended, why_ended}
use Rattle.replayer.proofs.Turned.{no_turn, none_turned, then_by}
use Rattle.replayer.proofs.body.Thread+Used+B+B+Shared.go_on.Goals as goal

pub leave-requires : goal.leave-requires
leave-requires g c = record {
  come = has_come c.args.program.now (used_bodies (g.B.Bodies.making c.args.program.now)) c.args.log.now c.args.self.now c.requires.body c.requires.resting;
  fits = was_ended c.args.program.now (used_bodies (g.B.Bodies.making c.args.program.now)) c.args.self.now _ c.requires.body (sym c.ending_error.ensures ∙ c.in-Some.is);
  why = why_ended c.args.program.now (used_bodies (g.B.Bodies.making c.args.program.now)) c.args.log.now c.args.self.now _ (sym c.ending_error.ensures ∙ c.in-Some.is) c.requires.resting;
  was = inr refl;
}

pub returns-in-Some-clause-turn : goal.returns-in-Some-clause-turn
returns-in-Some-clause-turn g c = turn_done c.args.program.now (used_bodies (g.B.Bodies.making c.args.program.now)) (WaitsAt (g.B.Bodies.making c.args.program.now) c.args.shared.now.state) c.args.log.now c.args.self.now c.leave.new.self c.turn_of.result c.leave.result c.turn_of.ensures c.leave.ensures.going

pub returns-in-Some-clause-same : goal.returns-in-Some-clause-same
returns-in-Some-clause-same g c = c.leave.ensures.same

pub returns-in-Some-clause-turned : goal.returns-in-Some-clause-turned
returns-in-Some-clause-turned g c = none_turned c.args.self.now.number c.args.shared.now c.args.self.now.bodies.uses c.leave.new.self.bodies.uses c.leave.ensures.uses

pub returns-then-waits-clause-turn : goal.returns-then-waits-clause-turn
returns-then-waits-clause-turn g c = (is_kept c.args.program.now (used_bodies (g.B.Bodies.making c.args.program.now)) c.args.log.now c.args.self.now c.requires.body (sym c.ending_error.ensures ∙ c.in_default.is) c.requires.resting (c.if-waits.ensures.0 refl), refl)

pub returns-then-waits-clause-turned : goal.returns-then-waits-clause-turned
returns-then-waits-clause-turned g c = no_turn c.args.self.now.number c.args.shared.now c.args.self.now.bodies.uses

pub returns-clause-turn : goal.returns-clause-turn
returns-clause-turn g c =
    let p = c.args.program.now in
    let M = g.B.Bodies.making p in
    let l = c.args.log.now in
    let h = c.act.new.shared.state in
    IfOk-weaker c.act.result (TurnsWith p M h l c.next.new.self c.act.new.log c.act.new.self) (TurnsWith p M h l c.args.self.now c.act.new.log c.act.new.self) (λ t x. turns_from p (used_bodies M) (WaitsAt M h) l l c.args.self.now c.next.new.self c.act.new.log c.act.new.self t refl c.next.ensures.same x) c.act.ensures.turn

pub returns-clause-turned : goal.returns-clause-turned
returns-clause-turned g c = IfOk-weaker c.act.result (λ t. HasTurned c.next.new.self.number c.next.new.shared c.act.new.shared c.next.new.self.bodies.uses c.act.new.self.bodies.uses) (λ t. HasTurned c.args.self.now.number c.args.shared.now c.act.new.shared c.args.self.now.bodies.uses c.act.new.self.bodies.uses) (λ t x. then_by c.next.ensures.same.number c.in_ok-next.ensures.turned x) c.act.ensures.turned
