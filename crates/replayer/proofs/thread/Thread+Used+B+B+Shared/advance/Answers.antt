use Rattle.std.proofs.Common.{rules, ◌≡◌, refl, subst, ◌∙◌}
use Rattle.bodies.specs.Sharing.{used_bodies}
use Rattle.replayer.specs.declared.thread.Turn.TheVariants as turn
use Rattle.replayer.specs.Going.{TurnsTo}
use Rattle.replayer.specs.OrderedRun.{WaitsAt}
use Rattle.replayer.proofs.Acting.{same_then, turns_from}
use Rattle.replayer.proofs.Turned.{no_turn, then_by}
use Rattle.replayer.proofs.thread.Thread+Used+B+B+Shared.advance.Goals as goal

pub returns-then-eq-clause-turn : goal.returns-then-eq-clause-turn
returns-then-eq-clause-turn g c =
    let p = c.args.program.now in
    let is : c.in_ok-turn.turn ≡ turn.Waits = search rules in
    let x = subst (TurnsTo p (used_bodies (g.B.Bodies.making p)) (WaitsAt (g.B.Bodies.making p) c.turn.new.shared.state) c.turns.log c.turns.self c.turn.new.log c.turn.new.self) is c.in_ok-turn.ensures.turn in
    (x.0, x.1 ∙ c.turns.invariant.log)

pub returns-else-has_gone_on-clause-turn : goal.returns-else-has_gone_on-clause-turn
returns-else-has_gone_on-clause-turn g c =
    let p = c.args.program.now in
    turns_from p (used_bodies (g.B.Bodies.making p)) (WaitsAt (g.B.Bodies.making p) c.turn.new.shared.state) c.args.log.now c.turns.log c.args.self.now c.turns.self c.turn.new.log c.turn.new.self c.in_ok-turn.turn c.turns.invariant.log c.turns.invariant.same c.in_ok-turn.ensures.turn

pub turns-preserved : goal.turns-preserved
turns-preserved g c =
    let p = c.args.program.now in
    let is : c.in_ok-turn.turn ≡ turn.Silent = search rules in
    let x = subst (TurnsTo p (used_bodies (g.B.Bodies.making p)) (WaitsAt (g.B.Bodies.making p) c.turn.new.shared.state) c.turns.log c.turns.self c.turn.new.log c.turn.new.self) is c.in_ok-turn.ensures.turn in
    record {
      rests = x.0;
      log = x.1 ∙ c.turns.invariant.log;
      same = same_then c.turns.invariant.same c.in_ok-turn.ensures.same;
      turned = then_by c.turns.invariant.same.number c.turns.invariant.turned c.in_ok-turn.ensures.turned;
      still = λ q. absurd cc;
    }

pub returns-then-eq-clause-same : goal.returns-then-eq-clause-same
returns-then-eq-clause-same g c = same_then c.turns.invariant.same c.in_ok-turn.ensures.same

pub returns-then-eq-clause-turned : goal.returns-then-eq-clause-turned
returns-then-eq-clause-turned g c = then_by c.turns.invariant.same.number c.turns.invariant.turned c.in_ok-turn.ensures.turned

pub returns-else-has_gone_on-clause-same : goal.returns-else-has_gone_on-clause-same
returns-else-has_gone_on-clause-same g c = same_then c.turns.invariant.same c.in_ok-turn.ensures.same

pub returns-else-has_gone_on-clause-turned : goal.returns-else-has_gone_on-clause-turned
returns-else-has_gone_on-clause-turned g c = then_by c.turns.invariant.same.number c.turns.invariant.turned c.in_ok-turn.ensures.turned

pub returns-in_err-turn-clause-same : goal.returns-in_err-turn-clause-same
returns-in_err-turn-clause-same g c = same_then c.turns.invariant.same c.turn.ensures.same

pub turns-init : goal.turns-init
turns-init g c =
    record {
      rests = c.requires.resting;
      log = refl;
      same = record { number = refl; main = refl; start = refl; gave_up = refl; done = refl };
      turned = no_turn c.args.self.now.number c.args.shared.now c.args.self.now.bodies.uses;
      still = λ q. refl;
    }

pub turn-requires-clause-resting : goal.turn-requires-clause-resting
turn-requires-clause-resting g c = c.turns.invariant.rests
