use Rattle.std.proofs.Common.{ℕ, [], append-nil, ap, refl, subst, sym, ◌∙◌}
use Rattle.bodies.specs.Sharing.{used_bodies}
use Rattle.replayer.specs.declared.thread.Turn.TheVariants as turn
use Rattle.replayer.specs.AllGoing.{IsThere}
use Rattle.replayer.specs.Going.{TurnsTo}
use Rattle.replayer.specs.OrderedRun.{HasUsed, WaitsAfter, WaitsAt}
use Rattle.replayer.specs.Turning.{HasTurned}
use Rattle.replayer.proofs.Replaced.{IsReplaced, all_going, came, ended_now, none_else, now_there, number_is, others_same, still_there, went_on}
use Rattle.replayer.proofs.Others.{rests_of, turns_by}
use Rattle.replayer.proofs.Turned.{has_used, no_turn, replaced_in_turn, shared_now, then_by}
use Rattle.replayer.proofs.run.Run+Used+B+B+Shared+B+Shared.go.Goals as goal

pub returns-in-Ended : goal.returns-in-Ended
returns-in-Ended g c =
    let p = c.args.program.now in
    let M = used_bodies (g.B.Bodies.making p) in
    let U = HasUsed c.args.self.now.shared.first.value in
    let W = WaitsAfter (g.B.Bodies.making p) c.args.self.now.shared.first.value in
    let w = c.index_mut-thread.result.now in
    let same = c.in_ok-turn.ensures.same in
    let left = c.end.ensures.same in
    let h : IsReplaced p M U W c.args.number c.args.self.now _ w c.end.new.self = record { within = c.requires.number; was = c.index_mut-thread.ensures.value; now = refl; number = left.number ∙ same.number; main = left.main ∙ same.main; start = left.start ∙ same.start } in
    let both = then_by same.number c.in_ok-turn.ensures.turned c.end.ensures.turned in
    let turned = subst (λ (n : ℕ). HasTurned n c.args.self.now.shared c.end.new.shared w.bodies.uses c.end.new.self.bodies.uses) (number_is p M U W h c.requires.going) both in
    let step = subst (TurnsTo p M (WaitsAt (g.B.Bodies.making p) c.advance.new.shared.state) c.args.self.now.log w c.advance.new.log c.advance.new.self) c.in-Ended.is c.in_ok-turn.ensures.turn in
    let x = ended_now p M U W c.args.number c.args.self.now _ w c.advance.new.self c.end.new.self c.in-Ended.done h same left (none_else w.done (λ o q. c.in_default.not-Some o q)) c.end.ensures.ends
    step.0 step.1 c.requires.going in
    record { alone = record { still = record { going = x.going; in_turn = replaced_in_turn p M U W h turned c.requires.in_turn; first = turned.first }; turned = record { turned = turned.turned; own = turned.own; turns = turned.turns }; others = x.others }; gone = x.gone; there = x.there }

pub returns-in-Comes : goal.returns-in-Comes
returns-in-Comes g c =
    let p = c.args.program.now in
    let M = used_bodies (g.B.Bodies.making p) in
    let U = HasUsed c.args.self.now.shared.first.value in
    let W = WaitsAfter (g.B.Bodies.making p) c.args.self.now.shared.first.value in
    let w = c.index_mut-thread.result.now in
    let same = c.in_ok-turn.ensures.same in
    let h : IsReplaced p M U W c.args.number c.args.self.now _ w c.advance.new.self = record { within = c.requires.number; was = c.index_mut-thread.ensures.value; now = refl; number = same.number; main = same.main; start = same.start } in
    let turned = subst (λ (n : ℕ). HasTurned n c.args.self.now.shared c.advance.new.shared w.bodies.uses c.advance.new.self.bodies.uses) (number_is p M U W h c.requires.going) c.in_ok-turn.ensures.turned in
    let in_turn = replaced_in_turn p M U W h turned c.requires.in_turn in
    let used = has_used p M U W h turned.first in_turn in
    let x = came p M U W c.args.number c.args.self.now _ w c.advance.new.self h same (none_else w.done (λ o q. c.in_default.not-Some o q))
    (turns_by p M (WaitsAt (g.B.Bodies.making p) c.advance.new.shared.state) (W c.advance.new.shared.turns.items c.args.number) c.args.self.now.log w c.advance.new.log c.advance.new.self turn.Comes
    (λ in_body waits. (used, subst (λ m. WaitsAt (g.B.Bodies.making p) m in_body c.advance.new.self.bodies) (shared_now c.args.self.now _ turned.first in_turn) waits))
    (subst (TurnsTo p M (WaitsAt (g.B.Bodies.making p) c.advance.new.shared.state) c.args.self.now.log w c.advance.new.log c.advance.new.self) c.in-Comes.is c.in_ok-turn.ensures.turn)) c.requires.going in
    record { alone = record { still = record { going = x.going; in_turn = in_turn; first = turned.first }; turned = record { turned = turned.turned; own = turned.own; turns = turned.turns }; others = x.others }; gone = x.gone; there = x.there }

pub returns-in_default-2 : goal.returns-in_default-2
returns-in_default-2 g c =
    let p = c.args.program.now in
    let M = used_bodies (g.B.Bodies.making p) in
    let U = HasUsed c.args.self.now.shared.first.value in
    let W = WaitsAfter (g.B.Bodies.making p) c.args.self.now.shared.first.value in
    let w = c.index_mut-thread.result.now in
    let same = c.in_ok-turn.ensures.same in
    let h : IsReplaced p M U W c.args.number c.args.self.now _ w c.advance.new.self = record { within = c.requires.number; was = c.index_mut-thread.ensures.value; now = refl; number = same.number; main = same.main; start = same.start } in
    let turned = subst (λ (n : ℕ). HasTurned n c.args.self.now.shared c.advance.new.shared w.bodies.uses c.advance.new.self.bodies.uses) (number_is p M U W h c.requires.going) c.in_ok-turn.ensures.turned in
    let in_turn = replaced_in_turn p M U W h turned c.requires.in_turn in
    let used = has_used p M U W h turned.first in_turn in
    let x = went_on p M U W c.args.number c.args.self.now _ w c.advance.new.self c.in_ok-turn.turn h same.gave_up same.done (none_else w.done (λ o q. c.in_default.not-Some o q)) c.in_ok-turn.ensures.moves c.in_default-2.not-Comes c.in_default-2.not-Ended c.in_ok-turn.ensures.still used
    (turns_by p M (WaitsAt (g.B.Bodies.making p) c.advance.new.shared.state) (W c.advance.new.shared.turns.items c.args.number) c.args.self.now.log w c.advance.new.log c.advance.new.self c.in_ok-turn.turn
    (λ in_body waits. (used, subst (λ m. WaitsAt (g.B.Bodies.making p) m in_body c.advance.new.self.bodies) (shared_now c.args.self.now _ turned.first in_turn) waits))
    c.in_ok-turn.ensures.turn) c.requires.going in
    record { alone = record { still = record { going = x.going; in_turn = in_turn; first = turned.first }; turned = record { turned = turned.turned; own = turned.own; turns = turned.turns }; others = x.others }; gone = x.gone; there = x.there }

pub advance-requires-clause-resting : goal.advance-requires-clause-resting
advance-requires-clause-resting g c =
    let p = c.args.program.now in
    let M = used_bodies (g.B.Bodies.making p) in
    let w = c.index_mut-thread.result.now in
    let there : IsThere p M c.args.self.now.log w = subst (λ v. IsThere p M c.args.self.now.log v) (sym c.index_mut-thread.ensures.value) (c.requires.going.threads c.args.number w c.requires.number) in
    rests_of p M c.args.self.now.log w (none_else w.done (λ o q. c.in_default.not-Some o q)) there

pub returns-in-Some : goal.returns-in-Some
returns-in-Some g c =
    let p = c.args.program.now in
    let M = used_bodies (g.B.Bodies.making p) in
    let U = HasUsed c.args.self.now.shared.first.value in
    let W = WaitsAfter (g.B.Bodies.making p) c.args.self.now.shared.first.value in
    let r = c.args.self.now in
    let w = c.index_mut-thread.result.now in
    let there : IsThere p M r.log w = subst (λ v. IsThere p M r.log v) (sym c.index_mut-thread.ensures.value) (c.requires.going.threads c.args.number w c.requires.number) in
    let h : IsReplaced p M U W c.args.number r _ w w = record { within = c.requires.number; was = c.index_mut-thread.ensures.value; now = refl; number = refl; main = refl; start = refl } in
    record {
      alone = record {
        still = record { going = all_going p M U W h c.requires.going.log refl (λ v n a. a) there c.requires.going; in_turn = replaced_in_turn p M U W h (no_turn c.args.number r.shared w.bodies.uses) c.requires.in_turn; first = refl };
        turned = record { turned = []; own = tt; turns = sym (append-nil r.shared.turns.items) };
        others = others_same p M U W h;
      };
      gone = (refl, refl, λ other. ap (λ v. v.done) (now_there p M U W h other) ∙ c.in-Some.is);
      there = still_there p M U W h refl (λ o q. q);
    }
