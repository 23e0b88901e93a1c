use Rattle.std.proofs.Common.{ℕ, inl, refl, sym, subst, ap, ◌∙◌}
use Rattle.bodies.specs.Sharing.{used_bodies}
use Rattle.replayer.specs.AllGoing.{IsHeld}
use Rattle.replayer.specs.OrderedRun.{HasUsed, WaitsAfter, WaitsAt}
use Rattle.replayer.specs.Turning.{HasTurned}
use Rattle.replayer.proofs.Others.{ended_over, paused_by, there_of}
use Rattle.replayer.proofs.Replaced.{IsReplaced, all_going, now_there, number_is, others_same}
use Rattle.replayer.proofs.Turned.{none_turned, replaced_in_turn, then_by}
use Rattle.replayer.proofs.run.Run+Used+B+B+Shared+B+Shared.give_up.Goals as goal

pub give_up-requires : goal.give_up-requires
give_up-requires g c =
    let p = c.args.program.now in
    let M = used_bodies (g.B.Bodies.making p) in
    let W = WaitsAfter (g.B.Bodies.making p) c.args.self.now.shared.first.value in
    let r = c.args.self.now in
    let w = c.index_mut-thread.result.now in
    let held : IsHeld p M (W r.shared.turns.items c.args.number) r.log w = subst (λ v. IsHeld p M (W r.shared.turns.items c.args.number) r.log v) (sym c.index_mut-thread.ensures.value) (c.requires.held w) in
    record { paused = paused_by p M r.log w (λ in_body waits. subst (λ m. WaitsAt (g.B.Bodies.making p) m in_body w.bodies) (sym c.requires.in_turn.state) waits.1) held.paused }

pub returns-in-Some : goal.returns-in-Some
returns-in-Some g c =
    let p = c.args.program.now in
    let M = used_bodies (g.B.Bodies.making p) in
    let U = HasUsed c.args.self.now.shared.first.value in
    let W = WaitsAfter (g.B.Bodies.making p) c.args.self.now.shared.first.value in
    let w = c.index_mut-thread.result.now in
    let same = c.give_up.ensures.same in
    let left = c.end.ensures.same in
    let h : IsReplaced p M U W c.args.number c.args.self.now _ w c.end.new.self =
    record { within = c.requires.number; was = c.index_mut-thread.ensures.value; now = refl; number = left.number ∙ same.number; main = left.main ∙ same.main; start = left.start ∙ same.start } in
    let both = then_by same.number (none_turned w.number c.args.self.now.shared w.bodies.uses c.give_up.new.self.bodies.uses c.give_up.ensures.uses) c.end.ensures.turned in
    let turned = subst (λ (n : ℕ). HasTurned n c.args.self.now.shared c.end.new.shared w.bodies.uses c.end.new.self.bodies.uses) (number_is p M U W h c.requires.going) both in
    record {
      alone = record {
        still = record { going = all_going p M U W h c.requires.going.log refl (λ v n a. a) (ended_over p M c.args.self.now.log c.give_up.new.self c.end.new.self c.in-Some.done left c.end.ensures.ends c.in-Some.ensures.going) c.requires.going; in_turn = replaced_in_turn p M U W h turned c.requires.in_turn; first = turned.first };
        turned = record { turned = turned.turned; own = turned.own; turns = turned.turns };
        others = others_same p M U W h;
      };
      log = refl;
      gave_up = λ other. ap (λ v. v.gave_up) (now_there p M U W h other) ∙ (left.gave_up ∙ same.gave_up);
    }

pub returns-in_default : goal.returns-in_default
returns-in_default g c =
    let p = c.args.program.now in
    let M = used_bodies (g.B.Bodies.making p) in
    let U = HasUsed c.args.self.now.shared.first.value in
    let W = WaitsAfter (g.B.Bodies.making p) c.args.self.now.shared.first.value in
    let r = c.args.self.now in
    let w = c.index_mut-thread.result.now in
    let same = c.give_up.ensures.same in
    let held : IsHeld p M (W r.shared.turns.items c.args.number) r.log w = subst (λ v. IsHeld p M (W r.shared.turns.items c.args.number) r.log v) (sym c.index_mut-thread.ensures.value) (c.requires.held w) in
    let h : IsReplaced p M U W c.args.number r _ w c.give_up.new.self =
    record { within = c.requires.number; was = c.index_mut-thread.ensures.value; now = refl; number = same.number; main = same.main; start = same.start } in
    let turned = none_turned c.args.number r.shared w.bodies.uses c.give_up.new.self.bodies.uses c.give_up.ensures.uses in
    record {
      alone = record {
        still = record { going = all_going p M U W h c.requires.going.log refl (λ v n a. a) (there_of p M r.log c.give_up.new.self (same.done ∙ held.done) (inl c.in_default.ensures.going)) c.requires.going; in_turn = replaced_in_turn p M U W h turned c.requires.in_turn; first = turned.first };
        turned = record { turned = turned.turned; own = turned.own; turns = turned.turns };
        others = others_same p M U W h;
      };
      log = refl;
      gave_up = λ other. ap (λ v. v.gave_up) (now_there p M U W h other) ∙ same.gave_up;
    }
