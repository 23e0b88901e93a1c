use Rattle.std.proofs.Common.{rules, ◌≡◌, ◌<◌, ◌∷◌, [], length, map, inl, ap, arith, ◌∙◌, refl, subst, sym}
use Rattle.std.proofs.lemmas.List.{length-map}
use Rattle.init_core.specs.ProcedureWord.{IsOfFiles}
use Rattle.bodies.specs.Sharing.{used_at_start, used_bodies}
use Rattle.replayer.proofs.Followed.{all_at}
use Rattle.replayer.proofs.Fresh.{HaveBegun, all_begun, none_fresh, one_begins}
use Rattle.replayer.proofs.Others.{there_of}
use Rattle.replayer.proofs.Stepping.{not_both}
use Rattle.replayer.proofs.Turned.{fresh_in_turn}
use Rattle.replayer.proofs.run.Run+Used+B+B+Shared+B+Shared.begin.Goals as goal

pub threads-preserved : goal.threads-preserved
threads-preserved g c =
    let p = c.args.program.now in
    let more : c.threads.bodies-iterator.rest.items ≡ c.in-Some.bodies ∷ c.next.new.self.rest.items = search rules in
    let at : c.len-number.result ≡ length c.threads.threads.items = search rules in
    one_begins p (used_bodies (g.B.Bodies.making p)) (λ s. s.uses ≡ []) c.in_ok-log.log c.args.mains.now (map used_at_start c.into_iter-bodies-iterator.result.rest.items) c.threads.threads.items c.push.new.self.items (map used_at_start c.threads.bodies-iterator.rest.items) (map used_at_start c.next.new.self.rest.items) c.in_ok-thread.thread c.len-number.result _ (used_at_start c.in-Some.bodies)
    c.in_ok-push.ensures.items at c.in_ok-thread.ensures.main c.in_ok-thread.ensures.start (ap (map used_at_start) more) c.in_ok-thread.ensures.going c.in_ok-thread.ensures.number c.in_ok-thread.ensures.done c.in_ok-thread.ensures.gave_up (ap (λ s. s.uses) c.in_ok-thread.ensures.bodies) c.threads.invariant

pub begin-requires : goal.begin-requires
begin-requires g c =
    let at : c.len-number.result ≡ length c.threads.threads.items = search rules in
    let more = ap length c.in-Some.ensures.steps.0 in
    let mapped : length (map (used_at_start {H = g.row.B-Shared.Denot}) c.threads.bodies-iterator.rest.items) ≡ length c.threads.bodies-iterator.rest.items = length-map c.threads.bodies-iterator.rest.items (used_at_start {H = g.row.B-Shared.Denot}) in
    let all = c.threads.invariant.3 in
    let low : c.len-number.result < length c.args.mains.now = omega (arith, at, more, mapped, all) in
    record {
      main = all_at (λ m. IsOfFiles c.args.program.now m) c.args.mains.now c.len-number.result _ c.requires.mains.of_files low;
      number = (let threads = c.in_ok-log.ensures.threads in omega (arith, low, threads));
      log = c.in_ok-log.ensures.log;
      none = c.in_ok-log.ensures.events;
    }

pub returns : goal.returns
returns g c =
    let p = c.args.program.now in
    let none : length c.threads.bodies-iterator.rest.items ≡ 0 = (let a = c.in-None.ensures.steps.0 in let o = c.threads.bodies-iterator.rest.ok in search rules) in
    let mapped : length (map (used_at_start {H = g.row.B-Shared.Denot}) c.threads.bodies-iterator.rest.items) ≡ length c.threads.bodies-iterator.rest.items = length-map c.threads.bodies-iterator.rest.items (used_at_start {H = g.row.B-Shared.Denot}) in
    let begun = c.threads.invariant in
    let from : c.into_iter-bodies-iterator.result.rest.items ≡ c.args.bodies.items = search rules in
    let all = all_begun p (used_bodies (g.B.Bodies.making p)) (λ s. s.uses ≡ []) c.in_ok-log.log c.args.mains.now (map used_at_start c.into_iter-bodies-iterator.result.rest.items) c.threads.threads.items (map used_at_start c.threads.bodies-iterator.rest.items) begun (mapped ∙ none) in
    record {
      going = record {
        log = c.in_ok-log.ensures.log;
        count = c.in_ok-log.ensures.threads ∙ sym all.2;
        numbers = λ t other low. (begun.0 t other low).number;
        threads = λ t other low. there_of p (used_bodies (g.B.Bodies.making p)) c.in_ok-log.log _ (begun.0 t other low).done (inl (begun.0 t other low).going);
      };
      in_turn = fresh_in_turn _ (c.new-2.ensures.state ∙ sym c.new-2.ensures.first) c.new-2.ensures.turns (λ t other low. (begun.0 t other low).bodies);
      fresh = λ t other low. ((λ y. not_both (begun.0 t other low).gave_up y), λ x. absurd (let no = x.1 in omega (arith, no)));
      events = c.in_ok-log.ensures.events;
      turns = c.new-2.ensures.turns;
      mains = all.0;
      starts = all.1 ∙ ap (map used_at_start) from;
      first = c.new-2.ensures.first;
    }

pub threads-init : goal.threads-init
threads-init g c =
    let p = c.args.program.now in
    let M = used_bodies (g.B.Bodies.making p) in
    let items = c.into_iter-bodies-iterator.result.rest.items in
    let starts = map (used_at_start {H = g.row.B-Shared.Denot}) items in
    let mapped : length starts ≡ length items = length-map items (used_at_start {H = g.row.B-Shared.Denot}) in
    let from : items ≡ c.args.bodies.items = search rules in
    let same = ap length from in
    let count = c.requires.count in
    let all = c.args.bodies.ok.0 in
    subst (λ ts. HaveBegun p M (λ s. s.uses ≡ []) c.in_ok-log.log c.args.mains.now starts ts starts) (sym c.new-threads.ensures.items) (none_fresh p M (λ s. s.uses ≡ []) c.in_ok-log.log, refl, refl, omega (arith, mapped, same, count, all))
