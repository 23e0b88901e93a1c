use Rattle.std.proofs.Common.{◌≡◌, sym, subst, ap}
use Rattle.guest_threads.specs.declared.guarded.Guarded.{Guarded}
use Rattle.guest_threads.specs.Working.{Took}
use Rattle.guest_threads.proofs.Finding.{class_found, finds}
use Rattle.guest_threads.proofs.take.take_record.Goals as goal

pub returns-clause-took : goal.returns-clause-took
returns-clause-took g c =
    let e = c.in_ok-held.ensures in
    let h = c.in_ok-held.held in
    let k : c.kept.result.now ≡ h.kept = c.kept.ensures.record in
    let w = c.requires.works in
    let found = class_found c.args.program.now c.args.class c.args.pass.now.opening h.kept w.prepared w.whole c.requires.class e.taken.follows_opening in
    subst (λ (x : Guarded). Took c.args.program.now c.args.class c.args.pass.now c.take-taken.new.pass (record { place = h.place; taken = h.taken; kept = x })) (sym k) (record {
      same = e.taken.same;
      journal = e.taken.journal;
      room = e.taken.room;
      place = e.taken.place;
      untouched = e.taken.untouched;
      class = found.0;
      fields = found.1;
      held = found.2;
      finds = finds c.args.pass.now.number c.args.class.number _ h.kept.record.events c.kept.result.now.record e.taken.grew (ap (λ (x : Guarded). x.record.events) k) c.is_lawful.ensures.lawful;
      seen = e.taken.seen;
      out = e.taken.out;
      others = e.taken.others;
      away = e.taken.holding w.away;
    })
