use Rattle.std.proofs.Common.{rules, ◌≡◌, ◌-◌, refl, sym, subst, ap, ◌∙◌, ◌++◌, ◌∷◌, [], List, append-nil, arith}
use Rattle.init_core.specs.declared.event.Event.{Event}
use Rattle.init_core.specs.declared.event.Kind.{Kind}
use Rattle.init_core.specs.Decisions.{event, kind_of}
use Rattle.init_core.specs.Standing.{Standing}
use Rattle.bodies.specs.Sharing.{free_bodies}
use Rattle.guest_threads.specs.declared.guarded.Guarded.{Guarded}
use Rattle.guest_threads.specs.Tasks.{room_of}
use Rattle.guest_threads.specs.Working.{Working, drawn}
use Rattle.bodies.proofs.Asking.{looks_at, in_files}
use Rattle.guest_threads.proofs.Passing.{roomier}
use Rattle.guest_threads.proofs.Returning.{may_go_back}
use Rattle.guest_threads.proofs.Telling.{keeps_drawn, look_waits, looked, looked_again, untouched, entered_once, entered_none}
use Rattle.guest_threads.proofs.Viewing.{by_fields, working_at, works_at}
use Rattle.guest_threads.proofs.task.Task.look.Goals as goal

pub look_at-told-requires-clause-waiting : goal.look_at-told-requires-clause-waiting
look_at-told-requires-clause-waiting g c = λ other.
    look_waits _ _ c.args.work.now c.args.class c.take_record-taken.new.pass c.in-Ok.held c.kept.result.now.record c.requires.next c.in-Ok.ensures.took (ap (λ (x : Guarded). x.record) c.kept.ensures.record) (working_at g.B.Bodies.making (sym c.self.view_is) c.requires.working)

pub give_up-requires-in_default-told-clause-working : goal.give_up-requires-in_default-told-clause-working
give_up-requires-in_default-told-clause-working g c = working_at g.B.Bodies.making c.self.view_is (let took = c.in-Ok.ensures.took in
    let e = c.in_default-told.ensures in
    let l = looks_at c.args.work.now.procedure c.args.class c.requires.next in
    subst (λ (s : Standing). Working (free_bodies (g.B.Bodies.making c.self.inside.program.now)) (by_fields c.self.view_is) (record c.args.work.now { pass = c.give_back_untouched.new.pass; procedure = s })) (sym e.err_standing)
    (untouched _ _ c.args.work.now c.args.class c.take_record-taken.new.pass c.give_back_untouched.new.pass c.in-Ok.held c.in-Ok.held.place c.look_at-told.new.class_record.events c.kept.result.now.record (in_files c.self.inside.program.now c.args.work.now.procedure c.args.class _ l.1 (working_at g.B.Bodies.making (sym c.self.view_is) c.requires.working).stands.files)
    took.place e.err_events (ap (λ (x : Guarded). x.record) c.kept.ensures.record) took c.give_back_untouched.ensures.back c.give_back_untouched.ensures.journal c.give_back_untouched.ensures.room (working_at g.B.Bodies.making (sym c.self.view_is) c.requires.working)))

pub returns-then-waits_again-clause-working : goal.returns-then-waits_again-clause-working
returns-then-waits_again-clause-working g c = working_at g.B.Bodies.making c.self.view_is (let took = c.in-Ok.ensures.took in
    let e = c.in-Ok-told.ensures in
    let none = entered_none c.self.inside.number c.args.class c.in-Ok-told.decision (c.if-waits_again.ensures.yes refl) in
    looked _ _ c.args.work.now c.look_at-told.new.self c.args.work.now.slack c.args.class c.take_record-taken.new.pass c.give_back_asleep.new.pass c.in-Ok.held c.in-Ok.held.place c.in-Ok-told.decision c.kept.result.now.record c.look_at-told.new.class_record.events
    c.requires.next took.place took (ap (λ (x : Guarded). x.record) c.kept.ensures.record) e.decision e.standing e.events c.give_back_asleep.ensures.back
    (ap drawn c.give_back_asleep.ensures.journal ∙ (sym (append-nil (drawn c.take_record-taken.new.pass.journal)) ∙ ap (λ (es : List Event). drawn c.take_record-taken.new.pass.journal ++ es) (sym none)))
    (λ few. let n : room_of c.in-Ok-told.decision ≡ 1 = ap room_of (c.if-waits_again.ensures.yes refl) in let r = (working_at g.B.Bodies.making (sym c.self.view_is) c.requires.working).room in let s = took.room in let t = c.give_back_asleep.ensures.room in omega arith) (working_at g.B.Bodies.making (sym c.self.view_is) c.requires.working))

pub give_back_with-requires-clause-back : goal.give_back_with-requires-clause-back
give_back_with-requires-clause-back g c =
    let found = c.kept.result.now.record in
    let once = entered_once c.self.inside.number found.class c.in-Ok-told.decision (c.if-waits_again.ensures.no refl) in
    may_go_back c.in-Ok.ensures.took _ _ _ (search rules)
    (keeps_drawn c.in-Ok.ensures.took found (ap (λ (x : Guarded). x.record) c.kept.ensures.record) c.look_at-told.new.class_record.events c.self.inside.number (kind_of c.in-Ok-told.decision) c.new-event.result
    (c.in-Ok-told.ensures.events ∙ ap (λ (es : List Event). found.events ++ es) once) (c.new-event.ensures ∙ ap (λ (j : Kind). event c.self.inside.number c.args.class j) c.kind.ensures))
    (search rules)

pub returns-clause-working : goal.returns-clause-working
returns-clause-working g c = working_at g.B.Bodies.making c.self.view_is (let took = c.in-Ok.ensures.took in
    let e = c.in-Ok-told.ensures in
    let once = entered_once c.self.inside.number c.args.class c.in-Ok-told.decision (c.if-waits_again.ensures.no refl) in
    looked _ _ c.args.work.now c.look_at-told.new.self (c.args.work.now.slack - c.room_of.result) c.args.class c.take_record-taken.new.pass c.give_back_with.new.pass c.in-Ok.held c.in-Ok.held.place c.in-Ok-told.decision c.kept.result.now.record c.look_at-told.new.class_record.events
    c.requires.next took.place took (ap (λ (x : Guarded). x.record) c.kept.ensures.record) e.decision e.standing e.events c.give_back_with.ensures.back
    (c.give_back_with.ensures.journal ∙ (ap (λ (x : Event). drawn c.take_record-taken.new.pass.journal ++ x ∷ []) (c.new-event.ensures ∙ ap (λ (j : Kind). event c.self.inside.number c.args.class j) c.kind.ensures) ∙ ap (λ (es : List Event). drawn c.take_record-taken.new.pass.journal ++ es) (sym once)))
    (λ few. let n = c.room_of.ensures.room in let m = c.room_of.ensures.few in let r = (working_at g.B.Bodies.making (sym c.self.view_is) c.requires.working).room in let s = took.room in let t = c.give_back_with.ensures.room in let u = c.requires.room in omega arith) (working_at g.B.Bodies.making (sym c.self.view_is) c.requires.working))

pub returns-then-waits_again-clause-waits : goal.returns-then-waits_again-clause-waits
returns-then-waits_again-clause-waits g c = λ e. record {
  procedure = looked_again _ _ c.args.work.now c.look_at-told.new.self c.args.class c.in-Ok-told.decision _ c.requires.next (c.if-waits_again.ensures.yes refl) c.in-Ok-told.ensures.standing (working_at g.B.Bodies.making (sym c.self.view_is) c.requires.working);
}

pub give_back_untouched-requires : goal.give_back_untouched-requires
give_back_untouched-requires g c = record { back = may_go_back c.in-Ok.ensures.took _ _ _ (search rules) (search rules) (search rules) }

pub give_back_asleep-requires-clause-back : goal.give_back_asleep-requires-clause-back
give_back_asleep-requires-clause-back g c = may_go_back c.in-Ok.ensures.took _ _ _ (search rules) (search rules) (search rules)

pub give_up-requires-clause-working : goal.give_up-requires-clause-working
give_up-requires-clause-working g c =
    let u = c.in_default.ensures.gave_up in
    roomier (free_bodies (g.B.Bodies.making c.args.self.now.program)) c.args.self.now c.args.work.now c.take_record-taken.new.pass c.args.work.now.slack u.same u.journal u.places
    (let r = c.requires.working.room in let s = c.in_default.ensures.room in omega arith) c.requires.working

pub take_record-taken-requires-clause-works : goal.take_record-taken-requires-clause-works
take_record-taken-requires-clause-works g c = works_at g.B.Bodies.making (sym c.self.view_is) c.requires.working
