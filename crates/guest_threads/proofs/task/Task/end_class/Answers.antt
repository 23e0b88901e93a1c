use Rattle.std.proofs.Common.{rules, ap, ◌∙◌, ◌++◌, ◌∷◌, [], subst, sym}
use Rattle.init_core.specs.declared.event.Event.{Event}
use Rattle.init_core.specs.declared.event.Kind.{Kind}
use Rattle.init_core.specs.Decisions.{event}
use Rattle.init_core.specs.Label.{label_of}
use Rattle.init_core.specs.Leads.{kind_of_ending}
use Rattle.init_core.specs.Numbers.{IsInRange}
use Rattle.guest_threads.specs.declared.guarded.Guarded.{Guarded}
use Rattle.guest_threads.specs.Working.{drawn}
use Rattle.guest_threads.proofs.Returning.{may_go_back}
use Rattle.guest_threads.proofs.Telling.{keeps_drawn, end_label, end_range, ended}
use Rattle.guest_threads.proofs.Viewing.{working_at, works_at}
use Rattle.guest_threads.proofs.task.Task.end_class.Goals as goal

pub end-requires-clause-owner : goal.end-requires-clause-owner
end-requires-clause-owner g c =
    ap (λ (x : Guarded). label_of x.record.events) c.kept-guarded.ensures.record
    ∙ end_label _ _ c.args.work.now c.args.class c.args.ending c.take_record-taken.new.pass c.in-Ok.held c.requires.next c.in-Ok.ensures.took (working_at g.B.Bodies.making (sym c.self.view_is) c.requires.working)

pub end-requires-clause-throwable : goal.end-requires-clause-throwable
end-requires-clause-throwable g c = end_range _ _ c.args.work.now c.args.class c.args.ending c.requires.next (working_at g.B.Bodies.making (sym c.self.view_is) c.requires.working)

pub new-event-requires-clause-kind : goal.new-event-requires-clause-kind
new-event-requires-clause-kind g c = subst IsInRange (sym c.kind.ensures) (end_range _ _ c.args.work.now c.args.class c.args.ending c.requires.next (working_at g.B.Bodies.making (sym c.self.view_is) c.requires.working))

pub new-requires-clause-kind : goal.new-requires-clause-kind
new-requires-clause-kind g c = subst IsInRange (sym c.kind-2.ensures) (end_range _ _ c.args.work.now c.args.class c.args.ending c.requires.next (working_at g.B.Bodies.making (sym c.self.view_is) c.requires.working))

pub returns : goal.returns
returns g c =
    let took = c.in-Ok.ensures.took in
    record {
      working = working_at g.B.Bodies.making c.self.view_is (ended _ _ c.args.work.now c.end_class.new.self c.args.class c.args.ending c.take_record-taken.new.pass c.give_back_with.new.pass c.in-Ok.held c.in-Ok.held.place c.kept-guarded.result.now.record c.end.new.self.events
          c.requires.next took.place took (ap (λ (x : Guarded). x.record) c.kept-guarded.ensures.record) c.end_class.ensures.standing c.end.ensures.events c.give_back_with.ensures.back
          (c.give_back_with.ensures.journal ∙ ap (λ (e : Event). drawn c.take_record-taken.new.pass.journal ++ e ∷ []) (c.new-event.ensures ∙ ap (λ (j : Kind). event c.self.inside.number c.args.class j) c.kind.ensures))
          c.give_back_with.ensures.room (working_at g.B.Bodies.making (sym c.self.view_is) c.requires.working));
    }

pub take_record-taken-requires-clause-works : goal.take_record-taken-requires-clause-works
take_record-taken-requires-clause-works g c = works_at g.B.Bodies.making (sym c.self.view_is) c.requires.working

pub give_back_with-requires-clause-back : goal.give_back_with-requires-clause-back
give_back_with-requires-clause-back g c = may_go_back c.in-Ok.ensures.took _ _ _ (search rules)
    (keeps_drawn c.in-Ok.ensures.took c.kept-guarded.result.now.record (ap (λ (x : Guarded). x.record) c.kept-guarded.ensures.record) c.end.new.self.events c.self.inside.number (kind_of_ending c.args.ending) c.new-event.result
    c.end.ensures.events (c.new-event.ensures ∙ ap (λ (j : Kind). event c.self.inside.number c.args.class j) c.kind.ensures))
    (search rules)
