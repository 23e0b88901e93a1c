use Rattle.std.proofs.Common.{rules, ap, sym, subst, ◌∙◌, ◌++◌, ◌∷◌, []}
use Rattle.init_core.specs.declared.event.Event.{Event}
use Rattle.init_core.specs.declared.event.Kind.TheVariants as kind
use Rattle.init_core.specs.Decisions.{event}
use Rattle.init_core.specs.Label.{label_of}
use Rattle.init_core.specs.Lawful.{MayUse}
use Rattle.bodies.specs.Writes.{WritesHeld}
use Rattle.bodies.specs.declared.does.Does.TheVariants as does
use Rattle.guest_threads.specs.declared.guarded.Guarded.{Guarded}
use Rattle.guest_threads.specs.Working.{drawn}
use Rattle.guest_threads.proofs.Acting.{may_use_found, still_doing, has_come_on, read_was_made, range_of_last}
use Rattle.guest_threads.proofs.Returning.{may_go_back}
use Rattle.guest_threads.proofs.Telling.{keeps_drawn, untouched}
use Rattle.guest_threads.proofs.Viewing.{come_at, doing_at, working_at, works_at}
use Rattle.guest_threads.proofs.task.Task.read.Goals as goal

pub read_static-read-requires-clause-open : goal.read_static-read-requires-clause-open
read_static-read-requires-clause-open g c =
    let x = (doing_at g.B.Bodies.making (sym c.self.view_is) c.requires.doing) in
    subst (λ (r : Guarded). MayUse c.self.inside.number (label_of r.record.events)) (sym c.kept.ensures.record) (may_use_found _ _ (record c.args.work.now { bodies = x.from }) c.args.class c.take_record-taken.new.pass c.in-Ok.held x.fits.1 c.in-Ok.ensures.took x.working)

pub leave_at-requires-clause-come : goal.leave_at-requires-clause-come
leave_at-requires-clause-come g c = come_at g.B.Bodies.making c.self.view_is (let x = (doing_at g.B.Bodies.making (sym c.self.view_is) c.requires.doing) in
    let took = c.in-Ok.ensures.took in
    has_come_on _ _ _ _ (still_doing _ _ c.args.work.now c.give_back_untouched.new.pass (does.Gets c.args.class c.args.field) x
    (untouched _ _ (record c.args.work.now { bodies = x.from }) c.args.class c.take_record-taken.new.pass c.give_back_untouched.new.pass c.in-Ok.held c.in-Ok.held.place c.read_static-read.new.self.events c.kept.result.now.record x.fits.0
    took.place (ap (λ (r : _). r.events) c.in_default-read.ensures.err) (ap (λ (r : Guarded). r.record) c.kept.ensures.record) took c.give_back_untouched.ensures.back c.give_back_untouched.ensures.journal c.give_back_untouched.ensures.room x.working)))

pub new-event-requires-clause-kind : goal.new-event-requires-clause-kind
new-event-requires-clause-kind g c = range_of_last _ c.kept.result.now.record.events (event c.self.inside.number _ (kind.Gets c.args.field c.in-Ok-read.value)) c.read_static-read.new.self.events c.in-Ok-read.ensures.events c.is_lawful.ensures.numbers

pub give_back_with-requires-clause-back : goal.give_back_with-requires-clause-back
give_back_with-requires-clause-back g c = may_go_back c.in-Ok.ensures.took _ _ _ (search rules)
    (keeps_drawn c.in-Ok.ensures.took c.kept.result.now.record (ap (λ (x : Guarded). x.record) c.kept.ensures.record) c.read_static-read.new.self.events c.self.inside.number (kind.Gets c.args.field c.in-Ok-read.value) c.new-event.result c.in-Ok-read.ensures.events c.new-event.ensures)
    (search rules)

pub give_back_with-requires-clause-writes : goal.give_back_with-requires-clause-writes
give_back_with-requires-clause-writes g c = subst (WritesHeld c.in-Ok.held.taken.record.fields) (sym c.new-event.ensures) tt

pub returns : goal.returns
returns g c = working_at g.B.Bodies.making c.self.view_is (read_was_made _ _ c.args.work.now c.forget_last.new.self c.get.new.self c.args.class c.args.field c.in-Ok-read.value c.take_record-taken.new.pass c.give_back_with.new.pass c.in-Ok.held c.in-Ok.held.place c.kept.result.now.record c.read_static-read.new.self.events (doing_at g.B.Bodies.making (sym c.self.view_is) c.requires.doing) c.in-Ok.ensures.took
    (ap (λ (r : Guarded). r.record) c.kept.ensures.record) c.in-Ok-read.ensures.value c.in-Ok-read.ensures.events c.get.ensures c.in-Ok.ensures.took.place c.give_back_with.ensures.back
    (c.give_back_with.ensures.journal ∙ ap (λ (e : Event). drawn c.take_record-taken.new.pass.journal ++ e ∷ []) c.new-event.ensures) c.give_back_with.ensures.room c.requires.room c.forget_last.ensures.standing)

pub take_record-taken-requires-clause-works : goal.take_record-taken-requires-clause-works
take_record-taken-requires-clause-works g c = works_at g.B.Bodies.making (sym c.self.view_is) c.requires.doing.working
