use Rattle.std.proofs.Common.{rules, ◌≡◌, ℕ, List, Some, slice_get, ap, sym, subst, ◌∙◌, ◌++◌, ◌∷◌, []}
use Rattle.hierarchy.specs.declared.class.ClassId.{ClassId}
use Rattle.hierarchy.specs.declared.value.Value.{Value}
use Rattle.hierarchy.specs.LinkedProgram.{LinkedProgram}
use Rattle.statics.specs.declared.static_field.StaticField.{StaticField}
use Rattle.statics.specs.Statics.{statics_of, kept_by}
use Rattle.init_core.specs.declared.event.Event.{Event}
use Rattle.init_core.specs.declared.event.Kind.TheVariants as kind
use Rattle.init_core.specs.Decisions.{event}
use Rattle.init_core.specs.Label.{label_of}
use Rattle.init_core.specs.History.{History}
use Rattle.init_core.specs.Lawful.{MayUse}
use Rattle.init_core.specs.ProgramEvents.{IsValueOf}
use Rattle.init_core.specs.StaticValue.{value_of}
use Rattle.init_lock.specs.Known.{HeldFacts}
use Rattle.bodies.specs.Writes.{WritesHeld}
use Rattle.bodies.proofs.HeldValues.{written_value}
use Rattle.bodies.specs.declared.does.Does.TheVariants as does
use Rattle.guest_threads.specs.declared.guarded.Guarded.{Guarded}
use Rattle.guest_threads.specs.Working.{Took, drawn}
use Rattle.guest_threads.proofs.Acting.{may_use_found, still_doing, has_come_on, write_was_made, range_of_last}
use Rattle.guest_threads.proofs.Passing.{View}
use Rattle.guest_threads.proofs.Returning.{may_go_back}
use Rattle.guest_threads.proofs.Telling.{keeps_drawn, untouched}
use Rattle.guest_threads.proofs.Viewing.{come_at, doing_at, working_at, works_at}
use Rattle.guest_threads.proofs.task.Task.write.Goals as goal

-- what was written is what the field keeps of what was given
is_kept : (found now : History) (t field : ℕ) (given value : Value) → now.events ≡ found.events ++ event t found.class (kind.Puts field (kept_by found.fields field given)) ∷ [] → value_of now.fields field now.events ≡ Some value → value ≡ kept_by found.fields field given
is_kept found now t field given value more holds =
    written_value now.fields t field found.class (kept_by found.fields field given) value found.events (subst (λ (es : List Event). value_of now.fields field es ≡ Some value) more holds)

-- and the fields of the record that was taken hold it
is_held : {p : LinkedProgram} {c : ClassId} {x y : View} {h : HeldFacts Guarded} → Took p c x y h → (found : History) → found ≡ h.kept.record → (t field : ℕ) (given value : Value) → value ≡ kept_by found.fields field given →
    IsValueOf (slice_get (statics_of p c) field) (kept_by (statics_of p c) field given) → WritesHeld h.taken.record.fields (event t c (kind.Puts field value))
is_held {p = p} {c = c} {h = h} took found kept t field given value put fits =
    let fields : found.fields ≡ statics_of p c = ap (λ (r : History). r.fields) kept ∙ took.fields in
    let taken : h.taken.record.fields ≡ statics_of p c = ap (λ (x : Guarded). x.record.fields) took.untouched ∙ took.fields in
    subst (λ (fs : List StaticField). IsValueOf (slice_get fs field) value) (sym taken)
    (subst (λ (a : Value). IsValueOf (slice_get (statics_of p c) field) a) (sym (put ∙ ap (λ (fs : List StaticField). kept_by fs field given) fields)) fits)

pub write_static-written-requires-clause-open : goal.write_static-written-requires-clause-open
write_static-written-requires-clause-open g c =
    let x = (doing_at g.B.Bodies.making (sym c.self.view_is) c.requires.doing) in
    subst (λ (r : Guarded). MayUse c.self.inside.number (label_of r.record.events)) (sym c.kept.ensures.record) (may_use_found _ _ (record c.args.work.now { bodies = x.from }) c.args.class c.take_record-taken.new.pass c.in-Ok.held x.fits.1 c.in-Ok.ensures.took x.working)

pub leave_at-requires-clause-come : goal.leave_at-requires-clause-come
leave_at-requires-clause-come g c = come_at g.B.Bodies.making c.self.view_is (let x = (doing_at g.B.Bodies.making (sym c.self.view_is) c.requires.doing) in
    let took = c.in-Ok.ensures.took in
    has_come_on _ _ _ _ (still_doing _ _ c.args.work.now c.give_back_untouched.new.pass (does.Puts c.args.class c.args.field c.args.given) x
    (untouched _ _ (record c.args.work.now { bodies = x.from }) c.args.class c.take_record-taken.new.pass c.give_back_untouched.new.pass c.in-Ok.held c.in-Ok.held.place c.write_static-written.new.self.events c.kept.result.now.record x.fits.0
    took.place (ap (λ (r : _). r.events) c.in_default-written.ensures.err) (ap (λ (r : Guarded). r.record) c.kept.ensures.record) took c.give_back_untouched.ensures.back c.give_back_untouched.ensures.journal c.give_back_untouched.ensures.room x.working)))

pub new-event-requires-clause-kind : goal.new-event-requires-clause-kind
new-event-requires-clause-kind g c = range_of_last _ c.kept.result.now.record.events (event c.self.inside.number _ (kind.Puts c.args.field _)) c.write_static-written.new.self.events c.in-Ok-written.ensures.events c.is_lawful.ensures.numbers

pub returns : goal.returns
returns g c = working_at g.B.Bodies.making c.self.view_is (write_was_made _ _ c.args.work.now c.forget_last.new.self c.args.class c.args.field c.args.given c.value-value.result c.take_record-taken.new.pass c.give_back_with.new.pass c.in-Ok.held c.in-Ok.held.place c.kept.result.now.record c.write_static-written.new.self (doing_at g.B.Bodies.making (sym c.self.view_is) c.requires.doing) c.in-Ok.ensures.took
    (ap (λ (r : Guarded). r.record) c.kept.ensures.record) c.write_static-written.ensures.class.1 c.in-Ok-written.ensures.events c.value-value.ensures c.in-Ok.ensures.took.place c.give_back_with.ensures.back
    (c.give_back_with.ensures.journal ∙ ap (λ (e : Event). drawn c.take_record-taken.new.pass.journal ++ e ∷ []) c.new-event.ensures) c.give_back_with.ensures.room c.requires.room c.forget_last.ensures.standing)

pub give_back_untouched-requires : goal.give_back_untouched-requires
give_back_untouched-requires g c = record { back = may_go_back c.in-Ok.ensures.took _ _ _ (search rules) (search rules) (search rules) }

pub give_back_with-requires-clause-back : goal.give_back_with-requires-clause-back
give_back_with-requires-clause-back g c =
    let found = c.kept.result.now.record in
    let put = is_kept found c.write_static-written.new.self c.self.inside.number c.args.field c.args.given c.value-value.result c.in-Ok-written.ensures.events c.value-value.ensures in
    may_go_back c.in-Ok.ensures.took _ _ _ (search rules)
    (keeps_drawn c.in-Ok.ensures.took found (ap (λ (x : Guarded). x.record) c.kept.ensures.record) c.write_static-written.new.self.events c.self.inside.number (kind.Puts c.args.field (kept_by found.fields c.args.field c.args.given)) c.new-event.result
    c.in-Ok-written.ensures.events (c.new-event.ensures ∙ ap (λ (a : Value). event c.self.inside.number c.args.class (kind.Puts c.args.field a)) put))
    (search rules)

pub give_back_with-requires-clause-writes : goal.give_back_with-requires-clause-writes
give_back_with-requires-clause-writes g c =
    let found = c.kept.result.now.record in
    let put = is_kept found c.write_static-written.new.self c.self.inside.number c.args.field c.args.given c.value-value.result c.in-Ok-written.ensures.events c.value-value.ensures in
    subst (WritesHeld c.in-Ok.held.taken.record.fields) (sym c.new-event.ensures)
    (is_held c.in-Ok.ensures.took found (ap (λ (x : Guarded). x.record) c.kept.ensures.record) c.self.inside.number c.args.field c.args.given c.value-value.result put (doing_at g.B.Bodies.making (sym c.self.view_is) c.requires.doing).fits.3)

pub take_record-taken-requires-clause-works : goal.take_record-taken-requires-clause-works
take_record-taken-requires-clause-works g c = works_at g.B.Bodies.making (sym c.self.view_is) c.requires.doing.working
