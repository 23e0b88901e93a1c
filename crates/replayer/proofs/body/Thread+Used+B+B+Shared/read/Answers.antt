use Rattle.bodies.specs.Sharing.{used_bodies}
use Rattle.std.proofs.Common.{◌≡◌, List, Some, arith, sym, subst, ◌∙◌}
use Rattle.statics.specs.declared.static_field.StaticField.{StaticField}
use Rattle.init_core.specs.declared.event.Kind.TheVariants as kind
use Rattle.init_core.specs.Interleaving.{of_class}
use Rattle.init_core.specs.StaticValue.{value_of}
use Rattle.bodies.specs.declared.does.Does.TheVariants as does
use Rattle.replayer.proofs.Acting.{read_done, read_was_made, use_allowed}
use Rattle.replayer.proofs.body.Thread+Used+B+B+Shared.read.Goals as goal

pub add-requires-clause-done : goal.add-requires-clause-done
add-requires-clause-done g c =
    let st = c.state.ensures c.args.program.now c.requires.going.log in
    read_done c.args.program.now (used_bodies (g.B.Bodies.making c.args.program.now)) c.args.log.now c.args.self.now c.args.class c.args.field c.value-value.result c.requires
    (subst (λ (fs : List StaticField). value_of fs c.args.field (of_class c.args.class c.args.log.now.events.items) ≡ Some c.value-value.result) st.fields (sym (st.state.values c.args.field) ∙ c.value-value.ensures))

pub returns-clause-stepped : goal.returns-clause-stepped
returns-clause-stepped g c = read_was_made c.args.program.now (used_bodies (g.B.Bodies.making c.args.program.now)) c.args.log.now c.args.self.now c.add.new.self c.forget_last.new.self c.get.new.self c.args.class c.args.field c.value-value.result c.requires c.get.ensures c.in_ok-add.ensures.threads c.in_ok-add.ensures.log c.in_ok-add.ensures.events c.forget_last.ensures.standing

pub state-requires : goal.state-requires
state-requires g c =
    let few = c.requires.fits.0 in
    let count = c.requires.going.log.count in
    omega (arith, few, count)

pub add-requires-clause-thread : goal.add-requires-clause-thread
add-requires-clause-thread g c = c.requires.going.number

pub add-requires-clause-log : goal.add-requires-clause-log
add-requires-clause-log g c = c.requires.going.log

pub add-requires-clause-class : goal.add-requires-clause-class
add-requires-clause-class g c = c.requires.fits.0

pub add-requires-clause-allowed : goal.add-requires-clause-allowed
add-requires-clause-allowed g c = use_allowed c.args.program.now (used_bodies (g.B.Bodies.making c.args.program.now)) c.args.log.now c.args.self.now (does.Gets c.args.class c.args.field) c.args.class (kind.Gets c.args.field c.value-value.result) tt c.requires.fits.1 c.requires

pub add-requires-clause-holds : goal.add-requires-clause-holds
add-requires-clause-holds g c =
    let st = c.state.ensures c.args.program.now c.requires.going.log in
    subst (λ (fs : List StaticField). value_of fs c.args.field (of_class c.args.class c.args.log.now.events.items) ≡ Some c.value-value.result) st.fields (sym (st.state.values c.args.field) ∙ c.value-value.ensures)
