use Rattle.bodies.specs.Sharing.{used_bodies}
use Rattle.std.proofs.Common.{List, ap, arith, ◌∙◌}
use Rattle.statics.specs.declared.static_field.StaticField.{StaticField}
use Rattle.statics.specs.Statics.{kept_by}
use Rattle.init_core.specs.declared.event.Kind.TheVariants as kind
use Rattle.bodies.specs.declared.does.Does.TheVariants as does
use Rattle.replayer.proofs.Acting.{use_allowed, write_was_made}
use Rattle.replayer.proofs.body.Thread+Used+B+B+Shared.write.Goals as goal

pub returns-clause-stepped : goal.returns-clause-stepped
returns-clause-stepped g c =
    let st = c.state.ensures c.args.program.now c.requires.going.log in
    write_was_made c.args.program.now (used_bodies (g.B.Bodies.making c.args.program.now)) c.args.log.now c.args.self.now c.add.new.self c.forget_last.new.self c.args.class c.args.field c.args.given c.kept-value.result (c.kept-value.ensures ∙ ap (λ (fs : List StaticField). kept_by fs c.args.field c.args.given) st.fields)
    c.requires c.in_ok-add.ensures.threads c.in_ok-add.ensures.log c.in_ok-add.ensures.events c.forget_last.ensures.standing

pub state-requires : goal.state-requires
state-requires g c =
    let few = c.requires.fits.0 in
    let count = c.requires.going.log.count in
    omega (arith, few, count)

pub add-requires-clause-thread : goal.add-requires-clause-thread
add-requires-clause-thread g c = c.requires.going.number

pub add-requires-clause-log : goal.add-requires-clause-log
add-requires-clause-log g c = c.requires.going.log

pub add-requires-clause-class : goal.add-requires-clause-class
add-requires-clause-class g c = c.requires.fits.0

pub add-requires-clause-allowed : goal.add-requires-clause-allowed
add-requires-clause-allowed g c = use_allowed c.args.program.now (used_bodies (g.B.Bodies.making c.args.program.now)) c.args.log.now c.args.self.now (does.Puts c.args.class c.args.field c.args.given) c.args.class (kind.Puts c.args.field c.kept-value.result) tt c.requires.fits.1 c.requires

pub add-requires-clause-holds : goal.add-requires-clause-holds
add-requires-clause-holds g c = c.requires.fits.2
