use Rattle.bodies.specs.Sharing.{used_bodies}
use Rattle.std.proofs.Common.{Option, subst, sym}
use Rattle.hierarchy.specs.declared.class.ClassId.{ClassId}
use Rattle.bodies.specs.declared.does.Does.TheVariants as does
use Rattle.replayer.specs.Going.{IsDoing}
use Rattle.replayer.proofs.Acting.{none_of, main_returns, main_throws, class_returns, class_throws}
use Rattle.replayer.proofs.Turned.{no_turn}
use Rattle.replayer.proofs.body.Thread+Used+B+B+Shared.end_body.Goals as goal

pub returns-in-None-clause-going : goal.returns-in-None-clause-going
returns-in-None-clause-going g c = main_returns c.args.program.now (used_bodies (g.B.Bodies.making c.args.program.now)) c.args.log.now c.args.self.now c.args.thrown c.in-None.is (sym c.if-not-is_running.ensures) c.requires

pub returns-in-Some-clause-going : goal.returns-in-Some-clause-going
returns-in-Some-clause-going g c = main_throws c.args.program.now (used_bodies (g.B.Bodies.making c.args.program.now)) c.args.log.now c.args.self.now c.args.thrown c.in-Some.throwable c.in-Some.is (sym c.if-not-is_running.ensures) c.requires

pub returns-in_default-clause-going : goal.returns-in_default-clause-going
returns-in_default-clause-going g c = class_returns c.args.program.now (used_bodies (g.B.Bodies.making c.args.program.now)) c.args.log.now c.args.self.now c.end_body.new.self c.args.thrown (none_of c.args.thrown c.in_default.not-Some) (sym c.if-not-is_running.ensures) c.end_body.ensures.standing c.requires

pub returns-clause-going : goal.returns-clause-going
returns-clause-going g c = class_throws c.args.program.now (used_bodies (g.B.Bodies.making c.args.program.now)) c.args.log.now c.args.self.now c.end_body-2.new.self c.replace.new.self c.args.thrown c.in-Some-thrown.throwable c.in_ok-error.error c.in-Some-thrown.is (sym c.if-not-is_running.ensures) c.end_body-2.ensures.standing c.in_ok-error.ensures.error c.in_ok-error.ensures.replaces c.requires

pub replace-requires : goal.replace-requires
replace-requires g c = (subst (λ (o : Option ClassId). IsDoing c.args.program.now (used_bodies (g.B.Bodies.making c.args.program.now)) c.args.log.now (does.Over o) c.args.self.now) c.in-Some-thrown.is c.requires).fits

pub returns-in-None-clause-turned : goal.returns-in-None-clause-turned
returns-in-None-clause-turned g c = no_turn c.args.self.now.number c.args.shared.now c.args.self.now.bodies.uses

pub returns-in-Some-clause-turned : goal.returns-in-Some-clause-turned
returns-in-Some-clause-turned g c = no_turn c.args.self.now.number c.args.shared.now c.args.self.now.bodies.uses

pub returns-in_default-clause-turned : goal.returns-in_default-clause-turned
returns-in_default-clause-turned g c = no_turn c.args.self.now.number c.args.shared.now c.args.self.now.bodies.uses

pub returns-clause-turned : goal.returns-clause-turned
returns-clause-turned g c = c.in_ok-error.ensures.turned
