use Rattle.std.proofs.Common.{Option, Some, ap, refl, sym, ◌∙◌}
use Rattle.bodies.specs.declared.does.Does.{Does}
use Rattle.bodies.specs.declared.does.Does.TheVariants.{Ended, Touches}
use Rattle.bodies.specs.declared.report.Limit.TheVariants.{Memory, Steps}
use Rattle.interpreter.specs.declared.phase.Phase.TheVariants.{Ready}
use Rattle.interpreter.proofs.CodeBodies.{when_err, when_ok}
use Rattle.interpreter.proofs.NoneReady.{never_ready}
use Rattle.interpreter.proofs.Quietly.{free_begun, free_entered, free_half, from_quiet, no_main_quietly, not_there, quiet_rows, then_quiet_next, then_quiet_row, then_quiet_rows, then_says_quietly, then_touches, to_touch, to_touch_main}
use Rattle.interpreter.proofs.Running.{all_rows, row_less}
use Rattle.interpreter.proofs.Saying.{refused_still, spent_still}
use Rattle.interpreter.proofs.interpreter.Interpreter.run_quietly.Goals as goal

pub loop-self-init : goal.loop-self-init
loop-self-init c = quiet_rows c.args.program.now c.args.self.now

pub returns-in-Over-clause-says : goal.returns-in-Over-clause-says
returns-in-Over-clause-says c = then_says_quietly c.args.program.now c.args.self.now c.loop-self.self c.over.new.self c.over.result c.loop-self.invariant c.over.ensures.says

pub returns-in-Spent-clause-says : goal.returns-in-Spent-clause-says
returns-in-Spent-clause-says c = then_says_quietly c.args.program.now c.args.self.now c.loop-self.self c.loop-self.self (Ended Steps) c.loop-self.invariant (spent_still c.args.program.now c.loop-self.self c.in-Spent.is)

pub unreachable-requires : goal.unreachable-requires
unreachable-requires c = never_ready c.args.program.now c.args.self.now c.loop-self.self (Ready c.in-Ready.field-0) (all_rows (from_quiet c.loop-self.invariant)) c.requires.ready c.in-Ready.is

pub loop-self-preserved-in-Ok-None : goal.loop-self-preserved-in-Ok-None
loop-self-preserved-in-Ok-None c = then_quiet_row c.args.program.now c.args.self.now c.loop-self.self c.say_half.new.self c.loop-self.invariant (free_half c.args.program.now c.loop-self.self c.in-Half.is) (c.in-Ok-None.ensures.row c.in-Ok-None.field-0-is)

pub returns-in-Ok-Some-clause-says : goal.returns-in-Ok-Some-clause-says
returns-in-Ok-Some-clause-says c = then_says_quietly c.args.program.now c.args.self.now c.loop-self.self c.say_half.new.self c.in-Ok-Some.does c.loop-self.invariant (rw c.in-Ok-Some.field-0-is at c.in-Ok-Some.ensures.says)

pub returns-in-Err-clause-says : goal.returns-in-Err-clause-says
returns-in-Err-clause-says c = rw c.in-Err.ensures.err (then_says_quietly c.args.program.now c.args.self.now c.loop-self.self c.loop-self.self (Ended Memory) c.loop-self.invariant (refused_still c.args.program.now c.loop-self.self c.in-Err.ensures.memory))

pub loop-self-preserved-in-Some-None : goal.loop-self-preserved-in-Some-None
loop-self-preserved-in-Some-None c = then_quiet_rows c.args.program.now c.args.self.now c.loop-self.self c.turn_quietly.new.self c.loop-self.invariant (c.in-Some-None.ensures.rows (ap (λ (d : Option Does). Some d) c.in-Some-None.field-0-is))

pub returns-in-Some-Some-clause-says : goal.returns-in-Some-Some-clause-says
returns-in-Some-Some-clause-says c = then_quiet_next c.args.program.now c.args.self.now c.loop-self.self c.turn_quietly.new.self c.in-Some-Some.does c.loop-self.invariant (rw c.in-Some-Some.field-0-is at c.in-Some-Some.ensures.says)

pub returns-in-None-clause-says : goal.returns-in-None-clause-says
returns-in-None-clause-says c = then_quiet_next c.args.program.now c.args.self.now c.loop-self.self c.turn_quietly.new.self Touches c.loop-self.invariant (c.in-None.ensures.touches refl)

pub returns-then-is_err-clause-says : goal.returns-then-is_err-clause-says
returns-then-is_err-clause-says c = rw (when_err c.begin_body.result c.is_err.result c.is_err.ensures.value c.if-is_err.true c.begin_body.ensures.err)
    (then_says_quietly c.args.program.now c.args.self.now c.loop-self.self c.loop-self.self (Ended Memory) c.loop-self.invariant (refused_still c.args.program.now c.loop-self.self (when_err c.begin_body.result c.is_err.result c.is_err.ensures.value c.if-is_err.true c.begin_body.ensures.memory)))

pub loop-self-preserved-else-is_err : goal.loop-self-preserved-else-is_err
loop-self-preserved-else-is_err c = then_quiet_row c.args.program.now c.args.self.now c.loop-self.self c.begin_body.new.self c.loop-self.invariant (free_begun c.args.program.now c.loop-self.self c.in-Begins.class c.in-Begins.given c.in-Begins.is) (when_ok c.begin_body.result c.is_err.result c.is_err.ensures.value c.if-is_err.false c.begin_body.ensures.row)

pub returns-in_default-clause-says : goal.returns-in_default-clause-says
returns-in_default-clause-says c = then_touches c.args.program.now c.args.self.now c.loop-self.self c.loop-self.invariant (to_touch c.args.program.now c.loop-self.self c.loop-self.self.phase c.in_default.not-Over c.in_default.not-Spent c.in_default.not-Ready c.in_default.not-Half c.in_default.not-Runs c.in_default.not-Begins c.in_default.not-Enters)

pub loop-self-smaller-else-is_err : goal.loop-self-smaller-else-is_err
loop-self-smaller-else-is_err c = row_less c.args.program.now c.loop-self.self c.begin_body.new.self (from_quiet (when_ok c.begin_body.result c.is_err.result c.is_err.ensures.value c.if-is_err.false c.begin_body.ensures.row))

pub returns-then-is_some-clause-says : goal.returns-then-is_some-clause-says
returns-then-is_some-clause-says c = then_touches c.args.program.now c.args.self.now c.loop-self.self c.loop-self.invariant (to_touch_main c.args.program.now c.loop-self.self c.in-Enters.class c.first_method.result c.in-Enters.is c.first_method.ensures (sym c.is_some.ensures ∙ c.if-is_some.true))

pub loop-self-preserved : goal.loop-self-preserved
loop-self-preserved c = then_quiet_row c.args.program.now c.args.self.now c.loop-self.self _ c.loop-self.invariant (free_entered c.args.program.now c.loop-self.self c.in-Enters.class c.in-Enters.is (not_there c.first_method.result c.first_method.ensures (sym c.is_some.ensures ∙ c.if-is_some.false))) (no_main_quietly c.args.program.now c.loop-self.self c.in-Enters.class c.in-Enters.is (not_there c.first_method.result c.first_method.ensures (sym c.is_some.ensures ∙ c.if-is_some.false)))

pub loop-self-smaller : goal.loop-self-smaller
loop-self-smaller c = row_less c.args.program.now c.loop-self.self _ (from_quiet (no_main_quietly c.args.program.now c.loop-self.self c.in-Enters.class c.in-Enters.is (not_there c.first_method.result c.first_method.ensures (sym c.is_some.ensures ∙ c.if-is_some.false))))
