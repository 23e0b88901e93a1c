use Rattle.bodies.specs.declared.does.Does.TheVariants.{Ended}
use Rattle.bodies.specs.declared.report.Limit.TheVariants.{Memory, Steps}
use Rattle.interpreter.specs.declared.phase.Phase.TheVariants.{Ready}
use Rattle.interpreter.proofs.NoneReady.{never_ready}
use Rattle.interpreter.proofs.Quietly.{from_quiet}
use Rattle.interpreter.proofs.Running.{no_rows, then_row_of, then_rows_of}
use Rattle.interpreter.specs.Says.{no_memory, spent}
use Rattle.interpreter.specs.Touching.{objects_of}
use Rattle.interpreter.proofs.Saying.{then_alone, then_alone_next, then_in_vain}
use Rattle.interpreter.proofs.interpreter.Interpreter.say_running.Goals as goal

pub loop-self-init : goal.loop-self-init
loop-self-init c = no_rows c.args.program.now c.args.self.now

pub returns-in-Over-clause-says : goal.returns-in-Over-clause-says
returns-in-Over-clause-says c = then_alone c.args.program.now c.args.self.now c.loop-self.self c.over.new.self c.over.result c.loop-self.invariant (from_quiet c.over.ensures.says)

pub returns-in-Spent-clause-says : goal.returns-in-Spent-clause-says
returns-in-Spent-clause-says c = then_alone c.args.program.now c.args.self.now c.loop-self.self c.loop-self.self (Ended Steps) c.loop-self.invariant (spent c.in-Spent.is)

pub unreachable-requires : goal.unreachable-requires
unreachable-requires c = never_ready c.args.program.now c.args.self.now c.loop-self.self (Ready c.in-Ready.field-0) c.loop-self.invariant c.requires.ready c.in-Ready.is

pub loop-self-preserved : goal.loop-self-preserved
loop-self-preserved c = then_row_of c.args.program.now c.args.self.now c.loop-self.self c.prepare.new.self c.loop-self.invariant (c.in-Ok-true.ensures.row c.in-Ok-true.field-0-test)

pub loop-self-preserved-in-Ok-None : goal.loop-self-preserved-in-Ok-None
loop-self-preserved-in-Ok-None c = then_row_of c.args.program.now c.args.self.now c.loop-self.self c.say_half.new.self c.loop-self.invariant (from_quiet (c.in-Ok-None.ensures.row c.in-Ok-None.field-0-is))

pub returns-in-Ok-Some-clause-says : goal.returns-in-Ok-Some-clause-says
returns-in-Ok-Some-clause-says c = then_alone c.args.program.now c.args.self.now c.loop-self.self c.say_half.new.self c.in-Ok-Some.does c.loop-self.invariant (from_quiet (rw c.in-Ok-Some.field-0-is at c.in-Ok-Some.ensures.says))

pub returns-in-Err-clause-says : goal.returns-in-Err-clause-says
returns-in-Err-clause-says c = rw c.in-Err.ensures.err (then_alone c.args.program.now c.args.self.now c.loop-self.self c.loop-self.self (Ended Memory) c.loop-self.invariant (no_memory (c.in-Err.ensures.memory (objects_of c.loop-self.self))))

pub loop-self-preserved-in-Ok-None-turn : goal.loop-self-preserved-in-Ok-None-turn
loop-self-preserved-in-Ok-None-turn c = then_rows_of c.args.program.now c.args.self.now c.loop-self.self c.turn.new.self c.loop-self.invariant (c.in-Ok-None-turn.ensures.rows c.in-Ok-None-turn.field-0-is)

pub returns-in-Ok-Some-turn-clause-says : goal.returns-in-Ok-Some-turn-clause-says
returns-in-Ok-Some-turn-clause-says c = then_alone_next c.args.program.now c.args.self.now c.loop-self.self c.turn.new.self c.in-Ok-Some-turn.does c.loop-self.invariant (rw c.in-Ok-Some-turn.field-0-is at c.in-Ok-Some-turn.ensures.says)

pub returns-in-Err-turn-clause-says : goal.returns-in-Err-turn-clause-says
returns-in-Err-turn-clause-says c = then_alone_next c.args.program.now c.args.self.now c.loop-self.self c.turn.new.self (Ended Memory) c.loop-self.invariant c.in-Err-turn.ensures.err

pub returns-in-Ok-false-clause-says : goal.returns-in-Ok-false-clause-says
returns-in-Ok-false-clause-says c = then_in_vain c.args.program.now c.args.self.now c.loop-self.self c.prepare.new.self c.wait_in_vain.new.self c.wait_in_vain.result c.loop-self.invariant (c.in-Ok-false.ensures.held c.in-Ok-false.field-0-test) c.wait_in_vain.ensures.does c.wait_in_vain.ensures.spent

pub returns-in-Err-prepare-clause-says : goal.returns-in-Err-prepare-clause-says
returns-in-Err-prepare-clause-says c = rw c.in-Err-prepare.ensures.err (then_alone c.args.program.now c.args.self.now c.loop-self.self c.loop-self.self (Ended Memory) c.loop-self.invariant (no_memory c.in-Err-prepare.ensures.memory))
