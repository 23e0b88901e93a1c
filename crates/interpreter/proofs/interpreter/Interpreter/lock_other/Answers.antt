use Rattle.std.proofs.Common.{refl, subst}
use Rattle.heap.specs.declared.monitors.Entry.{Entry}
use Rattle.heap.specs.Monitors.{Enters}
use Rattle.interpreter.specs.Rows.{locks}
use Rattle.interpreter.specs.Memory.{notes_holder}
use Rattle.interpreter.proofs.CodeBodies.{on_err}
use Rattle.interpreter.proofs.Entering.{busy_at}
use Rattle.interpreter.proofs.interpreter.Interpreter.lock_other.Goals as goal

pub returns-in-Entered-clause-row : goal.returns-in-Entered-clause-row
returns-in-Entered-clause-row c = λ same. locks c.requires (subst (λ (e : Entry). Enters c.args.self.now.monitors c.args.self.now.thread c.args.monitor e c.enter.new.self) c.in-Entered.is c.in_ok-enter.ensures.entered) refl

pub returns-in-Busy-clause-busy : goal.returns-in-Busy-clause-busy
returns-in-Busy-clause-busy c = λ same. busy_at c.args.self.now c.args.monitor c.enter.new.self c.args.self.now.taken (subst (λ (e : Entry). Enters c.args.self.now.monitors c.args.self.now.thread c.args.monitor e c.enter.new.self) c.in-Busy.is c.in_ok-enter.ensures.entered) refl

pub returns-in_err-enter-clause-memory : goal.returns-in_err-enter-clause-memory
returns-in_err-enter-clause-memory c = on_err c.from_residual.result (notes_holder c.requires c.in_err-enter.ensures.memory)
