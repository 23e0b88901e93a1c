use Rattle.std.proofs.Common.{subst}
use Rattle.heap.specs.declared.monitors.Entry.{Entry}
use Rattle.heap.specs.Monitors.{Enters}
use Rattle.interpreter.specs.Memory.{notes_method}
use Rattle.interpreter.proofs.CodeBodies.{on_err}
use Rattle.interpreter.proofs.Entering.{locks_method_at, not_busy}
use Rattle.interpreter.proofs.interpreter.Interpreter.lock_method.Goals as goal

pub returns-in-Ok-Entered-clause-row : goal.returns-in-Ok-Entered-clause-row
returns-in-Ok-Entered-clause-row c = λ same. locks_method_at c.args.program.now c.args.self.now c.args.monitor c.enter.new.self c.len-depth.result c.push.new.self c.requires
    (subst (λ (e : Entry). Enters c.args.self.now.monitors c.args.self.now.thread c.args.monitor e c.enter.new.self) c.in-Ok-Entered.field-0-is c.in-Ok-Entered.ensures.entered) c.len-depth.ensures c.in_ok-push.ensures.ok

pub returns-in_err-push-clause-memory : goal.returns-in_err-push-clause-memory
returns-in_err-push-clause-memory c = on_err c.from_residual.result (notes_method c.requires (c.is_held_by_another.ensures.free c.if-is_held_by_another.false).1)

pub returns-in-Err-clause-memory : goal.returns-in-Err-clause-memory
returns-in-Err-clause-memory c = notes_method c.requires (c.is_held_by_another.ensures.free c.if-is_held_by_another.false).1

pub unreachable-requires : goal.unreachable-requires
unreachable-requires c = not_busy c.args.self.now.monitors _ c.enter.new.self c.args.self.now.thread c.args.monitor (c.is_held_by_another.ensures.free c.if-is_held_by_another.false).1
    (subst (λ (e : Entry). Enters c.args.self.now.monitors c.args.self.now.thread c.args.monitor e c.enter.new.self) c.in-Ok-Busy.field-0-is c.in-Ok-Busy.ensures.entered)
