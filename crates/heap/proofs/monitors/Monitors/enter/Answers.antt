use Rattle.std.proofs.Common.{refl, sym, ap, ◌∙◌}
use Rattle.heap.specs.declared.monitors.Holder.{Holder}
use Rattle.heap.specs.Monitors.{is_busy, is_free}
use Rattle.heap.proofs.Held.{enters_again}
use Rattle.heap.proofs.monitors.Monitors.enter.Goals as goal

pub returns-in_ok-hold-in-None-clause-entered : goal.returns-in_ok-hold-in-None-clause-entered
returns-in_ok-hold-in-None-clause-entered c = is_free (sym c.holder.ensures ∙ c.in-None.is) c.in_ok-hold-in-None.ensures.ok

pub returns-in-Some-checked_add-clause-entered : goal.returns-in-Some-checked_add-clause-entered
returns-in-Some-checked_add-clause-entered c = enters_again c.args.self.now c.change.new.self c.args.thread c.args.monitor c.in-Some.holder _ c.holder.result c.holder.ensures c.in-Some.is c.if-holder-thread.true (ap (λ n. record { thread = c.args.thread; count = n }) c.in-Some-checked_add.ensures.1) c.change.ensures

pub returns-in-Some-2-clause-entered : goal.returns-in-Some-2-clause-entered
returns-in-Some-2-clause-entered c = is_busy (sym c.holder.ensures ∙ c.in-Some.is) c.if-holder-thread.false
