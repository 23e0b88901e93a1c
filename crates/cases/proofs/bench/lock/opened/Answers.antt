use Rattle.std.proofs.Common.{length, sym, ap, ◌∙◌}
use Rattle.init_lock.proofs.Lists.{length_map}
use Rattle.init_lock.proofs.Finals.{length_numbers}
use Rattle.cases.proofs.Passes.{are_ready}
use Rattle.cases.proofs.bench.lock.opened.Goals as goal

pub returns-clause-count : goal.returns-clause-count
returns-clause-count c = let passes = c.in_ok-table.passes in
    passes.ok.0 ∙ (sym (length_map (λ p. p.number) passes.items) ∙ (ap length c.in_ok-table.ensures.numbers ∙ length_numbers 0 c.args.threads))

pub returns-clause-passes : goal.returns-clause-passes
returns-clause-passes c = are_ready c.in_ok-table.table.id c.in_ok-histories.field-0.items c.in_ok-table.passes.items c.in_ok-table.ensures.passes
