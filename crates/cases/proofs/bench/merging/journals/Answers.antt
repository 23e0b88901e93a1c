use Rattle.std.proofs.Common.{List, ℕ, sym, ap, ◌∙◌, subst}
use Rattle.std.specs.List.Sorted.{IsPermutation}
use Rattle.std.proofs.lemmas.List.Sorted.{IsPermutation-refl}
use Rattle.init_lock.specs.Closing.{numbers}
use Rattle.cases.proofs.bench.merging.journals.Goals as goal

pub finish-requires-clause-passes : goal.finish-requires-clause-passes
finish-requires-clause-passes c =
    subst (λ (ns : List ℕ). IsPermutation (numbers 0 c.in_ok-table.table.threads) ns)
    (ap (numbers 0) c.in_ok-table.ensures.threads ∙ (sym c.in_ok-table.ensures.numbers ∙ sym c.in_ok-drawn.ensures.numbers))
    (IsPermutation-refl (numbers 0 c.in_ok-table.table.threads))
