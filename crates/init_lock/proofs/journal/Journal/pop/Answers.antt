use Rattle.std.proofs.Common.{subst, ◌∙◌}
use Rattle.std.specs.List.{AllByRecursion}
use Rattle.init_lock.specs.Packing.{IsEventRow}
use Rattle.init_lock.proofs.Merges.{all_parts}
use Rattle.init_lock.proofs.journal.Journal.pop.Goals as goal

pub invariant_of-self : goal.invariant_of-self
invariant_of-self g c =
    let i = c.self.invariant in
    let text = c.pop-text.ensures in
    (text.width ∙ i.0, (all_parts (IsEventRow g.R.Keeps.is_packed) c.pop-text.new.self.rows _ (subst (AllByRecursion (IsEventRow g.R.Keeps.is_packed)) text.rows i.1)).0)
