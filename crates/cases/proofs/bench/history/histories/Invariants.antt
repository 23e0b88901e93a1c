use Rattle.std.proofs.Common.{◌≡◌, ◌≤◌, ◌-◌, [], vec_len}
use Rattle.std.specs.List.{AllByRecursion}
use Rattle.cases.proofs.bench.history.histories.Given as goal

abbrev pub invariant-records : goal.invariant-records
invariant-records l = (vec_len l.records ≤ l.count) × AllByRecursion (λ r. r.events.items ≡ []) l.records.items

abbrev pub decreases-records : goal.decreases-records
decreases-records l = l.count - vec_len l.records
