use Rattle.std.proofs.Common.{◌≡◌, ◌-◌, [], map}
use Rattle.std.specs.List.{AllByRecursion}
use Rattle.init_lock.specs.Rule.{newcomers}
use Rattle.init_lock.specs.Known.{IsNewPass}
use Rattle.init_lock.specs.Closing.{numbers}
use Rattle.init_lock.proofs.open.deal.Given as goal

abbrev pub invariant-loop-number : goal.invariant-loop-number
invariant-loop-number g l = (l.seat.table_id ≡ l.initial.seat.table_id) × (l.seat.me ≡ (newcomers l.number (l.threads - l.number) l.shared.key.records.value.items, []))
    × (map (λ p. p.number) l.passes.items ≡ numbers 0 l.number)
    × AllByRecursion (IsNewPass l.shared.table_id l.shared.key.records.value.items) l.passes.items
