use Rattle.std.proofs.Common.{◌≡◌, ◌++◌, ◌≤◌, List, length}
use Rattle.std.specs.List.{AllByRecursion}
use Rattle.init_lock.specs.declared.journal.Stamped.{Stamped}
use Rattle.init_lock.specs.Merging.{set_out}
use Rattle.init_lock.proofs.merging.unload.Given as goal

abbrev pub invariant-events : goal.invariant-events
invariant-events g l = (moved : List (Stamped g.row.R-Event.Denot)) × (l.initial.journal.events ≡ l.journal.events ++ moved)
    × AllByRecursion (λ s. l.start ≤ s.stamp) moved × (l.window ≡ set_out l.start moved l.initial.window) × (length l.window ≡ length l.initial.window)

abbrev pub decreases-events : goal.decreases-events
decreases-events g l = length l.journal.events
