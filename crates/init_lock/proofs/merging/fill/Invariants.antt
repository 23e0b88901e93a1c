use Rattle.std.proofs.Common.{◌≡◌, ◌++◌, ◌≤◌, List, length}
use Rattle.init_lock.specs.Log.{Entry}
use Rattle.init_lock.specs.Merging.{AreJournals}
use Rattle.init_lock.proofs.Merges.{Filled}
use Rattle.init_lock.proofs.merging.fill.Given as goal

abbrev pub invariant-journals : goal.invariant-journals
invariant-journals g l = (length l.window ≡ length l.initial.window) × ((before after : List (Entry g.row.R-Event.Denot)) → length before ≡ l.start → length after ≤ length l.initial.window
    → AreJournals (before ++ after) l.initial.journals → Filled l.at before after l.journals l.window)
