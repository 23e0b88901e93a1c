use Rattle.std.proofs.Common.{◌+◌, ◌≤◌, List, min, vec_len, vec_capacity}
use Rattle.init_lock.specs.declared.merging.TheConstants.{WINDOW}
use Rattle.init_lock.specs.Log.{Entry}
use Rattle.init_lock.specs.Merging.{AreJournals}
use Rattle.init_lock.proofs.Merges.{IsLeft}
use Rattle.init_lock.proofs.merging.merge.Given as goal

abbrev pub invariant-windows : goal.invariant-windows
invariant-windows g l = (vec_len l.merged + l.left ≤ vec_capacity l.merged) × (min l.left WINDOW ≤ vec_len l.window)
    × ((log : List (Entry g.row.R-Event.Denot)) → AreJournals log l.fn.journals.items → IsLeft log l.left l.journals.items l.merged.items)

abbrev pub decreases-windows : goal.decreases-windows
decreases-windows g l = l.left
