use Rattle.std.proofs.Common.{◌≡◌, ◌+◌, ◌≤◌, List, length, map, take, vec_len, vec_capacity, Some}
use Rattle.init_lock.proofs.Merges.{Emptied}
use Rattle.init_lock.proofs.merging.empty.Given as goal

abbrev pub invariant-places : goal.invariant-places
invariant-places g l = (l.left ≤ l.count) × (length l.window ≡ length l.initial.window) × (vec_len l.merged + l.left ≤ vec_len l.initial.merged + l.count) × (vec_capacity l.merged ≡ vec_capacity l.initial.merged)
    × ((events : List g.row.E.Denot) → take l.count l.initial.window ≡ map Some events → Emptied events l.left l.window l.initial.merged.items l.merged.items)

abbrev pub decreases-places : goal.decreases-places
decreases-places g l = l.left
