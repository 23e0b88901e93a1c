use Rattle.std.proofs.Common.{ℕ, ◌<◌, ◌≤◌, length, slice_index_or}
use Rattle.std.specs.List.{All}
use Rattle.init_lock.specs.Known.{Written}
use Rattle.init_lock.specs.Merging.{end_of}
use Rattle.init_lock.proofs.merging.end_of_all.Given as goal

abbrev pub invariant-journals : goal.invariant-journals
invariant-journals g l = ((n : ℕ) (other : Written g.row.R-Event.Denot) → n < l.at → n < length l.journals → end_of (slice_index_or l.journals n other).events ≤ l.most)
    × ((bound : ℕ) → All (λ j. end_of j.events ≤ bound) l.journals → l.most ≤ bound)
