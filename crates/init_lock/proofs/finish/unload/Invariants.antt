use Rattle.std.proofs.Common.{◌≡◌, ℕ, ◌<◌, ◌≤◌, map, take, vec_len, vec_capacity, Some, slice_index_or, false, IsTrue}
use Rattle.std.specs.Mem.Slots.{slots_items, slots_filled, slots_len}
use Rattle.init_lock.proofs.finish.unload.Given as goal

abbrev pub invariant-loop-place : goal.invariant-loop-place
invariant-loop-place g l = (slots_items l.closed.slots ≡ slots_items l.initial.closed.slots) × (slots_len l.closed.slots ≡ l.places) × (vec_len l.records ≡ l.place) × (l.places ≤ vec_capacity l.records)
    × (map Some l.records.items ≡ take l.place (slots_items l.closed.slots))
    × ((k : ℕ) → k < l.place → slice_index_or (slots_filled l.closed.slots) k false ≡ false)
    × ((k : ℕ) → l.place ≤ k → k < l.places → IsTrue (slice_index_or (slots_filled l.closed.slots) k false))
