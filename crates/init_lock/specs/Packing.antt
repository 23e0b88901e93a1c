-- How events lie in the rows of a journal.
use Rattle.std.specs.Prelude.{◌≡◌, ℕ, suc, ◌+◌, ◌^◌, ◌<◌, length, Option, Some, None, slice_index}
use Rattle.event_rows.specs.Rows.{Row}
use Rattle.init_lock.specs.declared.journal.Stamped.{Stamped}
use Rattle.init_lock.specs.Log.{stamped}

-- a place, if there is one, has a word
abbrev pub IsLow : Option ℕ → Type 0
IsLow (Some n) = n + 1 < 2 ^ 64
IsLow None = Unit {0}

-- the place that a word stands for
abbrev pub place_in : ℕ → Option ℕ
place_in Prim.Native.Nat.zero = None
place_in (suc n) = Some n

module _ {T E : Type 0} where
  -- the event of a row, where words and texts stand for such events
  abbrev pub event_in : (ℕ → Option T → E) → Row T → Stamped E
  event_in unpacked row = stamped (slice_index row.words 0) (place_in (slice_index row.words 1)) (unpacked (slice_index row.words 2) row.text)

module _ {T : Type 0} where
  -- the words of a row are a stamp, one for the place, and that of a packed event
  pub record IsEventRow (is_packed : ℕ → Option T → Type 0) (row : Row T) : Type 0 where
    pub three : length row.words ≡ 3
    pub below : slice_index row.words 0 < 2 ^ 62
    pub packed : is_packed (slice_index row.words 2) row.text
