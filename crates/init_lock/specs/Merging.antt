-- The journals of all passes as one list.
use Rattle.std.specs.Prelude.{◌≡◌, ℕ, ◌+◌, ◌-◌, ◌<◌, ◌≤◌, length, List, [], ◌∷◌, ◌++◌, Option, Some, map, take, slice_index_or, slice_set}
use Rattle.std.specs.List.{AllByRecursion}
use Rattle.init_lock.specs.declared.journal.Stamped.{Stamped}
use Rattle.init_lock.specs.Known.{Written}
use Rattle.init_lock.specs.Log.{Entry, journal_of}

module _ {E : Type 0} where
  -- these are the journals of all passes of the log, in the order of their numbers
  pub record AreJournals (log : List (Entry E)) (journals : List (Written E)) : Type 0 where
    pub all : AllByRecursion (λ e. e.by < length journals) log
    pub each : (n : ℕ) (other : Written E) → n < length journals → (slice_index_or journals n other).events ≡ journal_of n 0 log

  -- the number after the last stamp of a journal, 0 where it has no event
  abbrev pub end_of : List (Stamped E) → ℕ
  end_of [] = 0
  end_of (s ∷ []) = s.stamp + 1
  end_of (s ∷ t ∷ ss) = end_of (t ∷ ss)

  -- the window that begins with the stamp `start`, once each of these events is at its stamp's place there
  abbrev pub set_out : ℕ → List (Stamped E) → List (Option E) → List (Option E)
  set_out start [] window = window
  set_out start (s ∷ ss) window = slice_set (set_out start ss window) (s.stamp - start) (Some s.event)

  -- the events of a journal from `start` on went to their stamps' places in the window that begins with this stamp
  pub record Unloaded (start : ℕ) (before after : Written E) (window filled : List (Option E)) : Type 0 where
    pub moved : List (Stamped E)
    pub parts : before.events ≡ after.events ++ moved
    pub late : AllByRecursion (λ s. start ≤ s.stamp) moved
    pub early : end_of after.events ≤ start
    pub set : filled ≡ set_out start moved window

  -- the first places of the window have the events of these entries
  abbrev pub HasEvents : List (Entry E) → List (Option E) → Type 0
  HasEvents entries window = take (length entries) window ≡ map Some (map (λ e. e.event) entries)
