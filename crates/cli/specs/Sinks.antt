-- Writing that may fail on its way.
use Rattle.std.specs.Prelude.{ℕ, zero, suc, ◌+◌, ◌-◌, ◌^◌, ◌<◌, ◌++◌, Bool, true, false, List, [], ◌∷◌, Option, Some, None, if◌then◌else◌, length, min, take}
use Rattle.std.specs.Borrow.{Bor}
use Rattle.std.specs.Io.KnownBytes.{Appends}

-- one failure more; the count stays at the greatest number of 64 bits
abbrev pub raised : ℕ → ℕ
raised failures = min (failures + 1) (2 ^ 64 - 1)

-- a write that failed, or took nothing of a piece that isn't empty
abbrev pub is_failure : Option ℕ → List ℕ → Bool
is_failure None piece = true
is_failure (Some zero) (byte ∷ rest) = true
is_failure (Some n) piece = false

-- the count of failures after a write
abbrev pub failures_after : ℕ → Option ℕ → List ℕ → ℕ
failures_after failures written piece = if is_failure written piece then raised failures else failures

-- known bytes grow by a front of these: all of them, or fewer, or none
abbrev pub AppendsFront : Option (List ℕ) → Option (List ℕ) → List ℕ → Type 0
AppendsFront before after whole = (n : ℕ) × Appends before after (take n whole)

-- a front that isn't all of them
abbrev pub AppendsShort : Option (List ℕ) → Option (List ℕ) → List ℕ → Type 0
AppendsShort before after whole = (n : ℕ) × (n < length whole) × Appends before after (take n whole)

-- pieces one after the other
abbrev pub joined : List (Bor (List ℕ)) → List ℕ
joined [] = []
joined (piece ∷ rest) = piece.now ++ joined rest

-- what was written to memory that has room for so many bytes more, and how often a write failed
pub record Limited : Type 0 where
  pub written : List ℕ
  pub left : ℕ
  pub failures : ℕ

-- how many bytes of a piece such memory takes; a piece that isn't empty fails where no room is left
abbrev pub taken_within : ℕ → List ℕ → Option ℕ
taken_within left [] = Some 0
taken_within zero (byte ∷ rest) = None
taken_within (suc more) (byte ∷ rest) = Some (min (suc more) (length (byte ∷ rest)))
