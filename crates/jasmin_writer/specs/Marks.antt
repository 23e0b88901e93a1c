-- Marks for the places that are named.
use Rattle.std.specs.Prelude.{◌≡◌, ℕ, ◌<◌, Bool, false, List, length, slice_index_or}
use Rattle.jasmin_writer.specs.Canonical.{is_named}

-- there are n marks, and each place below n is marked exactly if it is named
pub record IsMarked (n : ℕ) (marks : List Bool) (places : List ℕ) : Type 0 where
  pub len : length marks ≡ n
  pub each : (k : ℕ) → k < n → slice_index_or marks k false ≡ is_named places k
