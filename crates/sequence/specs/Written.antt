-- Texts that are written piece by piece.
use Rattle.std.specs.Prelude.{◌≡◌, ◌++◌, ℕ, List, Bool, false}

-- what is written so far, unless it is lost
pub record Written : Type 0 where
  pub text : List ℕ
  pub is_lost : Bool

-- these bytes are written after what was there: where they aren't lost, nothing was before
abbrev pub Adds : Written → List ℕ → Written → Type 0
Adds before bytes after = after.is_lost ≡ false → (before.is_lost ≡ false) × (after.text ≡ before.text ++ bytes)
