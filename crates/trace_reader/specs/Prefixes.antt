-- Bytes at the front of others.
use Rattle.std.specs.Prelude.{ℕ, List, [], ◌∷◌, ◌==◌, Option, Some, None, if◌then◌else◌}

-- what follows these bytes, if they are at the front
abbrev pub behind : List ℕ → List ℕ → Option (List ℕ)
behind [] bytes = Some bytes
behind (x ∷ xs) [] = None
behind (x ∷ xs) (b ∷ bs) = if b == x then behind xs bs else None
