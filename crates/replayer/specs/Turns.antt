-- What all threads of a run share, which each has in its turns and leaves for the next. A turn is one touch; step 11, where an
-- initializer threw; or the end of a thread.
use Rattle.std.specs.Prelude.{◌≡◌, ℕ, List, [], ◌∷◌, if◌then◌else◌, nat_eq}
use Rattle.std.specs.List.{AllByRecursion}

-- what is there after these turns, each with the number of its thread and what that left
abbrev pub left_by : {H : Type 0} → H → List (ℕ × H) → H
left_by met [] = met
left_by met (turn ∷ turns) = left_by turn.1 turns

-- what thread t met, and what it left, at each of its turns
abbrev pub uses_of : {H : Type 0} → ℕ → H → List (ℕ × H) → List (H × H)
uses_of t met [] = []
uses_of t met (turn ∷ turns) = if nat_eq turn.0 t then (met, turn.1) ∷ uses_of t turn.1 turns else uses_of t turn.1 turns

-- each of these turns is t's
abbrev pub AreOf : {H : Type 0} → ℕ → List (ℕ × H) → Type 0
AreOf t turns = AllByRecursion (λ turn. turn.0 ≡ t) turns
