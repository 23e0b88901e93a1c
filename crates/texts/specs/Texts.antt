-- Lists of texts without repeats.
use Rattle.std.specs.Prelude.{ℕ, Bool, List, [], ◌∷◌, ◌++◌, Option, position, if◌then◌else◌}
use Rattle.std.specs.List.{list_any}
use Rattle.std.specs.Str.{bytes_eq}

-- the place of a text
abbrev pub place_of_text : List ℕ → List (List ℕ) → Option ℕ
place_of_text text texts = position (bytes_eq text) texts

abbrev pub has_text : List ℕ → List (List ℕ) → Bool
has_text text texts = list_any (bytes_eq text) texts

-- a text at the end unless it is there already
abbrev pub note_text : List (List ℕ) → List ℕ → List (List ℕ)
note_text texts text = if has_text text texts then texts else texts ++ text ∷ []
