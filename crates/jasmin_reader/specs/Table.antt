-- The words of base types.
use Rattle.std.specs.Prelude.{ℕ, List, Option, map}
use Rattle.jasmin_text.specs.Tables.{find_row}
use Rattle.jasmin_reader.specs.declared.table.BaseWord.{BaseWord}
use Rattle.jasmin_reader.specs.declared.table.TheConstants.{BASE_WORDS}

unfoldable pub base_words : List (List ℕ × BaseWord)
base_words = map (λ r. (r.0.now, r.1)) BASE_WORDS

-- the base type of that word
unfoldable pub base_at : List ℕ → Option BaseWord
base_at w = find_row w base_words
