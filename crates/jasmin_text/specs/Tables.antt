-- Tables of words.
use Rattle.std.specs.Prelude.{ℕ, Bool, false, ◌||◌, List, [], ◌∷◌, Option, Some, None, if◌then◌else◌, map, is_some, codes}
use Rattle.std.specs.Borrow.{Bor}
use Rattle.std.specs.Str.{bytes_eq}
use Rattle.jasmin_text.specs.declared.table.AccessWord.{AccessWord}
use Rattle.jasmin_text.specs.declared.table.AccessWord.TheVariants.{Dropped}
use Rattle.jasmin_text.specs.declared.table.TheConstants.{ACCESS_WORDS}

-- what the table has beside the word
abbrev pub find_row : {T : Type 0} → List ℕ → List (List ℕ × T) → Option T
find_row word [] = None
find_row word (row ∷ rows) = if bytes_eq word row.0 then Some row.1 else find_row word rows

-- a table's rows, without where they lie in memory
abbrev pub rows : {T : Type 0} → List (Bor (List ℕ) × T) → List (List ℕ × T)
rows table = map (λ r. (r.0.now, r.1)) table

-- the word is one of these
abbrev pub stands_in : List ℕ → List (List ℕ) → Bool
stands_in word [] = false
stands_in word (w ∷ words) = bytes_eq word w || stands_in word words

-- the access words
unfoldable pub access_words : List (List ℕ × AccessWord)
access_words = map (λ r. (r.0.now, r.1)) ACCESS_WORDS

unfoldable pub access_of : List ℕ → Option AccessWord
access_of word = find_row word access_words

abbrev pub is_access_word : List ℕ → Bool
is_access_word word = is_some (access_of word)

-- what a word says before the name of a field or a method, where interface says nothing
unfoldable pub member_access_of : List ℕ → Option AccessWord
member_access_of word = if bytes_eq word (codes "interface") then Some Dropped else access_of word

-- an access word of fields and methods
abbrev pub is_member_word : List ℕ → Bool
is_member_word word = is_some (member_access_of word)
