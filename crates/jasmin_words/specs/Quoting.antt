-- The one canonical spelling of a string, in files and in traces.
use Rattle.std.specs.Prelude.{ℕ, ◌/◌, ◌%◌, ◌||◌, List, [], ◌∷◌, ◌++◌, nat_lt, ◌==◌, if◌then◌else◌}
use Rattle.std.specs.List.{flat_map}
use Rattle.std.specs.Char.{digit_char}

-- A quote, a backslash, LF, TAB and CR have a letter; other bytes below 32 and 127 have \u and four lower case
-- hexadecimal digits; every other byte represents itself.
abbrev pub quoted_byte : ℕ → List ℕ
quoted_byte b =
    if b == 34 then 92 ∷ 34 ∷ []
    else if b == 92 then 92 ∷ 92 ∷ []
    else if b == 10 then 92 ∷ 110 ∷ []
    else if b == 9 then 92 ∷ 116 ∷ []
    else if b == 13 then 92 ∷ 114 ∷ []
    else if nat_lt b 32 || b == 127 then 92 ∷ 117 ∷ 48 ∷ 48 ∷ digit_char (b / 16) ∷ digit_char (b % 16) ∷ []
    else b ∷ []

abbrev pub quoted_bytes : List ℕ → List ℕ
quoted_bytes bytes = flat_map quoted_byte bytes

-- the string with its quotes
abbrev pub quoted : List ℕ → List ℕ
quoted bytes = 34 ∷ (quoted_bytes bytes ++ 34 ∷ [])
