-- The words of a line: one space separates two of them, and LF ends the line.
use Rattle.std.specs.Prelude.{ℕ, ◌+◌, List, [], ◌∷◌, take, drop, Bool, ◌||◌, ◌==◌, Result, Ok, Err, if◌then◌else◌}
use Rattle.sequence.specs.Gives.{◌>>=◌}
use Rattle.trace_reader.specs.declared.fault.TraceFaultKind.{TraceFaultKind}
use Rattle.trace_reader.specs.declared.fault.TraceFaultKind.TheVariants.{BadLine}

-- a space or LF
abbrev pub ends_word : ℕ → Bool
ends_word b = b == 32 || b == 10

abbrev pub word_len : List ℕ → ℕ
word_len [] = 0
word_len (b ∷ bs) = if ends_word b then 0 else 1 + word_len bs

-- a word of one byte or more, and what follows it
unfoldable pub word_at : List ℕ → Result (List ℕ × List ℕ) TraceFaultKind
word_at bytes = if word_len bytes == 0 then Err BadLine else Ok (take (word_len bytes) bytes, drop (word_len bytes) bytes)

-- after the space
unfoldable pub space_at : List ℕ → Result (List ℕ) TraceFaultKind
space_at [] = Err BadLine
space_at (b ∷ bs) = if b == 32 then Ok bs else Err BadLine

-- the next word, after its space
unfoldable pub next_at : List ℕ → Result (List ℕ × List ℕ) TraceFaultKind
next_at bytes = space_at bytes >>= word_at

-- after the line's end
unfoldable pub end_at : List ℕ → Result (List ℕ) TraceFaultKind
end_at [] = Err BadLine
end_at (b ∷ bs) = if b == 10 then Ok bs else Err BadLine
