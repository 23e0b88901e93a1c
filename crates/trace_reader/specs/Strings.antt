-- Texts in their one canonical spelling.
use Rattle.std.specs.Prelude.{ℕ, zero, suc, ◌+◌, ◌-◌, ◌*◌, List, [], ◌∷◌, ◌++◌, length, Bool, not, ◌&&◌, ◌||◌, nat_lt, nat_le, ◌==◌, Option, Some, None, Result, Ok, Err, if◌then◌else◌}
use Rattle.std.specs.Str.{is_utf8}
use Rattle.sequence.specs.Gives.{◌>>=◌}
use Rattle.trace_reader.specs.Words.{ends_word}
use Rattle.trace_reader.specs.declared.fault.TraceFaultKind.{TraceFaultKind}
use Rattle.trace_reader.specs.declared.fault.TraceFaultKind.TheVariants.{BadLine, BadValue}

-- a hexadecimal digit of lower case
abbrev pub low_hex : ℕ → Option ℕ
low_hex d = if nat_le 48 d && nat_le d 57 then Some (d - 48) else if nat_le 97 d && nat_le d 102 then Some (d - 87) else None

-- what has no letter of its own and doesn't stand for itself
abbrev pub has_code : ℕ → Bool
has_code b = (nat_lt b 32 || b == 127) && not (b == 10) && not (b == 9) && not (b == 13)

abbrev pub coded : Option ℕ → Option ℕ → Option ℕ
coded (Some high) (Some low) = if has_code (high * 16 + low) then Some (high * 16 + low) else None
coded _ _ = None

-- what a letter after a backslash means
abbrev pub letter : ℕ → Option ℕ
letter e = if e == 34 then Some 34 else if e == 92 then Some 92 else if e == 110 then Some 10 else if e == 116 then Some 9 else if e == 114 then Some 13 else None

abbrev pub byte_or_bad : Option ℕ → List ℕ → Result (ℕ × List ℕ) TraceFaultKind
byte_or_bad (Some b) rest = Ok (b, rest)
byte_or_bad None rest = Err BadValue

-- after \u: 00 and two digits
unfoldable pub code_at : List ℕ → Result (ℕ × List ℕ) TraceFaultKind
code_at (z ∷ y ∷ high ∷ low ∷ rest) = if z == 48 && y == 48 then byte_or_bad (coded (low_hex high) (low_hex low)) rest else Err BadValue
code_at _ = Err BadValue

-- after a backslash
unfoldable pub escape_at : List ℕ → Result (ℕ × List ℕ) TraceFaultKind
escape_at [] = Err BadValue
escape_at (e ∷ rest) = if e == 117 then code_at rest else byte_or_bad (letter e) rest

-- what stands for itself
abbrev pub is_plain : ℕ → Bool
is_plain b = nat_le 32 b && not (b == 127) && not (b == 34)

-- what stands for itself, and is no backslash
abbrev pub stands_alone : ℕ → Bool
stands_alone b = is_plain b && not (b == 92)

-- how many bytes at the front stand for themselves
abbrev pub plain_len : List ℕ → ℕ
plain_len [] = 0
plain_len (b ∷ bs) = if stands_alone b then 1 + plain_len bs else 0

-- one byte of a text, and what follows its spelling
unfoldable pub byte_at : List ℕ → Result (ℕ × List ℕ) TraceFaultKind
byte_at [] = Err BadValue
byte_at (b ∷ rest) = if b == 92 then escape_at rest else if is_plain b then Ok (b, rest) else Err BadValue

-- more bytes before those that are read
abbrev pub before : List ℕ → Result (List ℕ × List ℕ) TraceFaultKind → Result (List ℕ × List ℕ) TraceFaultKind
before front read = read >>= λ x. Ok (front ++ x.0, x.1)

-- after the closing quote, where it is here
abbrev pub closing : List ℕ → Option (List ℕ)
closing [] = None
closing (b ∷ bs) = if b == 34 then Some bs else None

unfoldable pub bytes_in : ℕ → List ℕ → Result (List ℕ × List ℕ) TraceFaultKind
bytes_in n [] = Err BadValue
bytes_in zero (b ∷ bs) = if b == 34 then Ok ([], bs) else Err BadValue
bytes_in (suc n) (b ∷ bs) = if b == 34 then Ok ([], bs) else byte_at (b ∷ bs) >>= λ x. before (x.0 ∷ []) (bytes_in n x.1)

-- the bytes up to the closing quote, and what follows it; each takes a byte at least
unfoldable pub bytes_at : List ℕ → Result (List ℕ × List ℕ) TraceFaultKind
bytes_at bytes = bytes_in (length bytes) bytes

-- after the opening quote
unfoldable pub quote_at : List ℕ → Result (List ℕ) TraceFaultKind
quote_at [] = Err BadLine
quote_at (b ∷ bs) = if b == 34 then Ok bs else if ends_word b then Err BadLine else Err BadValue

-- after the closing quote the line ends
unfoldable pub closed_at : List ℕ → Result (List ℕ) TraceFaultKind
closed_at [] = Err BadLine
closed_at (b ∷ bs) = if b == 10 then Ok bs else if b == 32 then Err BadLine else Err BadValue

abbrev pub utf8_at : List ℕ → Result (Unit {0}) TraceFaultKind
utf8_at text = if is_utf8 text then Ok tt else Err BadValue

-- the text between its quotes, to the line's end
unfoldable pub text_at : List ℕ → Result (List ℕ × List ℕ) TraceFaultKind
text_at bytes = do
  inside ← quote_at bytes
  text ← bytes_at inside
  _ ← utf8_at text.0
  after ← closed_at text.1
  Ok (text.0, after)
