-- The escapes of a string: JLS SE 8 3.10.6, but for the octal ones, and with \u among them as the Jasmin user
-- guide has it. The bytes of a string are UTF-8. The choice among them is this project's own (docs/JASMIN.md).
use Rattle.std.specs.Prelude.{ℕ, suc, zero, ◌+◌, ◌*◌, Bool, ◌&&◌, List, [], ◌∷◌, ◌++◌, length, Option, Some, None, Result, Ok, Err, nat_lt, ◌==◌, if◌then◌else◌}
use Rattle.std.specs.Char.{digit_value, encode_utf8}
use Rattle.std.specs.Char.Utf16.{is_high_surrogate, is_low_surrogate, surrogate_pair_char}
use Rattle.jasmin_words.specs.declared.escape.EscapeFault.{EscapeFault}
use Rattle.jasmin_words.specs.declared.escape.EscapeFault.TheVariants.{Wrong, Cut}
use Rattle.jasmin_words.specs.declared.escape.Part.{Part}
use Rattle.jasmin_words.specs.declared.escape.Part.TheVariants.{Byte, Char}
use Rattle.sequence.specs.Gives.{◌>>=◌}

-- the bytes that a part of a string means
abbrev pub encoded : Part → List ℕ
encoded (Byte b) = b ∷ []
encoded (Char c) = encode_utf8 c

-- a hexadecimal digit of either case
abbrev pub is_hex : ℕ → Bool
is_hex b = nat_lt (digit_value b) 16

abbrev pub hex_digit : ℕ → Option ℕ
hex_digit b = if is_hex b then Some (digit_value b) else None

abbrev pub hex_at : List ℕ → Result (ℕ × List ℕ) EscapeFault
hex_at [] = Err Cut
hex_at (b ∷ rest) = if is_hex b then Ok (digit_value b, rest) else Err Wrong

-- the unit of UTF-16 that four hexadecimal digits name
unfoldable pub unit_at : List ℕ → Result (ℕ × List ℕ) EscapeFault
unit_at bytes = do
  a ← hex_at bytes
  b ← hex_at a.1
  c ← hex_at b.1
  d ← hex_at c.1
  Ok (((a.0 * 16 + b.0) * 16 + c.0) * 16 + d.0, d.1)

-- what follows a high surrogate: the escape of a low one
unfoldable pub low_at : ℕ → List ℕ → Result (Part × List ℕ) EscapeFault
low_at high [] = Err Cut
low_at high (b ∷ []) = if b == 92 then Err Cut else Err Wrong
low_at high (b ∷ u ∷ rest) =
    if b == 92 && u == 117
    then (unit_at rest >>= λ low. if is_low_surrogate low.0 then Ok (Char (surrogate_pair_char high low.0), low.1) else Err Wrong)
    else Err Wrong

-- what follows \u
unfoldable pub unicode_at : List ℕ → Result (Part × List ℕ) EscapeFault
unicode_at bytes = unit_at bytes >>= λ unit.
    if is_low_surrogate unit.0 then Err Wrong
    else if is_high_surrogate unit.0 then low_at unit.0 unit.1
    else Ok (Char unit.0, unit.1)

-- what a letter after a backslash means
abbrev pub escape : ℕ → Option ℕ
escape e =
    if e == 110 then Some 10
    else if e == 116 then Some 9
    else if e == 114 then Some 13
    else if e == 98 then Some 8
    else if e == 102 then Some 12
    else if e == 34 then Some 34
    else if e == 39 then Some 39
    else if e == 92 then Some 92
    else None

abbrev pub byte_or_wrong : Option ℕ → List ℕ → Result (Part × List ℕ) EscapeFault
byte_or_wrong (Some c) rest = Ok (Byte c, rest)
byte_or_wrong None rest = Err Wrong

-- what follows a backslash
unfoldable pub escape_at : List ℕ → Result (Part × List ℕ) EscapeFault
escape_at [] = Err Cut
escape_at (e ∷ rest) = if e == 117 then unicode_at rest else byte_or_wrong (escape e) rest

-- the next part of a string, and what follows it
unfoldable pub part_at : List ℕ → Result (Part × List ℕ) EscapeFault
part_at [] = Err Cut
part_at (b ∷ rest) = if b == 92 then escape_at rest else Ok (Byte b, rest)

-- more bytes before those that are meant
abbrev pub before : List ℕ → Result (List ℕ) EscapeFault → Result (List ℕ) EscapeFault
before front read = read >>= λ bytes. Ok (front ++ bytes)

unfoldable pub unescaped_in : ℕ → List ℕ → Result (List ℕ) EscapeFault
unescaped_in n [] = Ok []
unescaped_in zero (b ∷ bs) = Err Cut
unescaped_in (suc n) (b ∷ bs) = part_at (b ∷ bs) >>= λ part. before (encoded part.0) (unescaped_in n part.1)

-- the bytes that a written string means; each part takes a byte at least
unfoldable pub unescaped : List ℕ → Result (List ℕ) EscapeFault
unescaped bytes = unescaped_in (length bytes) bytes
