-- Integers in words, decimal or as the pattern of 32 bits: this project's own choice (docs/JASMIN.md).
use Rattle.std.specs.Prelude.{ℕ, ◌+◌, ◌*◌, ◌<◌, ◌≤◌, ◌&&◌, List, [], ◌∷◌, length, Option, Some, None, ℤ, pos, ◌-ℤ◌, neg_ℤ, nat_lt, nat_le, ◌==◌, if◌then◌else◌}
use Rattle.std.specs.Char.{digit_value}
use Rattle.std.specs.Str.Parse.{IsNumeral, digits_value}

-- the number that the digits go on from v, while it is below 2 ^ 32
abbrev pub number_after : ℕ → ℕ → List ℕ → Option ℕ
number_after base v [] = Some v
number_after base v (d ∷ ds) = if nat_lt (digit_value d) base && nat_lt (v * base + digit_value d) 4294967296 then number_after base (v * base + digit_value d) ds else None

-- the number of one digit or more
unfoldable pub magnitude_of : ℕ → List ℕ → Option ℕ
magnitude_of base [] = None
magnitude_of base (d ∷ ds) = number_after base 0 (d ∷ ds)

abbrev pub positive : Option ℕ → Option ℤ
positive None = None
positive (Some n) = if nat_lt n 2147483648 then Some (pos n) else None

abbrev pub negative : Option ℕ → Option ℤ
negative None = None
negative (Some n) = if nat_le n 2147483648 then Some (neg_ℤ (pos n)) else None

-- the int whose 32 bits are those of the number
abbrev pub of_bits : ℕ → ℤ
of_bits n = if nat_lt n 2147483648 then pos n else (pos n -ℤ pos 4294967296)

abbrev pub pattern : Option ℕ → Option ℤ
pattern None = None
pattern (Some n) = Some (of_bits n)

-- what a word is read as
unfoldable pub integer_of : List ℕ → Option ℤ
integer_of [] = None
integer_of (a ∷ []) = if a == 45 then negative (magnitude_of 10 []) else positive (magnitude_of 10 (a ∷ []))
integer_of (a ∷ b ∷ rest) =
    if a == 45 then negative (magnitude_of 10 (b ∷ rest))
    else if a == 48 && b == 120 then (if nat_le (length rest) 8 then pattern (magnitude_of 16 rest) else None)
    else positive (magnitude_of 10 (a ∷ b ∷ rest))

-- An integer is decimal digits, or a minus and decimal digits, within the 32 bits of an int; or it is 0x and
-- one to eight hexadecimal digits of either case, the pattern of 32 bits. Zeros may lead.
pub data IsInteger : List ℕ → ℤ → Type 0 where
  decimal : {digits : List ℕ} → IsNumeral 10 digits → digits_value 10 digits < 2147483648 → IsInteger digits (pos (digits_value 10 digits))
  minus : {digits : List ℕ} → IsNumeral 10 digits → digits_value 10 digits ≤ 2147483648 → IsInteger (45 ∷ digits) (neg_ℤ (pos (digits_value 10 digits)))
  bits : {digits : List ℕ} → IsNumeral 16 digits → length digits ≤ 8 → IsInteger (48 ∷ 120 ∷ digits) (of_bits (digits_value 16 digits))
