-- Numbers in words: decimal without leading zeros.
use Rattle.std.specs.Prelude.{ℕ, ℤ, pos, List, [], ◌∷◌, Bool, false, not, ◌&&◌, nat_lt, nat_le, ◌==◌, Option, Some, None, Result, Ok, Err, if◌then◌else◌}
use Rattle.std.specs.Fmt.{decimal, signed_decimal}
use Rattle.std.specs.List.{list_all}
use Rattle.std.specs.Str.{bytes_eq}
use Rattle.jasmin_words.specs.Integers.{integer_of}
use Rattle.trace_reader.specs.declared.fault.TraceFaultKind.{TraceFaultKind}
use Rattle.trace_reader.specs.declared.fault.TraceFaultKind.TheVariants.{BadLine, NumberOutOfTurn, UnknownName}

abbrev pub is_digit : ℕ → Bool
is_digit b = nat_le 48 b && nat_le b 57

-- one digit, or more that don't begin with 0
abbrev pub is_number : List ℕ → Bool
is_number [] = false
is_number (d ∷ []) = is_digit d
is_number (d ∷ e ∷ ds) = is_digit d && not (d == 48) && list_all is_digit (e ∷ ds)

-- the word is the decimal of this number
abbrev pub spelled_so : List ℕ → Option ℤ → Option ℤ
spelled_so word None = None
spelled_so word (Some n) = if bytes_eq word (signed_decimal n) then Some n else None

-- the int whose decimal the word is
unfoldable pub int_in : List ℕ → Option ℤ
int_in word = spelled_so word (integer_of word)

abbrev pub from_zero : Option ℤ → Option ℕ
from_zero (Some (pos n)) = Some n
from_zero other = None

-- the same from 0 on
abbrev pub number_in : List ℕ → Option ℕ
number_in word = from_zero (int_in word)

-- the number of the line
unfoldable pub number_at : ℕ → List ℕ → Result (Unit {0}) TraceFaultKind
number_at n word = if bytes_eq word (decimal n) then Ok tt else if is_number word then Err NumberOutOfTurn else Err BadLine

abbrev pub known_thread : ℕ → List ℕ → Option ℕ → Result ℕ TraceFaultKind
known_thread threads digits (Some t) = if nat_lt t threads then Ok t else Err UnknownName
known_thread threads digits None = if is_number digits then Err UnknownName else Err BadLine

-- t and the number of a thread
unfoldable pub thread_at : ℕ → List ℕ → Result ℕ TraceFaultKind
thread_at threads [] = Err BadLine
thread_at threads (b ∷ digits) = if b == 116 then known_thread threads digits (number_in digits) else Err BadLine
