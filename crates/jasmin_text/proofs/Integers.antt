-- An integer that is read can be spelled, and fits 32 bits.
use Rattle.std.proofs.Common.{◌≡◌, ℕ, zero, suc, ◌^◌, ◌<◌, ◌≤◌, true, List, length, refl, arith}
use Rattle.std.proofs.lemmas.Bool.{lt-ltb, ltb-true}
use Rattle.std.proofs.lemmas.Int.Digits.{digits_value-lt}
use Rattle.std.proofs.Math.Nat.{pow-le-pow_right}
use Rattle.std.specs.Prelude.{ℤ, pos, negsuc, neg_ℤ, FitsSigned}
use Rattle.std.specs.Int.{w32}
use Rattle.std.specs.Str.Parse.{digits_value}
use Rattle.jasmin_words.specs.Integers.{of_bits, IsInteger, decimal, minus, bits}
use Rattle.jasmin_text.specs.Spellable.{is_int}

bits_int : (n : ℕ) → n < 4294967296 → is_int (of_bits n) ≡ true
bits_int n h = grind arith

negated_int : (n : ℕ) → n ≤ 2147483648 → is_int (neg_ℤ (pos n)) ≡ true
negated_int zero h = refl
negated_int (suc n) h = lt-ltb n 2147483648 (omega (arith, h))

pub integer_int : (w : List ℕ) (z : ℤ) → IsInteger w z → is_int z ≡ true
integer_int w z (decimal {digits} h less) = lt-ltb (digits_value 10 digits) 2147483648 less
integer_int w z (minus {digits} h most) = negated_int (digits_value 10 digits) most
integer_int w z (bits {digits} h short) =
    let less = digits_value-lt 16 digits h.1 in
    let power : 16 ^ length digits ≤ 16 ^ 8 = pow-le-pow_right (omega arith) short in
    bits_int (digits_value 16 digits) (omega arith)

pub int_of : (z : ℤ) → is_int z ≡ true → FitsSigned w32 z
int_of (pos n) h = record { sfits = ltb-true n 2147483648 h }
int_of (negsuc n) h = let less = ltb-true n 2147483648 h in record { sfits = omega arith }
