-- Numbers that are written are read again, and what is read as a number is its decimal.
use Rattle.std.proofs.Common.{◌≡◌, ℕ, ◌+◌, ◌-◌, ◌<◌, ◌≤◌, ◌^◌, true, eqb, nat_lt, List, [], ◌∷◌, length, Option, Some, None, Ok, refl, sym, ap, ◌∙◌, arith}
use Rattle.std.proofs.lemmas.Bool.{eqb-true, ltb-true, lt-ltb}
use Rattle.std.proofs.lemmas.Fmt.{decimal_nonempty, decimal_digit}
use Rattle.std.specs.Fmt.{decimal, signed_decimal}
use Rattle.std.specs.Int.{w32}
use Rattle.std.specs.Prelude.{ℤ, pos, negsuc, FitsSigned, slice_index_or}
use Rattle.std.proofs.lemmas.Slice.Eq.{bytes_eq-Decides}
use Rattle.std.specs.Str.{bytes_eq}
use Rattle.jasmin_words.specs.Integers.{integer_of, IsInteger}
use Rattle.jasmin_words.proofs.Numbers.{written_again, integer_is}
use Rattle.sequence.proofs.Results.{Holds, guard_holds, cond_holds, HoldsIn, guard_in}
use Rattle.jasmin_text.proofs.WordBytes.{decimal_word}
use Rattle.jasmin_text.proofs.Integers.{int_of}
use Rattle.jasmin_text.proofs.Integers.{integer_int}
use Rattle.trace_reader.specs.Numbers.{spelled_so, int_in, from_zero, number_in, is_digit, is_number, number_at, known_thread, thread_at}
use Rattle.trace_reader.proofs.LineWords.{IsLineWord, unbroken_word}

pub decimal_line : (n : ℕ) → n < 2 ^ 64 → IsLineWord (decimal n)
decimal_line n h = record { some = decimal_nonempty n h; whole = unbroken_word (decimal n) (decimal_word n h) }

pub number_found : (n : ℕ) (word : List ℕ) → Holds (λ _. word ≡ decimal n) (number_at n word)
unfolding number_at
number_found n word = cond_holds (λ _. word ≡ decimal n) (bytes_eq word (decimal n)) _ _ (bytes_eq-Decides word (decimal n)).0 (λ _. cond_holds (λ _. word ≡ decimal n) (is_number word) _ _ (λ _. tt) (λ _. tt))

pub number_again : (n : ℕ) → number_at n (decimal n) ≡ Ok tt
unfolding number_at
number_again n = rw ((bytes_eq-Decides (decimal n) (decimal n)).1 refl) refl

pub int_found : (word : List ℕ) → HoldsIn (λ n. word ≡ signed_decimal n) (int_in word)
unfolding int_in
int_found word = at (integer_of word)
  where
    at : (o : Option ℤ) → HoldsIn (λ n. word ≡ signed_decimal n) (spelled_so word o)
    at None = tt
    at (Some n) = guard_in (λ n. word ≡ signed_decimal n) (bytes_eq word (signed_decimal n)) _ (bytes_eq-Decides word (signed_decimal n)).0

pub int_again : (n : ℤ) → FitsSigned w32 n → int_in (signed_decimal n) ≡ Some n
unfolding int_in
int_again n h = rw (written_again n h, (bytes_eq-Decides (signed_decimal n) (signed_decimal n)).1 refl) refl

pub natural_found : (word : List ℕ) → HoldsIn (λ n. word ≡ decimal n) (number_in word)
natural_found word = at (int_in word) (int_found word)
  where
    at : (o : Option ℤ) → HoldsIn (λ n. word ≡ signed_decimal n) o → HoldsIn (λ n. word ≡ decimal n) (from_zero o)
    at None h = tt
    at (Some (pos n)) h = h
    at (Some (negsuc n)) h = tt

pub natural_again : (n : ℕ) → n < 2147483648 → number_in (decimal n) ≡ Some n
natural_again n h = ap from_zero (int_again (pos n) (int_of (pos n) (lt-ltb n 2147483648 h)))

digit_number : (b : ℕ) → is_digit b ≡ true → number_in (b ∷ []) ≡ Some (b - 48)
digit_number b e =
    let small : (48 ≤ b) × (b ≤ 57) = (grind arith, grind arith) in
    let back : 48 + (b - 48) ≡ b = omega (arith, small.0) in
    let same : decimal (b - 48) ≡ b ∷ [] = decimal_digit (b - 48) (omega (arith, small.1)) ∙ ap (λ n. n ∷ []) back in
    ap number_in (sym same) ∙ natural_again (b - 48) (omega (arith, small.1))

pub digit_word : (word : List ℕ) → 1 ≤ length word → length word < 2 → is_digit (slice_index_or word 0 0) ≡ true → Some (slice_index_or word 0 0 - 48) ≡ number_in word
digit_word [] some one e = absurd (omega arith)
digit_word (b ∷ []) some one e = sym (digit_number b e)
digit_word (b ∷ c ∷ rest) some one e = absurd (omega arith)

pub thread_found : (threads : ℕ) (word : List ℕ) → Holds (λ t. (word ≡ 116 ∷ decimal t) × (t < threads)) (thread_at threads word)
unfolding thread_at
thread_found threads [] = tt
thread_found threads (b ∷ digits) =
    guard_holds (λ t. (b ∷ digits ≡ 116 ∷ decimal t) × (t < threads)) (eqb b 116) _ _ (λ e. at (eqb-true b 116 e) (number_in digits) (natural_found digits))
  where
    at : b ≡ 116 → (o : Option ℕ) → HoldsIn (λ n. digits ≡ decimal n) o → Holds (λ t. (b ∷ digits ≡ 116 ∷ decimal t) × (t < threads)) (known_thread threads digits o)
    at e None h = cond_holds (λ t. (b ∷ digits ≡ 116 ∷ decimal t) × (t < threads)) (is_number digits) _ _ (λ _. tt) (λ _. tt)
    at e (Some t) h = guard_holds (λ t. (b ∷ digits ≡ 116 ∷ decimal t) × (t < threads)) (nat_lt t threads) _ _ (λ l. (rw (e, h) refl, ltb-true t threads l))

pub thread_again : (threads t : ℕ) → t < threads → t < 2147483648 → thread_at threads (116 ∷ decimal t) ≡ Ok t
unfolding thread_at
thread_again threads t less small = rw (natural_again t small, lt-ltb t threads less) refl

-- what a word spells has 32 bits
pub int_word_fits : (word : List ℕ) → HoldsIn (λ n. FitsSigned w32 n) (int_in word)
unfolding int_in
int_word_fits word = at (integer_of word) (integer_is word)
  where
    at : (o : Option ℤ) → HoldsIn (IsInteger word) o → HoldsIn (λ n. FitsSigned w32 n) (spelled_so word o)
    at None h = tt
    at (Some n) h = guard_in (λ n. FitsSigned w32 n) (bytes_eq word (signed_decimal n)) _ (λ _. int_of n (integer_int word n h))
