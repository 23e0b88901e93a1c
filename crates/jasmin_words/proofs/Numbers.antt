-- An integer is read exactly where it is one.
use Rattle.std.proofs.Common.{◌≡◌, ℕ, suc, ◌+◌, ◌*◌, ◌^◌, ◌<◌, ◌≤◌, Bool, true, false, ◌&&◌, cond, eqb, List, [], ◌∷◌, length, Option, Some, None, refl, sym, ap, subst, ◌∙◌, arith}
use Rattle.std.specs.Prelude.{ℤ, pos, negsuc, neg_ℤ, FitsSigned, nat_lt, nat_le}
use Rattle.std.specs.Int.{w32}
use Rattle.std.specs.Char.{digit_value}
use Rattle.std.specs.Fmt.{signed_decimal, decimal}
use Rattle.std.specs.Str.Parse.{IsNumeral, AllDigits, digits_value, digits_value_after}
use Rattle.std.proofs.lemmas.Bool.{eqb-true, ltb-true, lt-ltb, le-leb, leb-true, and_parts}
use Rattle.std.proofs.lemmas.Fmt.{decimal_is_IsNumeral}
use Rattle.std.proofs.lemmas.Int.Digits.{digits_value-lt}
use Rattle.std.proofs.Math.Nat.{le-mul_of_pos_right, pow-le-pow_right}
use Rattle.sequence.proofs.Results.{HoldsIn, cond_in, guard_in, map_in}
use Rattle.jasmin_words.specs.Integers.{number_after, magnitude_of, positive, negative, of_bits, pattern, integer_of, IsInteger, decimal as in_decimal, minus, bits}

and_false : (b : Bool) → (b && false) ≡ false
and_false true = refl
and_false false = refl

-- digits only add
grows : (base v : ℕ) (ds : List ℕ) → 1 ≤ base → v ≤ digits_value_after base v ds
grows base v [] h = omega arith
grows base v (d ∷ ds) h = let ih = grows base (v * base + digit_value d) ds h in let up : v ≤ v * base = le-mul_of_pos_right {m = base} v h in omega arith

-- what is read has digits and their value
abbrev pub IsValue : ℕ → ℕ → List ℕ → ℕ → Type 0
IsValue base v ds n = AllDigits base ds × (digits_value_after base v ds ≡ n) × (n < 4294967296)

after_is : (base v : ℕ) (ds : List ℕ) → v < 4294967296 → HoldsIn (IsValue base v ds) (number_after base v ds)
after_is base v [] less = (tt, refl, less)
after_is base v (d ∷ ds) less =
    guard_in (IsValue base v (d ∷ ds)) (nat_lt (digit_value d) base && nat_lt (v * base + digit_value d) 4294967296) _ (λ e.
    let p = and_parts (nat_lt (digit_value d) base) (nat_lt (v * base + digit_value d) 4294967296) e in
    map_in (IsValue base (v * base + digit_value d) ds) (IsValue base v (d ∷ ds)) (number_after base (v * base + digit_value d) ds) (λ n q. ((ltb-true (digit_value d) base p.0, q.0), q.1, q.2)) (after_is base (v * base + digit_value d) ds (ltb-true (v * base + digit_value d) 4294967296 p.1)))

after_again : (base v : ℕ) (ds : List ℕ) → 1 ≤ base → AllDigits base ds → digits_value_after base v ds < 4294967296 → number_after base v ds ≡ Some (digits_value_after base v ds)
after_again base v [] h a less = refl
after_again base v (d ∷ ds) h a less =
    let up = grows base (v * base + digit_value d) ds h in
    let small : v * base + digit_value d < 4294967296 = omega arith in
    rw (lt-ltb (digit_value d) base a.0, lt-ltb (v * base + digit_value d) 4294967296 small) (after_again base (v * base + digit_value d) ds h a.1 less)

pub magnitude_is : (base : ℕ) (ds : List ℕ) → HoldsIn (λ n. (0 < length ds) × IsValue base 0 ds n) (magnitude_of base ds)
unfolding magnitude_of
magnitude_is base [] = tt
magnitude_is base (d ∷ ds) = map_in (IsValue base 0 (d ∷ ds)) (λ n. (0 < length (d ∷ ds)) × IsValue base 0 (d ∷ ds) n) (number_after base 0 (d ∷ ds)) (λ n q. (omega arith, q)) (after_is base 0 (d ∷ ds) (omega arith))

pub magnitude_again : (base : ℕ) (ds : List ℕ) → 1 ≤ base → IsNumeral base ds → digits_value base ds < 4294967296 → magnitude_of base ds ≡ Some (digits_value base ds)
unfolding magnitude_of
magnitude_again base [] h a less = absurd (omega (arith, a.0))
magnitude_again base (d ∷ ds) h a less = after_again base 0 (d ∷ ds) h a.1 less

-- ---- what is read is an integer

positive_is : (ds : List ℕ) (o : Option ℕ) → HoldsIn (λ n. (0 < length ds) × IsValue 10 0 ds n) o → HoldsIn (IsInteger ds) (positive o)
positive_is ds None h = tt
positive_is ds (Some n) h = guard_in (IsInteger ds) (nat_lt n 2147483648) _ (λ e. let less = ltb-true n 2147483648 e in subst (λ (m : ℕ). IsInteger ds (pos m)) h.1.1 (in_decimal (h.0, h.1.0) (omega (arith, h.1.1))))

negative_is : (ds : List ℕ) (o : Option ℕ) → HoldsIn (λ n. (0 < length ds) × IsValue 10 0 ds n) o → HoldsIn (IsInteger (45 ∷ ds)) (negative o)
negative_is ds None h = tt
negative_is ds (Some n) h = guard_in (IsInteger (45 ∷ ds)) (nat_le n 2147483648) _ (λ e. let less = leb-true n 2147483648 e in subst (λ (m : ℕ). IsInteger (45 ∷ ds) (neg_ℤ (pos m))) h.1.1 (minus (h.0, h.1.0) (omega (arith, h.1.1))))

pattern_is : (ds : List ℕ) (o : Option ℕ) → length ds ≤ 8 → HoldsIn (λ n. (0 < length ds) × IsValue 16 0 ds n) o → HoldsIn (IsInteger (48 ∷ 120 ∷ ds)) (pattern o)
pattern_is ds None short h = tt
pattern_is ds (Some n) short h = subst (λ (m : ℕ). IsInteger (48 ∷ 120 ∷ ds) (of_bits m)) h.1.1 (bits (h.0, h.1.0) short)

pub integer_is : (word : List ℕ) → HoldsIn (IsInteger word) (integer_of word)
unfolding integer_of
integer_is [] = tt
integer_is (a ∷ []) =
    cond_in (IsInteger (a ∷ [])) (eqb a 45) _ _ (λ e. subst (λ (z : ℕ). HoldsIn (IsInteger (z ∷ [])) (negative (magnitude_of 10 []))) (sym (eqb-true a 45 e)) (negative_is [] (magnitude_of 10 []) (magnitude_is 10 [])))
    (λ _. positive_is (a ∷ []) (magnitude_of 10 (a ∷ [])) (magnitude_is 10 (a ∷ [])))
integer_is (a ∷ b ∷ rest) =
    cond_in (IsInteger (a ∷ b ∷ rest)) (eqb a 45) _ _ (λ e. subst (λ (z : ℕ). HoldsIn (IsInteger (z ∷ b ∷ rest)) (negative (magnitude_of 10 (b ∷ rest)))) (sym (eqb-true a 45 e)) (negative_is (b ∷ rest) (magnitude_of 10 (b ∷ rest)) (magnitude_is 10 (b ∷ rest)))) (λ _.
    cond_in (IsInteger (a ∷ b ∷ rest)) (eqb a 48 && eqb b 120) _ _ (λ e.
    let p = and_parts (eqb a 48) (eqb b 120) e in
    let same : a ∷ b ∷ rest ≡ 48 ∷ 120 ∷ rest = let p0 : a ≡ 48 = eqb-true a 48 p.0 in let p1 : b ≡ 120 = eqb-true b 120 p.1 in cc in
    subst (λ (z : List ℕ). HoldsIn (IsInteger z) (cond (nat_le (length rest) 8) (pattern (magnitude_of 16 rest)) None)) (sym same)
    (guard_in (IsInteger (48 ∷ 120 ∷ rest)) (nat_le (length rest) 8) _ (λ f. pattern_is rest (magnitude_of 16 rest) (leb-true (length rest) 8 f) (magnitude_is 16 rest))))
    (λ _. positive_is (a ∷ b ∷ rest) (magnitude_of 10 (a ∷ b ∷ rest)) (magnitude_is 10 (a ∷ b ∷ rest))))

-- ---- an integer is read

digit_is_not : (n d : ℕ) → digit_value d < 10 → nat_lt (digit_value n) 10 ≡ false → eqb d n ≡ false
digit_is_not n d h off =
    let go : (t : Bool) → eqb d n ≡ t → t ≡ false = λ t. elim t as (λ t. eqb d n ≡ t → t ≡ false) [
      | true ↦ λ e. let same : d ≡ n = eqb-true d n e in let wrong : true ≡ false = sym (lt-ltb (digit_value d) 10 h) ∙ ap (λ (z : ℕ). nat_lt (digit_value z) 10) same ∙ off in wrong
      | false ↦ λ e. refl
    ] in
    go (eqb d n) refl

positive_again : (ds : List ℕ) → IsNumeral 10 ds → digits_value 10 ds < 2147483648 → positive (magnitude_of 10 ds) ≡ Some (pos (digits_value 10 ds))
positive_again ds h less = rw (magnitude_again 10 ds (omega arith) h (omega arith)) (rw (lt-ltb (digits_value 10 ds) 2147483648 less) refl)

negative_again : (ds : List ℕ) → IsNumeral 10 ds → digits_value 10 ds ≤ 2147483648 → negative (magnitude_of 10 ds) ≡ Some (neg_ℤ (pos (digits_value 10 ds)))
negative_again ds h less = rw (magnitude_again 10 ds (omega arith) h (omega arith)) (rw (le-leb (digits_value 10 ds) 2147483648 less) refl)

short_value : (ds : List ℕ) → AllDigits 16 ds → length ds ≤ 8 → digits_value 16 ds < 4294967296
short_value ds h short = let less = digits_value-lt 16 ds h in let power : 16 ^ length ds ≤ 16 ^ 8 = pow-le-pow_right (omega arith) short in omega arith

pub integer_again : (word : List ℕ) (n : ℤ) → IsInteger word n → integer_of word ≡ Some n
unfolding integer_of
integer_again word n (in_decimal {digits = []} h less) = absurd (omega (arith, h.0))
integer_again word n (in_decimal {digits = a ∷ []} h less) = rw (digit_is_not 45 a h.1.0 refl) (positive_again (a ∷ []) h less)
integer_again word n (in_decimal {digits = a ∷ b ∷ rest} h less) = rw (digit_is_not 45 a h.1.0 refl, digit_is_not 120 b h.1.1.0 refl, and_false (eqb a 48)) (positive_again (a ∷ b ∷ rest) h less)
integer_again word n (minus {digits = []} h less) = absurd (omega (arith, h.0))
integer_again word n (minus {digits = b ∷ rest} h less) = negative_again (b ∷ rest) h less
integer_again word n (bits {digits} h short) = rw (le-leb (length digits) 8 short, magnitude_again 16 digits (omega arith) h (short_value digits h.1 short)) refl

-- ---- what is written is read again

decimal_again : (n : ℕ) → n < 2147483648 → integer_of (decimal n) ≡ Some (pos n)
decimal_again n less =
    let p = decimal_is_IsNumeral n (omega arith) in
    integer_again (decimal n) (pos n) (subst (λ (m : ℕ). IsInteger (decimal n) (pos m)) p.1 (in_decimal p.0 (omega (arith, p.1))))

minus_again : (n : ℕ) → n ≤ 2147483648 → integer_of (45 ∷ decimal n) ≡ Some (neg_ℤ (pos n))
minus_again n less =
    let p = decimal_is_IsNumeral n (omega arith) in
    integer_again (45 ∷ decimal n) (neg_ℤ (pos n)) (subst (λ (m : ℕ). IsInteger (45 ∷ decimal n) (neg_ℤ (pos m))) p.1 (minus p.0 (omega (arith, p.1))))

pub written_again : (n : ℤ) → FitsSigned w32 n → integer_of (signed_decimal n) ≡ Some n
written_again (pos n) h = decimal_again n h.sfits
written_again (negsuc n) h = minus_again (suc n) h.sfits
