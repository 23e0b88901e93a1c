-- Texts that are written are read again, and what is read as a text is its spelling.
use Rattle.std.proofs.Common.{◌≡◌, ℕ, zero, suc, inl, inr, ◌+◌, ◌-◌, ◌*◌, ◌/◌, ◌%◌, ◌≤◌, ◌<◌, true, false, ◌&&◌, ◌||◌, cond, eqb, nat_lt, List, [], ◌∷◌, ◌++◌, length, Option, Some, None, Result, Ok, Err, refl, sym, ap, subst, ◌∙◌, append_assoc, arith}
use Rattle.std.proofs.lemmas.Bool.{eqb-true, cases_Bool, and_parts, cond_both, not-true}
use Rattle.std.proofs.lemmas.List.{append-nil, length-drop}
use Rattle.std.specs.Prelude.{nat_le, codes, not, take, drop}
use Rattle.std.specs.Char.{digit_char}
use Rattle.std.proofs.lemmas.Str.{IsUtf8-from_ascii, is_utf8-from_IsUtf8}
use Rattle.std.proofs.lemmas.Str.Ascii.{IsAscii-nil, IsAscii-cons}
use Rattle.std.specs.List.{list_all}
use Rattle.std.specs.Str.{is_utf8, IsAscii}
use Rattle.sequence.specs.declared.refusal.Refusal.{Refusal}
use Rattle.sequence.specs.declared.refusal.Refusal.TheVariants as refusal
use Rattle.sequence.specs.Gives.{Fails}
use Rattle.jasmin_words.specs.Quoting.{quoted_byte, quoted_bytes, quoted}
use Rattle.sequence.proofs.Results.{Holds, bind_holds, guard_holds, cond_holds, holds_at, HoldsIn, cond_in, guard_in, bind_same}
use Rattle.trace_reader.specs.Words.{ends_word}
use Rattle.trace_reader.specs.Strings.{low_hex, has_code, coded, letter, byte_or_bad, code_at, escape_at, is_plain, plain_len, byte_at, before, closing, bytes_in, bytes_at, quote_at, closed_at, utf8_at, text_at}
use Rattle.trace_reader.specs.declared.fault.TraceFaultKind.{TraceFaultKind}
use Rattle.trace_reader.specs.declared.fault.TraceFaultKind.TheVariants.{BadValue}

-- ---- one byte

abbrev Spelled : List ℕ → ℕ × List ℕ → Type 0
Spelled s x = s ≡ quoted_byte x.0 ++ x.1

hex_digit : (d : ℕ) → HoldsIn (λ h. (digit_char h ≡ d) × (h < 16)) (low_hex d)
hex_digit d =
    cond_in (λ h. (digit_char h ≡ d) × (h < 16)) (nat_le 48 d && nat_le d 57) _ _ (λ e. let small : (48 ≤ d) × (d ≤ 57) = (grind arith, grind arith) in (grind arith, omega arith)) (λ _.
    guard_in (λ h. (digit_char h ≡ d) × (h < 16)) (nat_le 97 d && nat_le d 102) _ (λ e. let small : (97 ≤ d) × (d ≤ 102) = (grind arith, grind arith) in (grind arith, omega arith)))

digit_hex : (h : ℕ) → h < 16 → low_hex (digit_char h) ≡ Some h
digit_hex h less = grind arith

with_code : (v : ℕ) → has_code v ≡ true → quoted_byte v ≡ 92 ∷ 117 ∷ 48 ∷ 48 ∷ digit_char (v / 16) ∷ digit_char (v % 16) ∷ []
with_code v e = grind arith

itself : (b : ℕ) → eqb b 92 ≡ false → is_plain b ≡ true → quoted_byte b ≡ b ∷ []
itself b n e = grind arith

coded_found : (high low : ℕ) (rest : List ℕ) → Holds (Spelled (92 ∷ 117 ∷ 48 ∷ 48 ∷ high ∷ low ∷ rest)) (byte_or_bad (coded (low_hex high) (low_hex low)) rest)
coded_found high low rest = at (low_hex high) (low_hex low) (hex_digit high) (hex_digit low)
  where
    at : (a b : Option ℕ) → HoldsIn (λ h. (digit_char h ≡ high) × (h < 16)) a → HoldsIn (λ h. (digit_char h ≡ low) × (h < 16)) b → Holds (Spelled (92 ∷ 117 ∷ 48 ∷ 48 ∷ high ∷ low ∷ rest)) (byte_or_bad (coded a b) rest)
    at None b p q = tt
    at (Some a) None p q = tt
    at (Some a) (Some b) p q = elim (cases_Bool (has_code (a * 16 + b))) [
      | inl e ↦
          let up : (a * 16 + b) / 16 ≡ a = omega (arith, p.1, q.1) in
          let down : (a * 16 + b) % 16 ≡ b = omega (arith, p.1, q.1) in
          rw e (rw (with_code (a * 16 + b) e, up, down, p.0, q.0) refl)
      | inr e ↦ rw e tt
    ]

code_found : (s : List ℕ) → Holds (Spelled (92 ∷ 117 ∷ s)) (code_at s)
unfolding code_at
code_found [] = tt
code_found (z ∷ []) = tt
code_found (z ∷ y ∷ []) = tt
code_found (z ∷ y ∷ high ∷ []) = tt
code_found (z ∷ y ∷ high ∷ low ∷ rest) =
    guard_holds (Spelled (92 ∷ 117 ∷ z ∷ y ∷ high ∷ low ∷ rest)) (eqb z 48 && eqb y 48) _ _ (λ e.
    let p = and_parts (eqb z 48) (eqb y 48) e in
    rw (eqb-true z 48 p.0, eqb-true y 48 p.1) (coded_found high low rest))

letter_found : (e : ℕ) (rest : List ℕ) → Holds (Spelled (92 ∷ e ∷ rest)) (byte_or_bad (letter e) rest)
letter_found e rest =
    at 34 34 _ refl (λ _. at 92 92 _ refl (λ _. at 110 10 _ refl (λ _. at 116 9 _ refl (λ _. at 114 13 _ refl (λ _. tt)))))
  where
    P : Option ℕ → Type 0
    P o = Holds (Spelled (92 ∷ e ∷ rest)) (byte_or_bad o rest)

    at : (n c : ℕ) (other : Option ℕ) → quoted_byte c ≡ 92 ∷ n ∷ [] → (eqb e n ≡ false → P other) → P (cond (eqb e n) (Some c) other)
    at n c other q next = elim (cases_Bool (eqb e n)) [ inl h ↦ rw h (rw (q, eqb-true e n h) refl) | inr h ↦ rw h (next h) ]

escape_found : (s : List ℕ) → Holds (Spelled (92 ∷ s)) (escape_at s)
unfolding escape_at
escape_found [] = tt
escape_found (e ∷ rest) = cond_holds (Spelled (92 ∷ e ∷ rest)) (eqb e 117) _ _ (λ h. rw (eqb-true e 117 h) (code_found rest)) (λ _. letter_found e rest)

byte_found : (s : List ℕ) → Holds (Spelled s) (byte_at s)
unfolding byte_at
byte_found [] = tt
byte_found (b ∷ rest) =
    cond_holds (Spelled (b ∷ rest)) (eqb b 92) _ _ (λ h. rw (eqb-true b 92 h) (escape_found rest)) (λ n.
    guard_holds (Spelled (b ∷ rest)) (is_plain b) _ _ (λ e. rw (itself b n e) refl))

coded_again : (v : ℕ) (rest : List ℕ) → has_code v ≡ true → code_at (48 ∷ 48 ∷ digit_char (v / 16) ∷ digit_char (v % 16) ∷ rest) ≡ Ok (v, rest)
unfolding code_at
coded_again v rest e =
    let small : v < 256 = grind arith in
    let high : low_hex (digit_char (v / 16)) ≡ Some (v / 16) = digit_hex (v / 16) (omega arith) in
    let low : low_hex (digit_char (v % 16)) ≡ Some (v % 16) = digit_hex (v % 16) (omega arith) in
    let same : v / 16 * 16 + v % 16 ≡ v = omega arith in
    rw (high, low, same, e) refl

unusual : (c : ℕ) → (nat_lt c 32 || eqb c 127) ≡ true → eqb c 10 ≡ false → eqb c 9 ≡ false → eqb c 13 ≡ false → has_code c ≡ true
unusual c h a b d = rw (h, a, b, d) refl

usual : (c : ℕ) → (nat_lt c 32 || eqb c 127) ≡ false → eqb c 34 ≡ false → is_plain c ≡ true
usual c h n = grind arith

byte_again : (c : ℕ) (rest : List ℕ) → byte_at (quoted_byte c ++ rest) ≡ Ok (c, rest)
unfolding byte_at escape_at
byte_again c rest =
    let P : List ℕ → Type 0 = λ x. byte_at (x ++ rest) ≡ Ok (c, rest) in
    let is : (n : ℕ) → eqb c n ≡ true → n ≡ c = λ n e. sym (eqb-true c n e) in
    cond_both (eqb c 34) _ _ P (λ e. rw (is 34 e) refl) (λ q.
    cond_both (eqb c 92) _ _ P (λ e. rw (is 92 e) refl) (λ s.
    cond_both (eqb c 10) _ _ P (λ e. rw (is 10 e) refl) (λ n.
    cond_both (eqb c 9) _ _ P (λ e. rw (is 9 e) refl) (λ t.
    cond_both (eqb c 13) _ _ P (λ e. rw (is 13 e) refl) (λ r.
    cond_both (nat_lt c 32 || eqb c 127) _ _ P (λ h. coded_again c rest (unusual c h n t r)) (λ h. rw (s, usual c h q) refl))))))

-- ---- all bytes

pub shrinks : (s rest : List ℕ) (c : ℕ) → byte_at s ≡ Ok (c, rest) → length rest < length s
shrinks s rest c e = let same : s ≡ quoted_byte c ++ rest = holds_at (Spelled s) (byte_at s) (c, rest) (byte_found s) e in subst (λ (z : List ℕ). length rest < length z) (sym same) (longer c rest)
  where
    longer : (c : ℕ) (rest : List ℕ) → length rest < length (quoted_byte c ++ rest)
    longer c rest =
        let P : List ℕ → Type 0 = λ x. length rest < length (x ++ rest) in
        cond_both (eqb c 34) _ _ P (λ _. omega arith) (λ _.
        cond_both (eqb c 92) _ _ P (λ _. omega arith) (λ _.
        cond_both (eqb c 10) _ _ P (λ _. omega arith) (λ _.
        cond_both (eqb c 9) _ _ P (λ _. omega arith) (λ _.
        cond_both (eqb c 13) _ _ P (λ _. omega arith) (λ _.
        cond_both (nat_lt c 32 || eqb c 127) _ _ P (λ _. omega arith) (λ _. omega arith))))))

no_quote : (b : ℕ) (bs rest : List ℕ) (c : ℕ) → byte_at (b ∷ bs) ≡ Ok (c, rest) → eqb b 34 ≡ false
unfolding byte_at
no_quote b bs rest c e = elim (cases_Bool (eqb b 34)) [ inl h ↦ absurd (let same = eqb-true b 34 h in let wrong = rw same at e in cc) | inr h ↦ h ]

enough : (n m : ℕ) (s : List ℕ) → length s ≤ n → length s ≤ m → bytes_in n s ≡ bytes_in m s
unfolding bytes_in
enough n m [] p q = refl
enough zero m (b ∷ s) p q = absurd (omega arith)
enough (suc n) zero (b ∷ s) p q = absurd (omega arith)
enough (suc n) (suc m) (b ∷ s) p q =
    let after : ℕ → ℕ × List ℕ → Result (List ℕ × List ℕ) TraceFaultKind = λ k x. before (x.0 ∷ []) (bytes_in k x.1) in
    ap (cond (eqb b 34) (Ok ([], s)))
    (bind_same (byte_at (b ∷ s)) (after n) (after m) (λ x e. let less = shrinks (b ∷ s) x.1 x.0 e in ap (before (x.0 ∷ [])) (enough n m x.1 (omega arith) (omega arith))))

nothing : byte_at [] ≡ Err BadValue
unfolding byte_at
nothing = refl

step : (n : ℕ) (s rest : List ℕ) (c : ℕ) → byte_at s ≡ Ok (c, rest) → bytes_in (suc n) s ≡ before (c ∷ []) (bytes_in n rest)
unfolding bytes_in
step n [] rest c e = absurd (let none = nothing in cc)
step n (b ∷ s) rest c e = rw (no_quote b s rest c e, e) refl

bytes_step : (s rest : List ℕ) (c : ℕ) → byte_at s ≡ Ok (c, rest) → bytes_at s ≡ before (c ∷ []) (bytes_at rest)
unfolding bytes_at
bytes_step [] rest c e = absurd (let none = nothing in cc)
bytes_step (b ∷ s) rest c e = let less = shrinks (b ∷ s) rest c e in step (length s) (b ∷ s) rest c e ∙ ap (before (c ∷ [])) (enough (length s) (length rest) rest (omega arith) (omega arith))

abbrev AreSpelled : List ℕ → List ℕ × List ℕ → Type 0
AreSpelled s x = s ≡ quoted_bytes x.0 ++ 34 ∷ x.1

bytes_in_found : (n : ℕ) (s : List ℕ) → Holds (AreSpelled s) (bytes_in n s)
unfolding bytes_in
bytes_in_found n [] = tt
bytes_in_found zero (b ∷ s) = guard_holds (AreSpelled (b ∷ s)) (eqb b 34) _ _ (λ e. rw (eqb-true b 34 e) refl)
bytes_in_found (suc n) (b ∷ s) = cond_holds (AreSpelled (b ∷ s)) (eqb b 34) _ _ (λ e. rw (eqb-true b 34 e) refl) (λ _.
    bind_holds (Spelled (b ∷ s)) (AreSpelled (b ∷ s)) (byte_at (b ∷ s)) _ (byte_found (b ∷ s)) (λ x _ p.
    bind_holds (AreSpelled x.1) (AreSpelled (b ∷ s)) (bytes_in n x.1) _ (bytes_in_found n x.1) (λ y _ q.
    p ∙ ap (λ (z : List ℕ). quoted_byte x.0 ++ z) q ∙ sym (append_assoc (quoted_byte x.0) (quoted_bytes y.0) (34 ∷ y.1)))))

bytes_found : (s : List ℕ) → Holds (AreSpelled s) (bytes_at s)
unfolding bytes_at
bytes_found s = bytes_in_found (length s) s

bytes_again : (bs rest : List ℕ) → bytes_at (quoted_bytes bs ++ 34 ∷ rest) ≡ Ok (bs, rest)
unfolding bytes_at bytes_in
bytes_again [] rest = refl
bytes_again (b ∷ bs) rest =
    let one : byte_at (quoted_byte b ++ (quoted_bytes bs ++ 34 ∷ rest)) ≡ Ok (b, quoted_bytes bs ++ 34 ∷ rest) = byte_again b (quoted_bytes bs ++ 34 ∷ rest) in
    rw append_assoc (bytes_step (quoted_byte b ++ (quoted_bytes bs ++ 34 ∷ rest)) (quoted_bytes bs ++ 34 ∷ rest) b one ∙ ap (before (b ∷ [])) (bytes_again bs rest))

-- ---- a loop that has read some, and reads on

before-before : (xs ys : List ℕ) (r : Result (List ℕ × List ℕ) TraceFaultKind) → before xs (before ys r) ≡ before (xs ++ ys) r
before-before xs ys (Ok x) = ap (λ (z : List ℕ). Ok (z, x.1)) (sym (append_assoc xs ys x.0))
before-before xs ys (Err k) = refl

before-none : (r : Result (List ℕ × List ℕ) TraceFaultKind) → before [] r ≡ r
before-none (Ok x) = refl
before-none (Err k) = refl

plain_byte : (b : ℕ) (s : List ℕ) → (is_plain b && not (eqb b 92)) ≡ true → byte_at (b ∷ s) ≡ Ok (b, s)
unfolding byte_at
plain_byte b s e = let p = and_parts (is_plain b) (not (eqb b 92)) e in let n : eqb b 92 ≡ false = not-true (eqb b 92) p.1 in rw (n, p.0) refl

taken : (n b : ℕ) (s : List ℕ) → take (1 + n) (b ∷ s) ≡ b ∷ take n s
taken n b s = let e : 1 + n ≡ suc n = omega arith in rw e refl

left : (n b : ℕ) (s : List ℕ) → drop (1 + n) (b ∷ s) ≡ drop n s
left n b s = let e : 1 + n ≡ suc n = omega arith in rw e refl

plain_run : (s : List ℕ) → before (take (plain_len s) s) (bytes_at (drop (plain_len s) s)) ≡ bytes_at s
plain_run [] = before-none (bytes_at [])
plain_run (b ∷ s) = elim (cases_Bool (is_plain b && not (eqb b 92))) [
  | inl e ↦ rw (e, taken (plain_len s) b s, left (plain_len s) b s) (sym (before-before (b ∷ []) (take (plain_len s) s) (bytes_at (drop (plain_len s) s))) ∙ ap (before (b ∷ [])) (plain_run s) ∙ sym (bytes_step (b ∷ s) s b (plain_byte b s e)))
  | inr e ↦ rw e (before-none (bytes_at (b ∷ s)))
]

-- what is plain is added
pub plain_added : (front s text behind : List ℕ) (total : Result (List ℕ × List ℕ) TraceFaultKind) → text ≡ front ++ take (plain_len s) s → behind ≡ drop (plain_len s) s → before front (bytes_at s) ≡ total → before text (bytes_at behind) ≡ total
plain_added front s text behind total t b so_far = rw (t, b) (sym (before-before front (take (plain_len s) s) (bytes_at (drop (plain_len s) s))) ∙ ap (before front) (plain_run s) ∙ so_far)

pub shrinks_behind : (s behind rest : List ℕ) (n c : ℕ) → behind ≡ drop n s → byte_at behind ≡ Ok (c, rest) → length rest < length s
shrinks_behind s behind rest n c b e =
    let less : length rest < length behind = shrinks behind rest c e in
    let size : length behind ≡ length s - n = ap length b ∙ length-drop n s in
    omega (arith, less, size)

pub goes_on : (front s rest : List ℕ) (c : ℕ) (total : Result (List ℕ × List ℕ) TraceFaultKind) → byte_at s ≡ Ok (c, rest) → before front (bytes_at s) ≡ total → before (front ++ c ∷ []) (bytes_at rest) ≡ total
goes_on front s rest c total e so_far = sym (before-before front (c ∷ []) (bytes_at rest)) ∙ ap (before front) (sym (bytes_step s rest c e)) ∙ so_far

pub is_closed : (front s after : List ℕ) (total : Result (List ℕ × List ℕ) TraceFaultKind) → closing s ≡ Some after → before front (bytes_at s) ≡ total → total ≡ Ok (front, after)
unfolding bytes_at bytes_in
is_closed front [] after total c so_far = absurd cc
is_closed front (b ∷ s) after total c so_far = elim (cases_Bool (eqb b 34)) [
  | inl h ↦ let same : s ≡ after = let d = rw h at c in cc in sym so_far ∙ rw h (ap (λ (z : List ℕ). Ok (z, s)) (append-nil front) ∙ ap (λ (z : List ℕ). Ok (front, z)) same)
  | inr h ↦ absurd (let d = rw h at c in cc)
]

pub fails : (front s : List ℕ) (error : Refusal TraceFaultKind) (total : Result (List ℕ × List ℕ) TraceFaultKind) → closing s ≡ None → Fails error (byte_at s) → before front (bytes_at s) ≡ total → Fails error total
unfolding bytes_at bytes_in
fails front s refusal.Memory total c f so_far = tt
fails front [] (refusal.Fault k) total c f so_far = let none = nothing in cc
fails front (b ∷ s) (refusal.Fault k) total c f so_far = elim (cases_Bool (eqb b 34)) [
  | inl h ↦ absurd (let d = rw h at c in cc)
  | inr h ↦ sym so_far ∙ rw (h, f) refl
]

-- ---- the text

ascii : (bs : List ℕ) → list_all (λ b. nat_lt b 128) bs ≡ true → IsAscii bs
ascii [] e = IsAscii-nil
ascii (b ∷ bs) e = let p = and_parts (nat_lt b 128) (list_all (λ b. nat_lt b 128) bs) e in let small = p.0 in IsAscii-cons b bs (grind arith) (ascii bs p.1)

pub ascii_is_utf8 : (bs : List ℕ) → list_all (λ b. nat_lt b 128) bs ≡ true → is_utf8 bs ≡ true
ascii_is_utf8 bs e = is_utf8-from_IsUtf8 bs (IsUtf8-from_ascii bs (ascii bs e))

abbrev pub IsTextOf : List ℕ → List ℕ × List ℕ → Type 0
IsTextOf s x = (s ≡ quoted x.0 ++ codes "\n" ++ x.1) × (is_utf8 x.0 ≡ true)

text_plainly : (bs rest : List ℕ) → is_utf8 bs ≡ true → text_at (34 ∷ (quoted_bytes bs ++ 34 ∷ 10 ∷ rest)) ≡ Ok (bs, rest)
unfolding text_at quote_at closed_at
text_plainly bs rest u = rw (bytes_again bs (10 ∷ rest), u) refl

pub text_again : (bs rest : List ℕ) → is_utf8 bs ≡ true → text_at (quoted bs ++ codes "\n" ++ rest) ≡ Ok (bs, rest)
text_again bs rest u =
    let same : quoted bs ++ codes "\n" ++ rest ≡ 34 ∷ (quoted_bytes bs ++ 34 ∷ 10 ∷ rest) = simp append_assoc in
    ap text_at same ∙ text_plainly bs rest u

quote_found : (s : List ℕ) → Holds (λ x. s ≡ 34 ∷ x) (quote_at s)
unfolding quote_at
quote_found [] = tt
quote_found (b ∷ s) = cond_holds (λ x. b ∷ s ≡ 34 ∷ x) (eqb b 34) _ _ (λ e. rw (eqb-true b 34 e) refl) (λ _. cond_holds (λ x. b ∷ s ≡ 34 ∷ x) (ends_word b) _ _ (λ _. tt) (λ _. tt))

closed_found : (s : List ℕ) → Holds (λ x. s ≡ 10 ∷ x) (closed_at s)
unfolding closed_at
closed_found [] = tt
closed_found (b ∷ s) = cond_holds (λ x. b ∷ s ≡ 10 ∷ x) (eqb b 10) _ _ (λ e. rw (eqb-true b 10 e) refl) (λ _. cond_holds (λ x. b ∷ s ≡ 10 ∷ x) (eqb b 32) _ _ (λ _. tt) (λ _. tt))

pub text_found : (s : List ℕ) → Holds (IsTextOf s) (text_at s)
unfolding text_at
text_found s =
    bind_holds (λ x. s ≡ 34 ∷ x) (IsTextOf s) (quote_at s) _ (quote_found s) (λ inside _ p.
    bind_holds (AreSpelled inside) (IsTextOf s) (bytes_at inside) _ (bytes_found inside) (λ text _ q.
    bind_holds (λ _. is_utf8 text.0 ≡ true) (IsTextOf s) (utf8_at text.0) _ (guard_holds (λ _. is_utf8 text.0 ≡ true) (is_utf8 text.0) _ _ (λ e. e)) (λ _ _ u.
    bind_holds (λ x. text.1 ≡ 10 ∷ x) (IsTextOf s) (closed_at text.1) _ (closed_found text.1) (λ after _ r. (
      let same : quoted text.0 ++ codes "\n" ++ after ≡ 34 ∷ (quoted_bytes text.0 ++ 34 ∷ 10 ∷ after) = simp append_assoc in
          p ∙ ap (λ (z : List ℕ). 34 ∷ z) q ∙ ap (λ (z : List ℕ). 34 ∷ (quoted_bytes text.0 ++ 34 ∷ z)) r ∙ sym same,
      u,
    )))))
