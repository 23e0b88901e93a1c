-- A string that was written is read again.
use Rattle.std.proofs.Common.{◌≡◌, ℕ, ◌+◌, ◌*◌, ◌/◌, ◌%◌, ◌<◌, Bool, true, false, ◌||◌, eqb, List, [], ◌∷◌, ◌++◌, Some, refl, sym, ap, subst, append_assoc, arith, nat_lt}
use Rattle.std.proofs.lemmas.Bool.{eqb-true, cond_both}
use Rattle.std.proofs.lemmas.Str.{IsUtf8-nil, IsUtf8-append, encode_ascii, is_utf8-from_IsUtf8, IsUtf8-from_is_utf8}
use Rattle.std.specs.Char.{digit_value, digit_char}
use Rattle.std.specs.Char.Utf16.{is_high_surrogate, is_low_surrogate}
use Rattle.std.specs.Str.{IsUtf8, is_utf8}
use Rattle.jasmin_words.specs.Escapes.{is_hex, escape}
use Rattle.jasmin_words.specs.Lexing.{Item, Text, fits, words_of}
use Rattle.jasmin_words.specs.Quoting.{quoted_byte, quoted_bytes, quoted}
use Rattle.jasmin_words.specs.Spelling.{IsQuoted, nothing, plain, escaped, unicode, IsSpelled, ends, string}
use Rattle.jasmin_words.proofs.Utf8.{cut, byte_utf8}
use Rattle.jasmin_words.proofs.Spelled.{spelled_again}

-- ---- as bytes

glyph_value : (d : ℕ) → d < 16 → digit_value (digit_char d) ≡ d
glyph_value d h = grind arith

glyph_hex : (d : ℕ) → d < 16 → is_hex (digit_char d) ≡ true
glyph_hex d h = grind arith

low_byte : (b : ℕ) → (nat_lt b 32 || eqb b 127) ≡ true → b < 128
low_byte b h = grind arith

no_surrogate : (b : ℕ) → b < 128 → (is_low_surrogate b ≡ false) × (is_high_surrogate b ≡ false)
no_surrogate b h = (grind arith, grind arith)

coded : (b : ℕ) (t bs : List ℕ) → b < 128 → IsQuoted t bs → IsQuoted (92 ∷ 117 ∷ 48 ∷ 48 ∷ digit_char (b / 16) ∷ digit_char (b % 16) ∷ t) (b ∷ bs)
coded b t bs h q =
    let high : b / 16 < 16 = omega arith in
    let low : b % 16 < 16 = omega arith in
    let p = glyph_value (b / 16) high in
    let r = glyph_value (b % 16) low in
    let value : b ≡ ((0 * 16 + 0) * 16 + digit_value (digit_char (b / 16))) * 16 + digit_value (digit_char (b % 16)) = omega arith in
    let none = no_surrogate b h in
    unicode 48 48 (digit_char (b / 16)) (digit_char (b % 16)) (refl, refl, glyph_hex (b / 16) high, glyph_hex (b % 16) low, value) none.0 none.1 (sym (ap (λ (z : List ℕ). z ++ bs) (encode_ascii b h))) q

byte_quoted : (b : ℕ) (t bs : List ℕ) → IsQuoted t bs → IsQuoted (quoted_byte b ++ t) (b ∷ bs)
byte_quoted b t bs q =
    let P : List ℕ → Type 0 = λ x. IsQuoted (x ++ t) (b ∷ bs) in
    let letter : (n e : ℕ) → eqb e 117 ≡ false → escape e ≡ Some n → eqb b n ≡ true → P (92 ∷ e ∷ []) = λ n e no_u h same. subst (λ (z : ℕ). IsQuoted (92 ∷ e ∷ t) (z ∷ bs)) (sym (eqb-true b n same)) (escaped no_u h q) in
    cond_both (eqb b 34) _ _ P (letter 34 34 refl refl) (λ x.
    cond_both (eqb b 92) _ _ P (letter 92 92 refl refl) (λ y.
    cond_both (eqb b 10) _ _ P (letter 10 110 refl refl) (λ _.
    cond_both (eqb b 9) _ _ P (letter 9 116 refl refl) (λ _.
    cond_both (eqb b 13) _ _ P (letter 13 114 refl refl) (λ _.
    cond_both (nat_lt b 32 || eqb b 127) _ _ P (λ h. coded b t bs (low_byte b h) q) (λ _. plain x y q))))))

pub quoted_is : (bs : List ℕ) → IsQuoted (quoted_bytes bs) bs
quoted_is [] = nothing
quoted_is (b ∷ bs) = byte_quoted b (quoted_bytes bs) bs (quoted_is bs)

-- ---- as UTF-8

abbrev AllAscii : List ℕ → Type 0
AllAscii [] = Unit {0}
AllAscii (b ∷ bs) = (b < 128) × AllAscii bs

ascii_utf8 : (bs : List ℕ) → AllAscii bs → IsUtf8 bs
ascii_utf8 [] h = IsUtf8-nil
ascii_utf8 (b ∷ bs) h = IsUtf8-append (b ∷ []) bs (byte_utf8 b h.0) (ascii_utf8 bs h.1)

glyph_ascii : (d : ℕ) → d < 16 → digit_char d < 128
glyph_ascii d h = grind arith

-- an escape in the place of an ASCII byte
replaced : (p esc bs qs : List ℕ) (b : ℕ) → b < 128 → AllAscii esc → IsUtf8 (p ++ b ∷ bs) → (IsUtf8 bs → IsUtf8 qs) → IsUtf8 (p ++ (esc ++ qs))
replaced p esc bs qs b less a u ih = let parts = cut p b bs less u in IsUtf8-append p (esc ++ qs) parts.0 (IsUtf8-append esc qs (ascii_utf8 esc a) (ih parts.1))

byte_utf8_again : (p bs qs : List ℕ) (b : ℕ) → IsUtf8 (p ++ b ∷ bs) → (IsUtf8 bs → IsUtf8 qs) → IsUtf8 (p ++ b ∷ qs) → IsUtf8 (p ++ (quoted_byte b ++ qs))
byte_utf8_again p bs qs b u ih same =
    let P : List ℕ → Type 0 = λ x. IsUtf8 (p ++ (x ++ qs)) in
    let letter : (n e : ℕ) → n < 128 → e < 128 → eqb b n ≡ true → P (92 ∷ e ∷ []) = λ n e small low h. let is : b ≡ n = eqb-true b n h in replaced p (92 ∷ e ∷ []) bs qs b (omega arith) (omega arith, (low, tt)) u ih in
    cond_both (eqb b 34) _ _ P (letter 34 34 (omega arith) (omega arith)) (λ x.
    cond_both (eqb b 92) _ _ P (letter 92 92 (omega arith) (omega arith)) (λ y.
    cond_both (eqb b 10) _ _ P (letter 10 110 (omega arith) (omega arith)) (λ _.
    cond_both (eqb b 9) _ _ P (letter 9 116 (omega arith) (omega arith)) (λ _.
    cond_both (eqb b 13) _ _ P (letter 13 114 (omega arith) (omega arith)) (λ _.
    cond_both (nat_lt b 32 || eqb b 127) _ _ P (λ h. let low = low_byte b h in replaced p (92 ∷ 117 ∷ 48 ∷ 48 ∷ digit_char (b / 16) ∷ digit_char (b % 16) ∷ []) bs qs b low (omega arith, (omega arith, (omega arith, (omega arith, (glyph_ascii (b / 16) (omega arith), (glyph_ascii (b % 16) (omega arith), tt)))))) u ih) (λ _. same))))))

bytes_utf8 : (p bs : List ℕ) → IsUtf8 (p ++ bs) → IsUtf8 (p ++ quoted_bytes bs)
bytes_utf8 p [] u = u
bytes_utf8 p (b ∷ bs) u =
    byte_utf8_again p bs (quoted_bytes bs) b u (λ v. bytes_utf8 [] bs v)
    (subst IsUtf8 (append_assoc p (b ∷ []) (quoted_bytes bs)) (bytes_utf8 (p ++ b ∷ []) bs (subst IsUtf8 (sym (append_assoc p (b ∷ []) bs)) u)))

pub quoted_is_utf8 : (bs : List ℕ) → is_utf8 bs ≡ true → is_utf8 (quoted_bytes bs) ≡ true
quoted_is_utf8 bs h = is_utf8-from_IsUtf8 (quoted_bytes bs) (bytes_utf8 [] bs (IsUtf8-from_is_utf8 bs h))

-- ---- on a line

pub quoted_spelled : (fresh : Bool) (bs rest : List ℕ) (words : List Item) → is_utf8 bs ≡ true → fits bs ≡ true → IsSpelled false rest words → IsSpelled fresh (34 ∷ (quoted_bytes bs ++ 34 ∷ rest)) (Text bs ∷ words)
quoted_spelled fresh bs rest words u f h = string (quoted_bytes bs) rest refl (quoted_is_utf8 bs u) (quoted_is bs) f h

pub quoted_again : (bs : List ℕ) → is_utf8 bs ≡ true → fits bs ≡ true → words_of (quoted bs) ≡ Text bs ∷ []
quoted_again bs u f = spelled_again true (quoted bs) (Text bs ∷ []) (quoted_spelled true bs [] [] u f ends)
