-- What a UTF-8 text with escapes means is UTF-8.
use Rattle.std.proofs.Common.{◌≡◌, ℕ, ◌+◌, ◌<◌, true, false, eqb, List, [], ◌∷◌, ◌++◌, length, drop, take, Some, refl, sym, ap, subst, ◌∙◌, append_assoc, arith, get_or}
use Rattle.std.proofs.lemmas.Bool.{eqb-true, ltb-true}
use Rattle.std.proofs.lemmas.List.{take_at, drop_at, length-append}
use Rattle.std.proofs.lemmas.Str.{IsUtf8-append, IsUtf8-take, IsUtf8-drop, IsUtf8-encode, IsCharBoundary-before_ascii, IsCharBoundary-after_ascii, encode_ascii}
use Rattle.std.proofs.Math.Seq.{get_or-append_seam}
use Rattle.std.proofs.Math.Utf8.{low_scalar}
use Rattle.std.specs.Char.{digit_value, encode_utf8, IsScalar}
use Rattle.std.specs.Char.Utf16.{is_high_surrogate, is_low_surrogate, surrogate_pair_char}
use Rattle.std.specs.Str.{IsUtf8}
use Rattle.sequence.proofs.Results.{HoldsIn, cond_in, in_at}
use Rattle.jasmin_words.specs.Escapes.{is_hex, escape}
use Rattle.jasmin_words.specs.Spelling.{IsUnit, IsQuoted, nothing, plain, escaped, unicode, pair}

-- a text may be cut before and after an ASCII byte
pub cut : (p : List ℕ) (b : ℕ) (t : List ℕ) → b < 128 → IsUtf8 (p ++ b ∷ t) → IsUtf8 p × IsUtf8 t
cut p b t less u =
    let seam : get_or (p ++ b ∷ t) (length p) 0 ≡ b = get_or-append_seam p b t 0 in
    let at : get_or (p ++ b ∷ t) (length p) 0 < 128 = omega arith in
    let within : length p < length (p ++ b ∷ t) = omega (arith, length-append p (b ∷ t)) in
    let front : take (length p) (p ++ b ∷ t) ≡ p = take_at p (b ∷ t) (length p) refl in
    let grouped : p ++ b ∷ t ≡ (p ++ b ∷ []) ++ t = sym (append_assoc p (b ∷ []) t) in
    let len : length (p ++ b ∷ []) ≡ length p + 1 = length-append p (b ∷ []) in
    let back : drop (length p + 1) (p ++ b ∷ t) ≡ t = ap (drop (length p + 1)) grouped ∙ drop_at (p ++ b ∷ []) t (length p + 1) len in (
      subst IsUtf8 front (IsUtf8-take (p ++ b ∷ t) (length p) u (IsCharBoundary-before_ascii (p ++ b ∷ t) (length p) within at)),
      subst IsUtf8 back (IsUtf8-drop (p ++ b ∷ t) (length p + 1) u (IsCharBoundary-after_ascii (p ++ b ∷ t) (length p) u within at)),
    )

pub unit_scalar : (c : ℕ) → c < 65536 → is_low_surrogate c ≡ false → is_high_surrogate c ≡ false → IsScalar c
unit_scalar c h l g = grind arith

pub pair_scalar : (high low : ℕ) → is_high_surrogate high ≡ true → is_low_surrogate low ≡ true → IsScalar (surrogate_pair_char high low)
pair_scalar high low h l = grind arith

pub hex_ascii : (b : ℕ) → is_hex b ≡ true → b < 128
hex_ascii b h = grind arith

escapes_ascii : (e : ℕ) → HoldsIn (λ c. (e < 128) × (c < 128)) (escape e)
escapes_ascii e =
    let P : ℕ → Type 0 = λ c. (e < 128) × (c < 128) in
    let at : (n c : ℕ) → n < 128 → c < 128 → eqb e n ≡ true → P c = λ n c less small h. let same : e ≡ n = eqb-true e n h in (omega arith, small) in
    cond_in P (eqb e 110) _ _ (at 110 10 (omega arith) (omega arith)) (λ _.
    cond_in P (eqb e 116) _ _ (at 116 9 (omega arith) (omega arith)) (λ _.
    cond_in P (eqb e 114) _ _ (at 114 13 (omega arith) (omega arith)) (λ _.
    cond_in P (eqb e 98) _ _ (at 98 8 (omega arith) (omega arith)) (λ _.
    cond_in P (eqb e 102) _ _ (at 102 12 (omega arith) (omega arith)) (λ _.
    cond_in P (eqb e 34) _ _ (at 34 34 (omega arith) (omega arith)) (λ _.
    cond_in P (eqb e 39) _ _ (at 39 39 (omega arith) (omega arith)) (λ _.
    cond_in P (eqb e 92) _ _ (at 92 92 (omega arith) (omega arith)) (λ _. tt))))))))

escape_ascii : (e c : ℕ) → escape e ≡ Some c → (e < 128) × (c < 128)
escape_ascii e c h = in_at (λ (c : ℕ). (e < 128) × (c < 128)) (escape e) c (escapes_ascii e) h

pub byte_utf8 : (b : ℕ) → b < 128 → IsUtf8 (b ∷ [])
byte_utf8 b h = subst IsUtf8 (encode_ascii b h) (IsUtf8-encode b (low_scalar b (omega arith)))

unit_small : (a b c d unit : ℕ) → IsUnit a b c d unit → unit < 65536
unit_small a b c d unit u =
    let p = ltb-true (digit_value a) 16 u.0 in
    let q = ltb-true (digit_value b) 16 u.1 in
    let r = ltb-true (digit_value c) 16 u.2 in
    let t = ltb-true (digit_value d) 16 u.3 in
    omega (arith, u.4)

-- after four hexadecimal digits
behind : (a b c d unit : ℕ) (t : List ℕ) → IsUnit a b c d unit → IsUtf8 (a ∷ b ∷ c ∷ d ∷ t) → IsUtf8 t
behind a b c d unit t u h =
    let p = (cut [] a (b ∷ c ∷ d ∷ t) (hex_ascii a u.0) h).1 in
    let q = (cut [] b (c ∷ d ∷ t) (hex_ascii b u.1) p).1 in
    let r = (cut [] c (d ∷ t) (hex_ascii c u.2) q).1 in
    (cut [] d t (hex_ascii d u.3) r).1

pub quoted_utf8 : (p text bytes : List ℕ) → IsQuoted text bytes → IsUtf8 (p ++ text) → IsUtf8 (p ++ bytes)
quoted_utf8 p text bytes nothing h = h
quoted_utf8 p text bytes (plain {b} {text = t} {bytes = bs} x y q) h =
    subst IsUtf8 (append_assoc p (b ∷ []) bs) (quoted_utf8 (p ++ b ∷ []) t bs q (subst IsUtf8 (sym (append_assoc p (b ∷ []) t)) h))
quoted_utf8 p text bytes (escaped {e} {c} {text = t} {bytes = bs} n x q) h =
    let small = escape_ascii e c x in
    let one = cut p 92 (e ∷ t) (omega arith) h in
    let two = cut [] e t small.0 one.1 in
    IsUtf8-append p (c ∷ bs) one.0 (IsUtf8-append (c ∷ []) bs (byte_utf8 c small.1) (quoted_utf8 [] t bs q two.1))
quoted_utf8 p text bytes (unicode {unit} {text = t} {bytes = bs} a b c d u l g e q) h =
    let one = cut p 92 (117 ∷ a ∷ b ∷ c ∷ d ∷ t) (omega arith) h in
    let two = cut [] 117 (a ∷ b ∷ c ∷ d ∷ t) (omega arith) one.1 in
    let rest = behind a b c d unit t u two.1 in
    subst (λ (z : List ℕ). IsUtf8 (p ++ z)) (sym e) (IsUtf8-append p (encode_utf8 unit ++ bs) one.0 (IsUtf8-append (encode_utf8 unit) bs (IsUtf8-encode unit (unit_scalar unit (unit_small a b c d unit u) l g)) (quoted_utf8 [] t bs q rest)))
quoted_utf8 p text bytes (pair {high} {low} {text = t} {bytes = bs} a b c d i j k l u g v w e q) h =
    let one = cut p 92 (117 ∷ a ∷ b ∷ c ∷ d ∷ 92 ∷ 117 ∷ i ∷ j ∷ k ∷ l ∷ t) (omega arith) h in
    let two = cut [] 117 (a ∷ b ∷ c ∷ d ∷ 92 ∷ 117 ∷ i ∷ j ∷ k ∷ l ∷ t) (omega arith) one.1 in
    let first = behind a b c d high (92 ∷ 117 ∷ i ∷ j ∷ k ∷ l ∷ t) u two.1 in
    let three = cut [] 92 (117 ∷ i ∷ j ∷ k ∷ l ∷ t) (omega arith) first in
    let four = cut [] 117 (i ∷ j ∷ k ∷ l ∷ t) (omega arith) three.1 in
    let rest = behind i j k l low t v four.1 in
    let code : List ℕ = encode_utf8 (surrogate_pair_char high low) in
    subst (λ (z : List ℕ). IsUtf8 (p ++ z)) (sym e) (IsUtf8-append p (code ++ bs) one.0 (IsUtf8-append code bs (IsUtf8-encode (surrogate_pair_char high low) (pair_scalar high low g w)) (quoted_utf8 [] t bs q rest)))
