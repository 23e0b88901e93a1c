-- A written string is read as what it means.
use Rattle.std.proofs.Common.{◌≡◌, ℕ, suc, ◌+◌, Bool, true, false, eqb, List, [], ◌∷◌, ◌++◌, length, Option, Some, Ok, refl, sym, ap, ◌∙◌, arith}
use Rattle.std.proofs.lemmas.Bool.{eqb-true}
use Rattle.std.specs.Char.{digit_value, encode_utf8}
use Rattle.std.specs.Char.Utf16.{is_high_surrogate, is_low_surrogate, surrogate_pair_char}
use Rattle.jasmin_words.specs.declared.escape.Part.TheVariants.{Byte, Char}
use Rattle.jasmin_words.specs.Escapes.{is_hex, hex_at, unit_at, low_at, unicode_at, escape, byte_or_wrong, escape_at, part_at, before, unescaped}
use Rattle.jasmin_words.specs.Lexing.{raw_len}
use Rattle.jasmin_words.specs.Spelling.{IsUnit, IsQuoted, nothing, plain, escaped, unicode, pair}
use Rattle.jasmin_words.proofs.Parts.{unescaped-part, unescaped-nil}

-- a digit is no quote and no backslash
hex_is_not : (n b : ℕ) → is_hex n ≡ false → is_hex b ≡ true → eqb b n ≡ false
hex_is_not n b off h =
    let go : (t : Bool) → eqb b n ≡ t → t ≡ false = λ t. elim t as (λ t. eqb b n ≡ t → t ≡ false) [
      | true ↦ λ e. let same : b ≡ n = eqb-true b n e in let wrong : true ≡ false = sym h ∙ ap is_hex same ∙ off in wrong
      | false ↦ λ e. refl
    ] in
    go (eqb b n) refl

raw_digit : (b : ℕ) (s : List ℕ) → is_hex b ≡ true → raw_len false (b ∷ s) ≡ suc (raw_len false s)
raw_digit b s h = let p = hex_is_not 34 b refl h in let q = hex_is_not 92 b refl h in rw (p, q) (omega arith)

pub raw_digits : (a b c d unit : ℕ) (s : List ℕ) → IsUnit a b c d unit → raw_len false (a ∷ b ∷ c ∷ d ∷ s) ≡ 4 + raw_len false s
raw_digits a b c d unit s h =
    let p = raw_digit a (b ∷ c ∷ d ∷ s) h.0 in
    let q = raw_digit b (c ∷ d ∷ s) h.1 in
    let r = raw_digit c (d ∷ s) h.2 in
    let t = raw_digit d s h.3 in
    omega arith

pub raw_escape : (e : ℕ) (s : List ℕ) → raw_len false (92 ∷ e ∷ s) ≡ 2 + raw_len false s
raw_escape e s = omega arith

pub raw_plain : (b : ℕ) (s : List ℕ) → eqb b 34 ≡ false → eqb b 92 ≡ false → raw_len false (b ∷ s) ≡ 1 + raw_len false s
raw_plain b s p q = rw (p, q) refl

-- the closing quote is the first that is no part of an escape
pub raw_length : (text bytes rest : List ℕ) → IsQuoted text bytes → raw_len false (text ++ 34 ∷ rest) ≡ length text
raw_length text bytes rest nothing = refl
raw_length text bytes rest (plain {b} {text = t} {bytes = bs} p q h) =
    let ih = raw_length t bs rest h in let e = raw_plain b (t ++ 34 ∷ rest) p q in omega arith
raw_length text bytes rest (escaped {e} {text = t} {bytes = bs} n p h) =
    let ih = raw_length t bs rest h in let x = raw_escape e (t ++ 34 ∷ rest) in omega arith
raw_length text bytes rest (unicode {unit} {text = t} {bytes = bs} a b c d u l g e h) =
    let ih = raw_length t bs rest h in
    let x = raw_escape 117 (a ∷ b ∷ c ∷ d ∷ (t ++ 34 ∷ rest)) in
    let y = raw_digits a b c d unit (t ++ 34 ∷ rest) u in
    omega arith
raw_length text bytes rest (pair {high} {low} {text = t} {bytes = bs} a b c d i j k l u p v q e h) =
    let ih = raw_length t bs rest h in
    let z = raw_digits i j k l low (t ++ 34 ∷ rest) v in
    let y = raw_escape 117 (i ∷ j ∷ k ∷ l ∷ (t ++ 34 ∷ rest)) in
    let x = raw_digits a b c d high (92 ∷ 117 ∷ i ∷ j ∷ k ∷ l ∷ (t ++ 34 ∷ rest)) u in
    let w = raw_escape 117 (a ∷ b ∷ c ∷ d ∷ 92 ∷ 117 ∷ i ∷ j ∷ k ∷ l ∷ (t ++ 34 ∷ rest)) in
    omega arith

-- ---- what a part means

hex_again : (b : ℕ) (s : List ℕ) → is_hex b ≡ true → hex_at (b ∷ s) ≡ Ok (digit_value b, s)
hex_again b s h = rw h refl

unit_again : (a b c d unit : ℕ) (s : List ℕ) → IsUnit a b c d unit → unit_at (a ∷ b ∷ c ∷ d ∷ s) ≡ Ok (unit, s)
unfolding unit_at
unit_again a b c d unit s h = rw (hex_again a (b ∷ c ∷ d ∷ s) h.0, hex_again b (c ∷ d ∷ s) h.1, hex_again c (d ∷ s) h.2, hex_again d s h.3) (ap (λ (n : ℕ). Ok (n, s)) (sym h.4))

plain_part : (b : ℕ) (s : List ℕ) → eqb b 92 ≡ false → part_at (b ∷ s) ≡ Ok (Byte b, s)
unfolding part_at
plain_part b s q = rw q refl

escape_part : (e c : ℕ) (s : List ℕ) → eqb e 117 ≡ false → escape e ≡ Some c → part_at (92 ∷ e ∷ s) ≡ Ok (Byte c, s)
unfolding part_at escape_at
escape_part e c s n p = rw (n) (ap (λ (o : Option ℕ). byte_or_wrong o s) p)

unicode_part : (a b c d unit : ℕ) (s : List ℕ) → IsUnit a b c d unit → is_low_surrogate unit ≡ false → is_high_surrogate unit ≡ false → part_at (92 ∷ 117 ∷ a ∷ b ∷ c ∷ d ∷ s) ≡ Ok (Char unit, s)
unfolding part_at escape_at unicode_at
unicode_part a b c d unit s h l g = rw (unit_again a b c d unit s h) (rw (l, g) refl)

-- a low surrogate is no high one
not_low : (unit : ℕ) → is_high_surrogate unit ≡ true → is_low_surrogate unit ≡ false
not_low unit h = grind arith

pair_part : (a b c d e f g i high low : ℕ) (s : List ℕ) → IsUnit a b c d high → is_high_surrogate high ≡ true → IsUnit e f g i low → is_low_surrogate low ≡ true
    → part_at (92 ∷ 117 ∷ a ∷ b ∷ c ∷ d ∷ 92 ∷ 117 ∷ e ∷ f ∷ g ∷ i ∷ s) ≡ Ok (Char (surrogate_pair_char high low), s)
unfolding part_at escape_at unicode_at low_at
pair_part a b c d e f g i high low s u p v q =
    rw (unit_again a b c d high (92 ∷ 117 ∷ e ∷ f ∷ g ∷ i ∷ s) u) (rw (not_low high p, p, unit_again e f g i low s v) (rw q refl))

pub unescaped_again : (text bytes : List ℕ) → IsQuoted text bytes → unescaped text ≡ Ok bytes
unescaped_again text bytes nothing = unescaped-nil
unescaped_again text bytes (plain {b} {text = t} {bytes = bs} p q h) = unescaped-part (b ∷ t) (Byte b) t (plain_part b t q) ∙ ap (before (b ∷ [])) (unescaped_again t bs h)
unescaped_again text bytes (escaped {e} {c} {text = t} {bytes = bs} n p h) = unescaped-part (92 ∷ e ∷ t) (Byte c) t (escape_part e c t n p) ∙ ap (before (c ∷ [])) (unescaped_again t bs h)
unescaped_again text bytes (unicode {unit} {text = t} {bytes = bs} a b c d u l g e h) =
    unescaped-part (92 ∷ 117 ∷ a ∷ b ∷ c ∷ d ∷ t) (Char unit) t (unicode_part a b c d unit t u l g) ∙ ap (before (encode_utf8 unit)) (unescaped_again t bs h) ∙ ap (λ (z : List ℕ). Ok z) (sym e)
unescaped_again text bytes (pair {high} {low} {text = t} {bytes = bs} a b c d i j k l u p v q e h) =
    unescaped-part (92 ∷ 117 ∷ a ∷ b ∷ c ∷ d ∷ 92 ∷ 117 ∷ i ∷ j ∷ k ∷ l ∷ t) (Char (surrogate_pair_char high low)) t (pair_part a b c d i j k l high low t u p v q) ∙ ap (before (encode_utf8 (surrogate_pair_char high low))) (unescaped_again t bs h) ∙ ap (λ (z : List ℕ). Ok z) (sym e)
