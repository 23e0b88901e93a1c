-- A string that was read is written so.
use Rattle.std.proofs.Common.{◌≡◌, ℕ, zero, suc, Bool, true, false, ◌&&◌, eqb, List, [], ◌∷◌, ◌++◌, length, Option, Some, None, Result, Ok, Err, refl, sym, ap, subst, arith}
use Rattle.std.proofs.lemmas.Bool.{eqb-true, and_parts}
use Rattle.std.specs.Char.{digit_value}
use Rattle.std.specs.Char.Utf16.{is_high_surrogate, is_low_surrogate, surrogate_pair_char}
use Rattle.jasmin_words.specs.declared.escape.EscapeFault.{EscapeFault}
use Rattle.jasmin_words.specs.declared.escape.Part.{Part}
use Rattle.jasmin_words.specs.declared.escape.Part.TheVariants.{Byte, Char}
use Rattle.jasmin_words.specs.Escapes.{encoded, is_hex, hex_at, unit_at, low_at, unicode_at, escape, byte_or_wrong, escape_at, part_at, before, unescaped_in, unescaped}
use Rattle.jasmin_words.specs.Lexing.{raw_len}
use Rattle.jasmin_words.specs.Spelling.{IsUnit, IsQuoted, nothing, plain, escaped, unicode, pair}
use Rattle.sequence.proofs.Results.{Holds, bind_holds, guard_holds, refuse_holds, cond_holds, holds_at}
use Rattle.jasmin_words.proofs.Quoted.{raw_digits, raw_escape, raw_plain}

-- no quote closes the text
abbrev pub IsOpen : List ℕ → Type 0
IsOpen s = raw_len false s ≡ length s

abbrev IsHexAt : List ℕ → ℕ × List ℕ → Type 0
IsHexAt s x = (b : ℕ) × (s ≡ b ∷ x.1) × (is_hex b ≡ true) × (x.0 ≡ digit_value b)

hex_is : (s : List ℕ) → Holds (IsHexAt s) (hex_at s)
hex_is [] = tt
hex_is (b ∷ s) = guard_holds (IsHexAt (b ∷ s)) (is_hex b) _ _ (λ h. (b, refl, h, refl))

abbrev IsUnitAt : List ℕ → ℕ × List ℕ → Type 0
IsUnitAt s x = (a : ℕ) × (b : ℕ) × (c : ℕ) × (d : ℕ) × (s ≡ a ∷ b ∷ c ∷ d ∷ x.1) × IsUnit a b c d x.0

unit_is : (s : List ℕ) → Holds (IsUnitAt s) (unit_at s)
unfolding unit_at
unit_is s =
    bind_holds (IsHexAt s) (IsUnitAt s) (hex_at s) _ (hex_is s) (λ a _ p.
    bind_holds (IsHexAt a.1) (IsUnitAt s) (hex_at a.1) _ (hex_is a.1) (λ b _ q.
    bind_holds (IsHexAt b.1) (IsUnitAt s) (hex_at b.1) _ (hex_is b.1) (λ c _ r.
    bind_holds (IsHexAt c.1) (IsUnitAt s) (hex_at c.1) _ (hex_is c.1) (λ d _ t.
    (p.0, q.0, r.0, t.0, cc (p.1, q.1, r.1, t.1), (p.2, q.2, r.2, t.2, cc (p.3, q.3, r.3, t.3)))))))

-- a part that was read from an open text, and what follows it
abbrev IsFront : List ℕ → Part × List ℕ → Type 0
IsFront s x = IsOpen s → (front : List ℕ) × (s ≡ front ++ x.1) × IsOpen x.1 × ((text bytes : List ℕ) → IsQuoted text bytes → IsQuoted (front ++ text) (encoded x.0 ++ bytes))

is_92 : (b : ℕ) (s : List ℕ) → eqb b 92 ≡ true → b ∷ s ≡ 92 ∷ s
is_92 b s e = ap (λ (x : ℕ). x ∷ s) (eqb-true b 92 e)

plain_front : (b : ℕ) (s : List ℕ) → eqb b 92 ≡ false → IsFront (b ∷ s) (Byte b, s)
plain_front b s q o =
    let go : (t : Bool) → eqb b 34 ≡ t → (front : List ℕ) × (b ∷ s ≡ front ++ s) × IsOpen s × ((text bytes : List ℕ) → IsQuoted text bytes → IsQuoted (front ++ text) (b ∷ bytes)) = λ t. elim t as (λ t. eqb b 34 ≡ t → (front : List ℕ) × (b ∷ s ≡ front ++ s) × IsOpen s × ((text bytes : List ℕ) → IsQuoted text bytes → IsQuoted (front ++ text) (b ∷ bytes))) [
      | true ↦ λ e. let none : raw_len false (b ∷ s) ≡ 0 = rw e refl in absurd (omega arith)
      | false ↦ λ e. let one = raw_plain b s e q in (b ∷ [], refl, omega arith, λ text bytes h. plain e q h)
    ] in
    go (eqb b 34) refl

escaped_front : (e : ℕ) (s : List ℕ) (o : Option ℕ) → eqb e 117 ≡ false → escape e ≡ o → Holds (IsFront (92 ∷ e ∷ s)) (byte_or_wrong o s)
escaped_front e s (Some c) n h = λ o. let two = raw_escape e s in (92 ∷ e ∷ [], refl, omega arith, λ text bytes q. escaped n h q)
escaped_front e s None n h = tt

unicode_front : (s : List ℕ) (x : ℕ × List ℕ) → IsUnitAt s x → is_low_surrogate x.0 ≡ false → is_high_surrogate x.0 ≡ false → IsFront (92 ∷ 117 ∷ s) (Char x.0, x.1)
unicode_front s x u l g o =
    let e : 92 ∷ 117 ∷ s ≡ 92 ∷ 117 ∷ u.0 ∷ u.1 ∷ u.2 ∷ u.3 ∷ x.1 = ap (λ (z : List ℕ). 92 ∷ 117 ∷ z) u.4 in
    let two = raw_escape 117 (u.0 ∷ u.1 ∷ u.2 ∷ u.3 ∷ x.1) in
    let four = raw_digits u.0 u.1 u.2 u.3 x.0 x.1 u.5 in
    let open_too = subst IsOpen e o in
    (92 ∷ 117 ∷ u.0 ∷ u.1 ∷ u.2 ∷ u.3 ∷ [], e, omega arith, λ text bytes q. unicode u.0 u.1 u.2 u.3 u.5 l g refl q)

pair_front : (s rest : List ℕ) (x low : ℕ × List ℕ) → IsUnitAt s x → x.1 ≡ 92 ∷ 117 ∷ rest → IsUnitAt rest low → is_high_surrogate x.0 ≡ true → is_low_surrogate low.0 ≡ true → IsFront (92 ∷ 117 ∷ s) (Char (surrogate_pair_char x.0 low.0), low.1)
pair_front s rest x low u m v g l o =
    let e : 92 ∷ 117 ∷ s ≡ 92 ∷ 117 ∷ u.0 ∷ u.1 ∷ u.2 ∷ u.3 ∷ 92 ∷ 117 ∷ v.0 ∷ v.1 ∷ v.2 ∷ v.3 ∷ low.1 = cc (u.4, m, v.4) in
    let end : List ℕ = 92 ∷ 117 ∷ v.0 ∷ v.1 ∷ v.2 ∷ v.3 ∷ low.1 in
    let two = raw_escape 117 (u.0 ∷ u.1 ∷ u.2 ∷ u.3 ∷ end) in
    let four = raw_digits u.0 u.1 u.2 u.3 x.0 end u.5 in
    let more = raw_escape 117 (v.0 ∷ v.1 ∷ v.2 ∷ v.3 ∷ low.1) in
    let last = raw_digits v.0 v.1 v.2 v.3 low.0 low.1 v.5 in
    let open_too = subst IsOpen e o in
    (92 ∷ 117 ∷ u.0 ∷ u.1 ∷ u.2 ∷ u.3 ∷ 92 ∷ 117 ∷ v.0 ∷ v.1 ∷ v.2 ∷ v.3 ∷ [], e, omega arith, λ text bytes q. pair u.0 u.1 u.2 u.3 v.0 v.1 v.2 v.3 u.5 g v.5 l refl q)

low_is : (s t : List ℕ) (x : ℕ × List ℕ) → IsUnitAt s x → x.1 ≡ t → is_high_surrogate x.0 ≡ true → Holds (IsFront (92 ∷ 117 ∷ s)) (low_at x.0 t)
unfolding low_at
low_is s [] x u m g = tt
low_is s (b ∷ []) x u m g = cond_holds (IsFront (92 ∷ 117 ∷ s)) (eqb b 92) _ _ (λ _. tt) (λ _. tt)
low_is s (b ∷ c ∷ rest) x u m g =
    guard_holds (IsFront (92 ∷ 117 ∷ s)) (eqb b 92 && eqb c 117) _ _ (λ e.
    bind_holds (IsUnitAt rest) (IsFront (92 ∷ 117 ∷ s)) (unit_at rest) _ (unit_is rest) (λ low _ v.
    guard_holds (IsFront (92 ∷ 117 ∷ s)) (is_low_surrogate low.0) _ _ (λ l.
    let p = and_parts (eqb b 92) (eqb c 117) e in
    let p0 : b ≡ 92 = eqb-true b 92 p.0 in
    let p1 : c ≡ 117 = eqb-true c 117 p.1 in
    let same : x.1 ≡ 92 ∷ 117 ∷ rest = cc in
    pair_front s rest x low u same v g l)))

unicode_is : (s : List ℕ) → Holds (IsFront (92 ∷ 117 ∷ s)) (unicode_at s)
unfolding unicode_at
unicode_is s =
    bind_holds (IsUnitAt s) (IsFront (92 ∷ 117 ∷ s)) (unit_at s) _ (unit_is s) (λ x _ u.
    refuse_holds (IsFront (92 ∷ 117 ∷ s)) (is_low_surrogate x.0) _ _ (λ l.
    cond_holds (IsFront (92 ∷ 117 ∷ s)) (is_high_surrogate x.0) _ _ (λ g. low_is s x.1 x u refl g) (λ g. unicode_front s x u l g)))

escape_is : (s : List ℕ) → Holds (IsFront (92 ∷ s)) (escape_at s)
unfolding escape_at
escape_is [] = tt
escape_is (e ∷ s) = cond_holds (IsFront (92 ∷ e ∷ s)) (eqb e 117) _ _ (λ h. let same : 92 ∷ e ∷ s ≡ 92 ∷ 117 ∷ s = ap (λ (z : ℕ). 92 ∷ z ∷ s) (eqb-true e 117 h) in subst (λ (z : List ℕ). Holds (IsFront z) (unicode_at s)) (sym same) (unicode_is s)) (λ n. escaped_front e s (escape e) n refl)

pub part_is : (s : List ℕ) → Holds (IsFront s) (part_at s)
unfolding part_at
part_is [] = tt
part_is (b ∷ s) = cond_holds (IsFront (b ∷ s)) (eqb b 92) _ _ (λ h. subst (λ (z : List ℕ). Holds (IsFront z) (escape_at s)) (sym (is_92 b s h)) (escape_is s)) (λ q. plain_front b s q)

-- ---- the whole string

abbrev IsQuotedAs : List ℕ → List ℕ → Type 0
IsQuotedAs s bytes = IsOpen s → IsQuoted s bytes

before_is : (s rest : List ℕ) (part : Part) (r : Result (List ℕ) EscapeFault) → IsFront s (part, rest) → Holds (IsQuotedAs rest) r → Holds (IsQuotedAs s) (before (encoded part) r)
before_is s rest part (Ok bytes) f h = λ o. let g = f o in subst (λ (z : List ℕ). IsQuoted z (encoded part ++ bytes)) (sym g.1) (g.3 rest bytes (h g.2))
before_is s rest part (Err k) f h = tt

unescaped_is : (n : ℕ) (s : List ℕ) → Holds (IsQuotedAs s) (unescaped_in n s)
unfolding unescaped_in
unescaped_is n [] = λ o. nothing
unescaped_is zero (b ∷ s) = tt
unescaped_is (suc n) (b ∷ s) = bind_holds (IsFront (b ∷ s)) (IsQuotedAs (b ∷ s)) (part_at (b ∷ s)) _ (part_is (b ∷ s)) (λ x _ f. before_is (b ∷ s) x.1 x.0 (unescaped_in n x.1) f (unescaped_is n x.1))

-- What an open text means when it is read, it is written as.
pub quoted_taken : (s bytes : List ℕ) → IsOpen s → unescaped s ≡ Ok bytes → IsQuoted s bytes
unfolding unescaped
quoted_taken s bytes o e = holds_at (IsQuotedAs s) (unescaped_in (length s) s) bytes (unescaped_is (length s) s) e o
