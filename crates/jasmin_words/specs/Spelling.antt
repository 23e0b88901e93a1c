-- How the words of a line are spelled.
use Rattle.std.specs.Prelude.{◌≡◌, ℕ, Bool, true, false, not, ◌==◌, ◌+◌, ◌*◌, List, [], ◌∷◌, ◌++◌, Some, ◌&&◌}
use Rattle.std.specs.List.{list_all}
use Rattle.std.specs.Char.{digit_value, encode_utf8}
use Rattle.std.specs.Char.Utf16.{is_high_surrogate, is_low_surrogate, surrogate_pair_char}
use Rattle.std.specs.Str.{is_utf8}
use Rattle.jasmin_words.specs.Escapes.{escape, is_hex}
use Rattle.jasmin_words.specs.Lexing.{Item, Word, BadWord, Equals, Colon, Text, BadText, is_blank, is_parting, is_plain, fits}

-- four hexadecimal digits name a unit of UTF-16
abbrev pub IsUnit : ℕ → ℕ → ℕ → ℕ → ℕ → Type 0
IsUnit a b c d unit =
    (is_hex a ≡ true) × (is_hex b ≡ true) × (is_hex c ≡ true) × (is_hex d ≡ true)
    × (unit ≡ ((digit_value a * 16 + digit_value b) * 16 + digit_value c) * 16 + digit_value d)

-- The bytes between the quotes, as they are written, and the bytes that they mean. The document for users has
-- the escapes; a high and a low surrogate side by side are one character, and no single one is allowed.
pub data IsQuoted : List ℕ → List ℕ → Type 0 where
  nothing : IsQuoted [] []
  plain : {b : ℕ} {text bytes : List ℕ} → (b == 34) ≡ false → (b == 92) ≡ false → IsQuoted text bytes → IsQuoted (b ∷ text) (b ∷ bytes)
  escaped : {e c : ℕ} {text bytes : List ℕ} → (e == 117) ≡ false → escape e ≡ Some c → IsQuoted text bytes → IsQuoted (92 ∷ e ∷ text) (c ∷ bytes)
  unicode : {unit : ℕ} {text all bytes : List ℕ} → (a b c d : ℕ) → IsUnit a b c d unit → is_low_surrogate unit ≡ false → is_high_surrogate unit ≡ false
      → all ≡ encode_utf8 unit ++ bytes → IsQuoted text bytes → IsQuoted (92 ∷ 117 ∷ a ∷ b ∷ c ∷ d ∷ text) all
  pair : {high low : ℕ} {text all bytes : List ℕ} → (a b c d e f g h : ℕ) → IsUnit a b c d high → is_high_surrogate high ≡ true → IsUnit e f g h low → is_low_surrogate low ≡ true
      → all ≡ encode_utf8 (surrogate_pair_char high low) ++ bytes → IsQuoted text bytes → IsQuoted (92 ∷ 117 ∷ a ∷ b ∷ c ∷ d ∷ 92 ∷ 117 ∷ e ∷ f ∷ g ∷ h ∷ text) all

-- a word ends at the line's end or where a byte separates words
abbrev pub Ends : List ℕ → Type 0
Ends [] = Unit {0}
Ends (b ∷ bs) = is_parting b ≡ true

-- the bytes of words
abbrev pub is_word_byte : ℕ → Bool
is_word_byte b = is_plain b && not (is_parting b)

-- bytes that represent themselves, none of them separating words; where whitespace comes before them, not a comment
abbrev pub IsWord : Bool → List ℕ → Type 0
IsWord fresh [] = ⊥
IsWord fresh (b ∷ bs) = ((b == 59 && fresh) ≡ false) × (list_all is_word_byte (b ∷ bs) ≡ true)

-- The line is spelled by these words. fresh says whether whitespace or the line's start comes before it.
-- A comment begins at a semicolon there. Words and strings have at most 65,535 bytes.
pub data IsSpelled : Bool → List ℕ → List Item → Type 0 where
  ends : {fresh : Bool} → IsSpelled fresh [] []
  comment : {text : List ℕ} → IsSpelled true (59 ∷ text) []
  blank : {fresh : Bool} {b : ℕ} {rest : List ℕ} {words : List Item} → is_blank b ≡ true → IsSpelled true rest words → IsSpelled fresh (b ∷ rest) words
  equals : {fresh : Bool} {rest : List ℕ} {words : List Item} → IsSpelled false rest words → IsSpelled fresh (61 ∷ rest) (Equals ∷ words)
  colon : {fresh : Bool} {rest : List ℕ} {words : List Item} → IsSpelled false rest words → IsSpelled fresh (58 ∷ rest) (Colon ∷ words)
  string : {fresh : Bool} {after bytes : List ℕ} {words : List Item} → (text rest : List ℕ) → after ≡ text ++ 34 ∷ rest → is_utf8 text ≡ true → IsQuoted text bytes → fits bytes ≡ true
      → IsSpelled false rest words → IsSpelled fresh (34 ∷ after) (Text bytes ∷ words)
  word : {fresh : Bool} {line : List ℕ} {words : List Item} → (w rest : List ℕ) → line ≡ w ++ rest → IsWord fresh w → fits w ≡ true → Ends rest
      → IsSpelled false rest words → IsSpelled fresh line (Word w ∷ words)

-- a word that isn't wrong, of at most 65,535 bytes
abbrev pub IsGoodWord : Item → Type 0
IsGoodWord (Word w) = fits w ≡ true
IsGoodWord BadWord = ⊥
IsGoodWord (BadText k) = ⊥
IsGoodWord other = Unit {0}

-- no word of the line is wrong
abbrev pub AreWords : List Item → Type 0
AreWords [] = Unit {0}
AreWords (item ∷ rest) = IsGoodWord item × AreWords rest

-- What every word of a line is like, whether it is wrong or not: a string is UTF-8 and has at most 65,535 bytes.
abbrev pub IsLexed : Item → Type 0
IsLexed (Word w) = list_all is_word_byte w ≡ true
IsLexed (Text bytes) = (is_utf8 bytes ≡ true) × (fits bytes ≡ true)
IsLexed other = Unit {0}

abbrev pub AreLexed : List Item → Type 0
AreLexed [] = Unit {0}
AreLexed (item ∷ rest) = IsLexed item × AreLexed rest
