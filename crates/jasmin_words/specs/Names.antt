-- Names of members, and labels: this project's own choice (docs/JASMIN.md), within JVMS SE 8 4.2.2.
use Rattle.std.specs.Prelude.{◌≡◌, ℕ, Bool, true, false, not, ◌&&◌, ◌||◌, List, [], ◌∷◌, nat_lt, ◌==◌, codes}
use Rattle.std.specs.List.{list_all}
use Rattle.std.specs.Str.{bytes_eq}
use Rattle.sequence.specs.Parts.{is_some_byte}
use Rattle.jasmin_words.specs.Spelling.{is_word_byte}

-- a byte of a word, and none of . ; [ / ( ) < >
abbrev pub is_name_byte : ℕ → Bool
is_name_byte b = is_word_byte b && not (b == 46) && not (b == 59) && not (b == 91) && not (b == 47) && not (b == 40) && not (b == 41) && not (b == 60) && not (b == 62)

-- JVMS SE 8 4.2.2: <init>, <clinit>, or one byte or more that may be in a name
unfoldable pub is_member_name : List ℕ → Bool
is_member_name name = bytes_eq name (codes "<init>") || bytes_eq name (codes "<clinit>") || (is_some_byte name && list_all is_name_byte name)

abbrev pub IsMemberName : List ℕ → Type 0
IsMemberName name = is_member_name name ≡ true

-- a word that begins with neither a digit nor a dot
abbrev pub is_label : List ℕ → Bool
is_label [] = false
is_label (b ∷ bs) = not (b == 46) && (nat_lt b 48 || nat_lt 57 b)
