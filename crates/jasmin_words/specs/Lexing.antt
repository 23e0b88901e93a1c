-- The words of a line, from left to right: this project's own choice (docs/JASMIN.md).
use Rattle.std.specs.Prelude.{ℕ, zero, suc, ◌+◌, Bool, true, false, not, ◌&&◌, ◌||◌, List, [], ◌∷◌, length, take, drop, Option, Some, None, Result, Ok, Err, nat_lt, nat_le, ◌==◌, if◌then◌else◌, map}
use Rattle.std.specs.List.{list_all}
use Rattle.std.specs.Option.{option_map}
use Rattle.std.specs.Str.{is_utf8}
use Rattle.std.specs.Borrow.{Bor}
use Rattle.jasmin_words.specs.declared.fault.FaultKind.{FaultKind}
use Rattle.jasmin_words.specs.declared.fault.FaultKind.TheVariants.{BadByte, BadOperand, Unfinished, LimitExceeded}
use Rattle.jasmin_words.specs.declared.escape.EscapeFault.{EscapeFault}
use Rattle.jasmin_words.specs.declared.escape.EscapeFault.TheVariants.{Wrong, Cut}
use Rattle.jasmin_words.specs.declared.token.Token.{Token}
use Rattle.jasmin_words.specs.declared.token.Token.TheVariants as tokens
use Rattle.jasmin_words.specs.Escapes.{unescaped}

-- a word of a line, without where it lies in memory
pub data Item : Type 0 where
  Word : List ℕ → Item
  BadWord : Item
  Equals : Item
  Colon : Item
  Text : List ℕ → Item
  BadText : FaultKind → Item

abbrev pub view : Token → Item
view (tokens.Word w) = Word w.now
view tokens.BadWord = BadWord
view tokens.Equals = Equals
view tokens.Colon = Colon
view (tokens.Text t) = Text t
view (tokens.BadText k) = BadText k

abbrev pub views : List Token → List Item
views = map view

abbrev pub is_blank : ℕ → Bool
is_blank b = b == 32 || b == 9 || b == 13

-- what ends a word
abbrev pub is_parting : ℕ → Bool
is_parting b = is_blank b || b == 34 || b == 58 || b == 61

-- the bytes that words are made of
abbrev pub is_plain : ℕ → Bool
is_plain b = nat_lt 32 b && nat_lt b 127

-- the most bytes of a word and of a string
abbrev pub most_bytes : ℕ
most_bytes = 65535

abbrev pub fits : List ℕ → Bool
fits bytes = nat_le (length bytes) most_bytes

-- how many bytes come before the first that separates words
abbrev pub word_len : List ℕ → ℕ
word_len [] = 0
word_len (b ∷ bs) = if is_parting b then 0 else 1 + word_len bs

-- a word of any length, by its bytes
unfoldable pub word_item : List ℕ → Item
word_item word = if list_all is_plain word then Word word else BadWord

unfoldable pub word_at : List ℕ → Item × List ℕ
word_at bytes = (word_item (take (word_len bytes) bytes), drop (word_len bytes) bytes)

-- how many bytes come before the closing quote, or before the line's end; escaped says whether a backslash
-- comes before them that is none itself
abbrev pub raw_len : Bool → List ℕ → ℕ
raw_len escaped [] = 0
raw_len escaped (b ∷ bs) = if not escaped && b == 34 then 0 else 1 + raw_len (not escaped && b == 92) bs

-- a string whose escapes mean these bytes
abbrev pub resolved_item : Bool → Result (List ℕ) EscapeFault → Item
resolved_item closed (Err Wrong) = BadText BadOperand
resolved_item closed (Err Cut) = if closed then BadText BadOperand else BadText Unfinished
resolved_item closed (Ok text) = if not closed then BadText Unfinished else if fits text then Text text else BadText LimitExceeded

-- A string, by its inside and whether a quote closes it: of several faults the lowest kind. An escape that
-- the line's end cuts is unfinished and not wrong.
unfoldable pub string_item : Bool → List ℕ → Item
string_item closed raw = if is_utf8 raw then resolved_item closed (unescaped raw) else BadText BadByte

-- the string before the closing quote, or before the line's end
abbrev pub closed_at : List ℕ → List ℕ → Item × List ℕ
closed_at raw [] = (string_item false raw, [])
closed_at raw (quote ∷ after) = (string_item true raw, after)

-- the string after its opening quote, and what follows its closing one
unfoldable pub string_at : List ℕ → Item × List ℕ
string_at bytes = closed_at (take (raw_len false bytes) bytes) (drop (raw_len false bytes) bytes)

-- the next word and what follows it; fresh says whether a comment may begin here
unfoldable pub token_at : Bool → List ℕ → Option (Item × List ℕ)
token_at fresh [] = None
token_at fresh (b ∷ bs) =
    if is_blank b then token_at true bs
    else if b == 59 && fresh then None
    else if b == 61 then Some (Equals, bs)
    else if b == 58 then Some (Colon, bs)
    else if b == 34 then Some (string_at bs)
    else Some (word_at (b ∷ bs))

-- what comes after the next word
abbrev pub after_token : (List ℕ → List Item) → Option (Item × List ℕ) → List Item
after_token next None = []
after_token next (Some x) = x.0 ∷ next x.1

unfoldable pub words_in : ℕ → Bool → List ℕ → List Item
words_in zero fresh bytes = []
words_in (suc n) fresh bytes = after_token (words_in n false) (token_at fresh bytes)

-- the words from here on; each takes a byte at least
unfoldable pub words_from : Bool → List ℕ → List Item
words_from fresh bytes = words_in (suc (length bytes)) fresh bytes

-- the words of a line
abbrev pub words_of : List ℕ → List Item
words_of line = words_from true line

-- a token and the bytes after it, without where they lie
abbrev pub token_view : Option (Token × Bor (List ℕ)) → Option (Item × List ℕ)
token_view o = option_map (λ x. (view x.0, x.1.now)) o
