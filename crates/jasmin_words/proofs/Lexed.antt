-- What every word of a line is like.
use Rattle.std.proofs.Common.{◌≡◌, ℕ, zero, suc, Bool, true, false, ◌&&◌, cond, eqb, List, [], ◌∷◌, length, drop, take, Option, Some, None, refl}
use Rattle.std.specs.List.{list_all}
use Rattle.std.proofs.lemmas.Str.{is_utf8-from_IsUtf8, IsUtf8-from_is_utf8}
use Rattle.jasmin_words.specs.Lexing.{Item, Word, BadWord, Equals, Colon, Text, BadText, is_blank, is_plain, word_len, word_item, word_at, raw_len, string_item, closed_at, string_at, token_at, after_token, words_in, words_from}
use Rattle.jasmin_words.specs.Spelling.{is_word_byte, IsLexed, AreLexed}
use Rattle.jasmin_words.proofs.TakenString.{IsOpen, quoted_taken}
use Rattle.jasmin_words.proofs.Taken.{IsStringItem, string_is, open_text, none_part}
use Rattle.jasmin_words.proofs.Utf8.{quoted_utf8}

-- the next item, if there is one
abbrev IsNextLexed : Option (Item × List ℕ) → Type 0
IsNextLexed None = Unit {0}
IsNextLexed (Some x) = IsLexed x.0

cond_lexed : (b : Bool) (x y : Option (Item × List ℕ)) → IsNextLexed x → IsNextLexed y → IsNextLexed (cond b x y)
cond_lexed true x y p q = p
cond_lexed false x y p q = q

word_lexed : (w : List ℕ) → (list_all is_plain w ≡ true → list_all is_word_byte w ≡ true) → IsLexed (word_item w)
unfolding word_item
word_lexed w h = by (list_all is_plain w) h
  where
    by : (t : Bool) → (t ≡ true → list_all is_word_byte w ≡ true) → IsLexed (cond t (Word w) BadWord)
    by true h = h refl
    by false h = tt

string_lexed : (closed : Bool) (raw : List ℕ) (i : Item) → IsOpen raw → IsStringItem closed raw i → IsLexed i
string_lexed closed raw (Text bytes) o h = (is_utf8-from_IsUtf8 bytes (quoted_utf8 [] raw bytes (quoted_taken raw bytes o h.2) (IsUtf8-from_is_utf8 raw h.1)), h.3)
string_lexed closed raw (BadText k) o h = tt
string_lexed closed raw (Word w) o h = absurd h
string_lexed closed raw BadWord o h = tt
string_lexed closed raw Equals o h = tt
string_lexed closed raw Colon o h = tt

closed_lexed : (raw rest : List ℕ) → IsOpen raw → IsLexed (closed_at raw rest).0
closed_lexed raw [] o = string_lexed false raw (string_item false raw) o (string_is false raw)
closed_lexed raw (b ∷ rest) o = string_lexed true raw (string_item true raw) o (string_is true raw)

next_lexed : (fresh : Bool) (s : List ℕ) → IsNextLexed (token_at fresh s)
unfolding token_at string_at word_at
next_lexed fresh [] = tt
next_lexed fresh (b ∷ s) =
    cond_lexed (is_blank b) _ _ (next_lexed true s) (
    cond_lexed (eqb b 59 && fresh) _ _ tt (
    cond_lexed (eqb b 61) _ _ tt (
    cond_lexed (eqb b 58) _ _ tt (
    cond_lexed (eqb b 34) _ _ (closed_lexed (take (raw_len false s) s) (drop (raw_len false s) s) (open_text false s)) (word_lexed (take (word_len (b ∷ s)) (b ∷ s)) (none_part (b ∷ s)))))))

after_lexed : (o : Option (Item × List ℕ)) (next : List ℕ → List Item) → IsNextLexed o → ((s : List ℕ) → AreLexed (next s)) → AreLexed (after_token next o)
after_lexed None next h more = tt
after_lexed (Some x) next h more = (h, more x.1)

lexed_in : (n : ℕ) (fresh : Bool) (s : List ℕ) → AreLexed (words_in n fresh s)
unfolding words_in
lexed_in zero fresh s = tt
lexed_in (suc n) fresh s = after_lexed (token_at fresh s) (words_in n false) (next_lexed fresh s) (lexed_in n false)

pub are_lexed : (fresh : Bool) (s : List ℕ) → AreLexed (words_from fresh s)
unfolding words_from
are_lexed fresh s = lexed_in (suc (length s)) fresh s
