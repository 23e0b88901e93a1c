-- A line as the canonical spelling writes it: what its words are, and that no byte of it ends a line.
use Rattle.std.proofs.Common.{◌≡◌, ℕ, ◌/◌, ◌%◌, Bool, true, false, not, ◌||◌, eqb, List, [], ◌∷◌, ◌++◌, refl, sym, subst, append_assoc, arith, ◌∙◌}
use Rattle.std.specs.Prelude.{nat_lt}
use Rattle.std.specs.Char.{digit_char}
use Rattle.std.specs.List.{list_all}
use Rattle.std.specs.Str.{is_utf8}
use Rattle.std.proofs.lemmas.Bool.{and_from, cond_both}
use Rattle.std.proofs.lemmas.List.{append-nil}
use Rattle.std.proofs.lemmas.List.Folds.{list_all-append}
use Rattle.jasmin_words.specs.Lexing.{Item, Word, Equals, Colon, Text, is_blank, fits, words_of}
use Rattle.jasmin_words.specs.Quoting.{quoted_byte, quoted_bytes, quoted}
use Rattle.jasmin_words.specs.Spelling.{Ends, is_word_byte, IsWord, IsSpelled, AreWords}
use Rattle.jasmin_words.specs.Spelling as spelling
use Rattle.jasmin_writer.proofs.Quoting.{quoted_spelled}
use Rattle.jasmin_words.proofs.Spelled.{spelled_again}
use Rattle.jasmin_text.specs.Grammar.{Row, IsRow, AreRowsOf, of_words}
use Rattle.jasmin_text.proofs.Conditions.{all_weaker}

-- ---- bytes that end no line

abbrev pub is_inner : ℕ → Bool
is_inner b = not (eqb b 10)

abbrev pub IsInner : List ℕ → Type 0
IsInner bytes = list_all is_inner bytes ≡ true

inner_byte : (b : ℕ) (bytes : List ℕ) → is_inner b ≡ true → IsInner bytes → IsInner (b ∷ bytes)
inner_byte b bytes h k = and_from (is_inner b) (list_all is_inner bytes) h k

inner_joined : (xs ys : List ℕ) → IsInner xs → IsInner ys → IsInner (xs ++ ys)
inner_joined xs ys h k = list_all-append is_inner xs ys ∙ and_from (list_all is_inner xs) (list_all is_inner ys) h k

word_byte_inner : (b : ℕ) → is_word_byte b ≡ true → is_inner b ≡ true
word_byte_inner b h = grind arith

blank_inner : (b : ℕ) → is_blank b ≡ true → is_inner b ≡ true
blank_inner b h = grind arith

glyph_inner : (d : ℕ) → is_inner (digit_char d) ≡ true
glyph_inner d = grind arith

escape_inner : (b : ℕ) → IsInner (92 ∷ 117 ∷ 48 ∷ 48 ∷ digit_char (b / 16) ∷ digit_char (b % 16) ∷ [])
escape_inner b = inner_byte (digit_char (b / 16)) (digit_char (b % 16) ∷ []) (glyph_inner (b / 16)) (inner_byte (digit_char (b % 16)) [] (glyph_inner (b % 16)) refl)

quoted_byte_inner : (b : ℕ) → IsInner (quoted_byte b)
quoted_byte_inner b =
    cond_both (eqb b 34) _ _ IsInner (λ _. refl) (λ _.
    cond_both (eqb b 92) _ _ IsInner (λ _. refl) (λ _.
    cond_both (eqb b 10) _ _ IsInner (λ _. refl) (λ e.
    cond_both (eqb b 9) _ _ IsInner (λ _. refl) (λ _.
    cond_both (eqb b 13) _ _ IsInner (λ _. refl) (λ _.
    cond_both (nat_lt b 32 || eqb b 127) _ _ IsInner (λ _. escape_inner b) (λ _. rw e refl))))))

quoted_bytes_inner : (bytes : List ℕ) → IsInner (quoted_bytes bytes)
quoted_bytes_inner [] = refl
quoted_bytes_inner (b ∷ bytes) = inner_joined (quoted_byte b) (quoted_bytes bytes) (quoted_byte_inner b) (quoted_bytes_inner bytes)

quoted_inner : (bytes : List ℕ) → IsInner (quoted bytes)
quoted_inner bytes = inner_joined (quoted_bytes bytes) (34 ∷ []) (quoted_bytes_inner bytes) refl

-- ---- what is written

-- words and strings, with whitespace and marks between them, and no comment
pub data IsWritten : Bool → List ℕ → List Item → Type 0 where
  ends : {fresh : Bool} → IsWritten fresh [] []
  blank : {fresh : Bool} {b : ℕ} {rest : List ℕ} {words : List Item} → is_blank b ≡ true → IsWritten true rest words → IsWritten fresh (b ∷ rest) words
  equals : {fresh : Bool} {rest : List ℕ} {words : List Item} → IsWritten false rest words → IsWritten fresh (61 ∷ rest) (Equals ∷ words)
  colon : {fresh : Bool} {rest : List ℕ} {words : List Item} → IsWritten false rest words → IsWritten fresh (58 ∷ rest) (Colon ∷ words)
  text : {fresh : Bool} {line : List ℕ} {words : List Item} → (bytes rest : List ℕ) → line ≡ quoted bytes ++ rest → is_utf8 bytes ≡ true → fits bytes ≡ true
      → IsWritten false rest words → IsWritten fresh line (Text bytes ∷ words)
  word : {fresh : Bool} {line : List ℕ} {words : List Item} → (w rest : List ℕ) → line ≡ w ++ rest → IsWord fresh w → fits w ≡ true → Ends rest
      → IsWritten false rest words → IsWritten fresh line (Word w ∷ words)

text_spelled : (fresh : Bool) (bytes rest : List ℕ) (words : List Item) → is_utf8 bytes ≡ true → fits bytes ≡ true → IsSpelled false rest words → IsSpelled fresh (quoted bytes ++ rest) (Text bytes ∷ words)
text_spelled fresh bytes rest words u f h =
    subst (λ (z : List ℕ). IsSpelled fresh (34 ∷ z) (Text bytes ∷ words)) (sym (append_assoc (quoted_bytes bytes) (34 ∷ []) rest)) (quoted_spelled fresh bytes rest words u f h)

written_spelled : (fresh : Bool) (line : List ℕ) (words : List Item) → IsWritten fresh line words → IsSpelled fresh line words
written_spelled fresh line words ends = spelling.ends
written_spelled fresh line words (blank {rest = rest} e h) = spelling.blank e (written_spelled true rest words h)
written_spelled fresh line words (equals {rest = rest} {words = ws} h) = spelling.equals (written_spelled false rest ws h)
written_spelled fresh line words (colon {rest = rest} {words = ws} h) = spelling.colon (written_spelled false rest ws h)
written_spelled fresh line words (text {words = ws} bytes rest e u f h) =
    subst (λ (z : List ℕ). IsSpelled fresh z (Text bytes ∷ ws)) (sym e) (text_spelled fresh bytes rest ws u f (written_spelled false rest ws h))
written_spelled fresh line words (word {words = ws} w rest e is f end h) = spelling.word w rest e is f end (written_spelled false rest ws h)

written_words : (fresh : Bool) (line : List ℕ) (words : List Item) → IsWritten fresh line words → AreWords words
written_words fresh line words ends = tt
written_words fresh line words (blank {rest = rest} e h) = written_words true rest words h
written_words fresh line words (equals {rest = rest} {words = ws} h) = (tt, written_words false rest ws h)
written_words fresh line words (colon {rest = rest} {words = ws} h) = (tt, written_words false rest ws h)
written_words fresh line words (text {words = ws} bytes rest e u f h) = (tt, written_words false rest ws h)
written_words fresh line words (word {words = ws} w rest e is f end h) = (f, written_words false rest ws h)

is_word_text : (fresh : Bool) (w : List ℕ) → IsWord fresh w → list_all is_word_byte w ≡ true
is_word_text fresh [] h = absurd h
is_word_text fresh (b ∷ w) h = h.1

written_inner : (fresh : Bool) (line : List ℕ) (words : List Item) → IsWritten fresh line words → IsInner line
written_inner fresh line words ends = refl
written_inner fresh line words (blank {b} {rest} e h) = inner_byte b rest (blank_inner b e) (written_inner true rest words h)
written_inner fresh line words (equals {rest = rest} {words = ws} h) = written_inner false rest ws h
written_inner fresh line words (colon {rest = rest} {words = ws} h) = written_inner false rest ws h
written_inner fresh line words (text {words = ws} bytes rest e u f h) =
    subst IsInner (sym e) (inner_joined (quoted bytes) rest (quoted_inner bytes) (written_inner false rest ws h))
written_inner fresh line words (word {words = ws} w rest e is f end h) =
    subst IsInner (sym e) (inner_joined w rest (all_weaker is_word_byte is_inner w word_byte_inner (is_word_text fresh w is)) (written_inner false rest ws h))

-- ---- lines

-- a canonical line, and the rows that it says
pub record IsLine (line : List ℕ) (rows : List Row) : Type 0 where
  pub row : AreRowsOf (words_of line) rows
  pub inner : IsInner line

-- what the words are, the line says
pub said : (line : List ℕ) (items : List Item) (rows : List Row) → IsWritten true line items → IsRow items rows → IsLine line rows
said line items rows w h =
    record { row = subst (λ (z : List Item). AreRowsOf z rows) (sym (spelled_again true line items (written_spelled true line items w))) (of_words (written_words true line items w) h); inner = written_inner true line items w }

pub last_word : (fresh : Bool) (w : List ℕ) → IsWord fresh w → fits w ≡ true → IsWritten fresh w (Word w ∷ [])
last_word fresh w h f = word w [] (sym (append-nil w)) h f tt ends

pub last_text : (fresh : Bool) (bytes : List ℕ) → is_utf8 bytes ≡ true → fits bytes ≡ true → IsWritten fresh (quoted bytes) (Text bytes ∷ [])
last_text fresh bytes u f = text bytes [] (sym (append-nil (quoted bytes))) u f ends
