-- What is spelled by words is read as those words.
use Rattle.std.proofs.Common.{◌≡◌, ℕ, suc, ◌+◌, Bool, true, false, not, ◌&&◌, ◌||◌, eqb, List, [], ◌∷◌, ◌++◌, length, Some, None, refl, ap, ◌∙◌, arith}
use Rattle.std.proofs.lemmas.Bool.{and_parts, not-true}
use Rattle.std.proofs.lemmas.List.{take_at, drop_at}
use Rattle.std.specs.List.{list_all}
use Rattle.std.specs.Str.{is_utf8}
use Rattle.jasmin_words.specs.Lexing.{Item, Word, Equals, Colon, Text, fits, is_blank, is_parting, is_plain, word_len, word_item, word_at, string_item, string_at, token_at, words_from}
use Rattle.jasmin_words.specs.Spelling.{IsQuoted, Ends, is_word_byte, IsSpelled, ends, comment, blank, equals, colon, string, word}
use Rattle.jasmin_words.proofs.Quoted.{raw_length, unescaped_again}
use Rattle.jasmin_words.proofs.Tokens.{words_from-some, words_from-none, words_from-same}

-- ---- strings

item_again : (text bytes : List ℕ) → is_utf8 text ≡ true → IsQuoted text bytes → fits bytes ≡ true → string_item true text ≡ Text bytes
unfolding string_item
item_again text bytes u h f = rw (u, unescaped_again text bytes h) (rw f refl)

string_again : (text bytes rest : List ℕ) → is_utf8 text ≡ true → IsQuoted text bytes → fits bytes ≡ true → string_at (text ++ 34 ∷ rest) ≡ (Text bytes, rest)
unfolding string_at
string_again text bytes rest u h f =
    let len = raw_length text bytes rest h in
    rw (len, take_at text (34 ∷ rest) (length text) refl, drop_at text (34 ∷ rest) (length text) refl) (ap (λ (i : Item). (i, rest)) (item_again text bytes u h f))

-- ---- words

one_more : (n : ℕ) → 1 + n ≡ suc n
one_more n = omega arith

unit_len : (w rest : List ℕ) → list_all (λ x. is_plain x && not (is_parting x)) w ≡ true → Ends rest → word_len (w ++ rest) ≡ length w
unit_len [] [] h e = refl
unit_len [] (b ∷ bs) h e = rw e refl
unit_len (b ∷ w) rest h e =
    let p = and_parts (is_plain b && not (is_parting b)) (list_all (λ x. is_plain x && not (is_parting x)) w) h in
    let q = and_parts (is_plain b) (not (is_parting b)) p.0 in
    rw (not-true (is_parting b) q.1) (one_more (word_len (w ++ rest)) ∙ ap suc (unit_len w rest p.1 e))

all_plain : (w : List ℕ) → list_all (λ x. is_plain x && not (is_parting x)) w ≡ true → list_all is_plain w ≡ true
all_plain [] h = refl
all_plain (b ∷ w) h =
    let p = and_parts (is_plain b && not (is_parting b)) (list_all (λ x. is_plain x && not (is_parting x)) w) h in
    let q = and_parts (is_plain b) (not (is_parting b)) p.0 in
    rw q.0 (all_plain w p.1)

word_item_again : (w : List ℕ) → list_all is_word_byte w ≡ true → word_item w ≡ Word w
unfolding word_item
word_item_again w h = rw (all_plain w h) refl

pub word_again : (w rest : List ℕ) → list_all is_word_byte w ≡ true → Ends rest → word_at (w ++ rest) ≡ (Word w, rest)
unfolding word_at
word_again w rest h e =
    let n = unit_len w rest h e in
    rw (n, take_at w rest (length w) refl, drop_at w rest (length w) refl) (ap (λ (i : Item). (i, rest)) (word_item_again w h))

starts : (b : ℕ) (w : List ℕ) → list_all (λ x. is_plain x && not (is_parting x)) (b ∷ w) ≡ true → is_parting b ≡ false
starts b w h =
    let p = and_parts (is_plain b && not (is_parting b)) (list_all (λ x. is_plain x && not (is_parting x)) w) h in
    let q = and_parts (is_plain b) (not (is_parting b)) p.0 in
    not-true (is_parting b) q.1

-- a byte that separates no words is none of those that do
parts_none : (b : ℕ) → is_parting b ≡ false → (is_blank b ≡ false) × (eqb b 34 ≡ false) × (eqb b 58 ≡ false) × (eqb b 61 ≡ false)
parts_none b e =
    let go : (p q r s : Bool) → (p || q || r || s) ≡ false → (p ≡ false) × (q ≡ false) × (r ≡ false) × (s ≡ false) = λ p q r s. elim p as (λ p. (p || q || r || s) ≡ false → (p ≡ false) × (q ≡ false) × (r ≡ false) × (s ≡ false)) [
      | true ↦ λ h. absurd cc
      | false ↦ elim q as (λ q. (false || q || r || s) ≡ false → (false ≡ false) × (q ≡ false) × (r ≡ false) × (s ≡ false)) [
        | true ↦ λ h. absurd cc
        | false ↦ elim r as (λ r. (false || false || r || s) ≡ false → (false ≡ false) × (false ≡ false) × (r ≡ false) × (s ≡ false)) [ true ↦ λ h. absurd cc | false ↦ λ h. (refl, refl, refl, h) ]
      ]
    ] in
    go (is_blank b) (eqb b 34) (eqb b 58) (eqb b 61) e

token_word : (fresh : Bool) (b : ℕ) (w rest : List ℕ) → (eqb b 59 && fresh) ≡ false → list_all is_word_byte (b ∷ w) ≡ true → Ends rest → token_at fresh (b ∷ (w ++ rest)) ≡ Some (Word (b ∷ w), rest)
unfolding token_at
token_word fresh b w rest n h e =
    let apart = parts_none b (starts b w h) in
    rw (apart.0, n, apart.3, apart.2, apart.1) (ap (λ (x : Item × List ℕ). Some x) (word_again (b ∷ w) rest h e))

token_string : (fresh : Bool) (text bytes rest : List ℕ) → is_utf8 text ≡ true → IsQuoted text bytes → fits bytes ≡ true → token_at fresh (34 ∷ (text ++ 34 ∷ rest)) ≡ Some (Text bytes, rest)
unfolding token_at
token_string fresh text bytes rest u h f = ap (λ (x : Item × List ℕ). Some x) (string_again text bytes rest u h f)

token_blank : (fresh : Bool) (b : ℕ) (rest : List ℕ) → is_blank b ≡ true → token_at fresh (b ∷ rest) ≡ token_at true rest
unfolding token_at
token_blank fresh b rest e = rw e refl

token_equals : (fresh : Bool) (rest : List ℕ) → token_at fresh (61 ∷ rest) ≡ Some (Equals, rest)
unfolding token_at
token_equals fresh rest = refl

token_colon : (fresh : Bool) (rest : List ℕ) → token_at fresh (58 ∷ rest) ≡ Some (Colon, rest)
unfolding token_at
token_colon fresh rest = refl

token_comment : (text : List ℕ) → token_at true (59 ∷ text) ≡ None
unfolding token_at
token_comment text = refl

token_nothing : (fresh : Bool) → token_at fresh [] ≡ None
unfolding token_at
token_nothing fresh = refl

-- What is spelled by words is read as them.
pub spelled_again : (fresh : Bool) (line : List ℕ) (words : List Item) → IsSpelled fresh line words → words_from fresh line ≡ words
spelled_again fresh line words ends = words_from-none fresh [] (token_nothing fresh)
spelled_again fresh line words (comment {text = t}) = words_from-none true (59 ∷ t) (token_comment t)
spelled_again fresh line words (blank {b} {rest} e h) = words_from-same fresh true (b ∷ rest) rest (token_blank fresh b rest e) ∙ spelled_again true rest words h
spelled_again fresh line words (equals {rest} {words = ws} h) = words_from-some fresh (61 ∷ rest) Equals rest (token_equals fresh rest) ∙ ap (λ (ts : List Item). Equals ∷ ts) (spelled_again false rest ws h)
spelled_again fresh line words (colon {rest} {words = ws} h) = words_from-some fresh (58 ∷ rest) Colon rest (token_colon fresh rest) ∙ ap (λ (ts : List Item). Colon ∷ ts) (spelled_again false rest ws h)
spelled_again fresh line words (string {after} {bytes} {words = ws} t rest e u q f h) = ap (λ (a : List ℕ). words_from fresh (34 ∷ a)) e ∙ words_from-some fresh (34 ∷ (t ++ 34 ∷ rest)) (Text bytes) rest (token_string fresh t bytes rest u q f) ∙ ap (λ (ts : List Item). Text bytes ∷ ts) (spelled_again false rest ws h)
spelled_again fresh line words (word {words = ws} [] rest e q f n h) = absurd q
spelled_again fresh line words (word {words = ws} (b ∷ w) rest e q f n h) = ap (words_from fresh) e ∙ words_from-some fresh (b ∷ (w ++ rest)) (Word (b ∷ w)) rest (token_word fresh b w rest q.0 q.1 n) ∙ ap (λ (ts : List Item). Word (b ∷ w) ∷ ts) (spelled_again false rest ws h)
