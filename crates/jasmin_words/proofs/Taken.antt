-- What is read without a wrong word is spelled so.
use Rattle.std.proofs.Common.{◌≡◌, ℕ, zero, suc, ◌+◌, ◌<◌, Bool, true, false, not, ◌&&◌, cond, eqb, List, [], ◌∷◌, ◌++◌, length, drop, take, Option, Some, None, Result, Ok, Err, refl, sym, ap, subst, ◌∙◌, arith}
use Rattle.std.proofs.lemmas.Bool.{eqb-true, and_parts, not-false}
use Rattle.std.proofs.lemmas.List.{take-append-drop}
use Rattle.std.specs.List.{list_all}
use Rattle.std.specs.Str.{is_utf8}
use Rattle.jasmin_words.specs.declared.escape.EscapeFault.{EscapeFault}
use Rattle.jasmin_words.specs.declared.escape.EscapeFault.TheVariants.{Wrong, Cut}
use Rattle.jasmin_words.specs.Escapes.{unescaped}
use Rattle.jasmin_words.specs.Lexing.{Item, Word, BadWord, Equals, Colon, Text, BadText, fits, is_blank, is_parting, is_plain, word_len, word_item, word_at, raw_len, resolved_item, string_item, closed_at, string_at, token_at, after_token, words_in, words_from}
use Rattle.jasmin_words.specs.Spelling.{Ends, is_word_byte, IsWord, IsSpelled, ends, comment, blank, equals, colon, string, word, IsGoodWord, AreWords}
use Rattle.jasmin_words.proofs.Tokens.{token_at-shrinks}
use Rattle.jasmin_words.proofs.TakenString.{IsOpen, quoted_taken}

head_is : (b c : ℕ) (s : List ℕ) → eqb b c ≡ true → b ∷ s ≡ c ∷ s
head_is b c s e = ap (λ (x : ℕ). x ∷ s) (eqb-true b c e)

-- ---- strings

-- the text before the closing quote has none
pub open_text : (e : Bool) (s : List ℕ) → raw_len e (take (raw_len e s) s) ≡ length (take (raw_len e s) s)
open_text e [] = refl
open_text e (b ∷ s) =
    let go : (t : Bool) → (not e && eqb b 34) ≡ t → raw_len e (take (cond t 0 (1 + raw_len (not e && eqb b 92) s)) (b ∷ s)) ≡ length (take (cond t 0 (1 + raw_len (not e && eqb b 92) s)) (b ∷ s)) = λ t. elim t as (λ t. (not e && eqb b 34) ≡ t → raw_len e (take (cond t 0 (1 + raw_len (not e && eqb b 92) s)) (b ∷ s)) ≡ length (take (cond t 0 (1 + raw_len (not e && eqb b 92) s)) (b ∷ s))) [
      | true ↦ λ h. refl
      | false ↦ λ h. let ih = open_text (not e && eqb b 92) s in let one : 1 + raw_len (not e && eqb b 92) s ≡ suc (raw_len (not e && eqb b 92) s) = omega arith in rw (one, h) (omega arith)
    ] in
    go (not e && eqb b 34) refl

-- what is left begins with a quote, or nothing is left
abbrev EndsQuoted : List ℕ → Type 0
EndsQuoted [] = Unit {0}
EndsQuoted (b ∷ s) = b ≡ 34

closes : (e : Bool) (s : List ℕ) → EndsQuoted (drop (raw_len e s) s)
closes e [] = tt
closes e (b ∷ s) =
    let go : (t : Bool) → (not e && eqb b 34) ≡ t → EndsQuoted (drop (cond t 0 (1 + raw_len (not e && eqb b 92) s)) (b ∷ s)) = λ t. elim t as (λ t. (not e && eqb b 34) ≡ t → EndsQuoted (drop (cond t 0 (1 + raw_len (not e && eqb b 92) s)) (b ∷ s))) [
      | true ↦ λ h. eqb-true b 34 (and_parts (not e) (eqb b 34) h).1
      | false ↦ λ h. let one : 1 + raw_len (not e && eqb b 92) s ≡ suc (raw_len (not e && eqb b 92) s) = omega arith in rw one (closes (not e && eqb b 92) s)
    ] in
    go (not e && eqb b 34) refl

-- a string item that isn't bad is what the text means
abbrev pub IsStringItem : Bool → List ℕ → Item → Type 0
IsStringItem closed raw (Text bytes) = (closed ≡ true) × (is_utf8 raw ≡ true) × (unescaped raw ≡ Ok bytes) × (fits bytes ≡ true)
IsStringItem closed raw (BadText k) = Unit {0}
IsStringItem closed raw other = ⊥

cond_item : (closed : Bool) (raw : List ℕ) (b : Bool) (x y : Item) → (b ≡ true → IsStringItem closed raw x) → (b ≡ false → IsStringItem closed raw y) → IsStringItem closed raw (cond b x y)
cond_item closed raw true x y p q = p refl
cond_item closed raw false x y p q = q refl

resolved_is : (closed : Bool) (raw : List ℕ) (r : Result (List ℕ) EscapeFault) → is_utf8 raw ≡ true → unescaped raw ≡ r → IsStringItem closed raw (resolved_item closed r)
resolved_is closed raw (Err Wrong) u e = tt
resolved_is closed raw (Err Cut) u e = cond_item closed raw closed _ _ (λ _. tt) (λ _. tt)
resolved_is closed raw (Ok bytes) u e = cond_item closed raw (not closed) _ _ (λ _. tt) (λ c. cond_item closed raw (fits bytes) _ _ (λ f. (not-false closed c, u, e, f)) (λ _. tt))

pub string_is : (closed : Bool) (raw : List ℕ) → IsStringItem closed raw (string_item closed raw)
unfolding string_item
string_is closed raw = cond_item closed raw (is_utf8 raw) _ _ (λ u. resolved_is closed raw (unescaped raw) u refl) (λ _. tt)

abbrev pub IsNext : Bool → List ℕ → Option (Item × List ℕ) → Type 0
IsNext fresh s None = IsSpelled fresh s []
IsNext fresh s (Some x) = (words : List Item) → IsGoodWord x.0 → IsSpelled false x.1 words → IsSpelled fresh s (x.0 ∷ words)

text_next : (fresh : Bool) (bs raw rest : List ℕ) (i : Item) → bs ≡ raw ++ 34 ∷ rest → IsOpen raw → IsStringItem true raw i → IsNext fresh (34 ∷ bs) (Some (i, rest))
text_next fresh bs raw rest (Text bytes) e o h = λ words ok q. string raw rest e h.1 (quoted_taken raw bytes o h.2) h.3 q
text_next fresh bs raw rest (BadText k) e o h = λ words ok q. absurd ok
text_next fresh bs raw rest (Word w) e o h = absurd h
text_next fresh bs raw rest BadWord e o h = absurd h
text_next fresh bs raw rest Equals e o h = absurd h
text_next fresh bs raw rest Colon e o h = absurd h

open_next : (fresh : Bool) (s raw : List ℕ) (i : Item) → IsStringItem false raw i → IsNext fresh s (Some (i, []))
open_next fresh s raw (Text bytes) h = let wrong : false ≡ true = h.0 in absurd (untrue wrong)
  where
    untrue : false ≡ true → ⊥
    untrue e = subst (λ (b : Bool). elim b as (λ _. Type 0) [ true ↦ ⊥ | false ↦ Unit {0} ]) e tt
open_next fresh s raw (BadText k) h = λ words ok q. absurd ok
open_next fresh s raw (Word w) h = absurd h
open_next fresh s raw BadWord h = absurd h
open_next fresh s raw Equals h = absurd h
open_next fresh s raw Colon h = absurd h

closed_next : (fresh : Bool) (bs raw rest : List ℕ) → bs ≡ raw ++ rest → IsOpen raw → EndsQuoted rest → IsNext fresh (34 ∷ bs) (Some (closed_at raw rest))
closed_next fresh bs raw [] e o q = open_next fresh (34 ∷ bs) raw (string_item false raw) (string_is false raw)
closed_next fresh bs raw (b ∷ rest) e o q = text_next fresh bs raw rest (string_item true raw) (e ∙ ap (λ (z : ℕ). raw ++ z ∷ rest) q) o (string_is true raw)

string_next : (fresh : Bool) (b : ℕ) (bs : List ℕ) → eqb b 34 ≡ true → IsNext fresh (b ∷ bs) (Some (string_at bs))
unfolding string_at
string_next fresh b bs e =
    subst (λ (l : List ℕ). IsNext fresh l (Some (closed_at (take (raw_len false bs) bs) (drop (raw_len false bs) bs)))) (sym (head_is b 34 bs e))
    (closed_next fresh bs (take (raw_len false bs) bs) (drop (raw_len false bs) bs) (sym (take-append-drop (raw_len false bs) bs)) (open_text false bs) (closes false bs))

-- ---- words

ends_after : (s : List ℕ) → Ends (drop (word_len s) s)
ends_after [] = tt
ends_after (b ∷ bs) =
    let go : (t : Bool) → is_parting b ≡ t → Ends (drop (cond t 0 (1 + word_len bs)) (b ∷ bs)) = λ t. elim t as (λ t. is_parting b ≡ t → Ends (drop (cond t 0 (1 + word_len bs)) (b ∷ bs))) [
      | true ↦ λ e. e
      | false ↦ λ e. let one : 1 + word_len bs ≡ suc (word_len bs) = omega arith in rw one (ends_after bs)
    ] in
    go (is_parting b) refl

-- what comes before the first byte that separates words has none that does
pub none_part : (s : List ℕ) → list_all is_plain (take (word_len s) s) ≡ true → list_all (λ x. is_plain x && not (is_parting x)) (take (word_len s) s) ≡ true
none_part [] h = refl
none_part (b ∷ bs) h =
    let go : (t : Bool) → is_parting b ≡ t → list_all is_plain (take (cond t 0 (1 + word_len bs)) (b ∷ bs)) ≡ true → list_all (λ x. is_plain x && not (is_parting x)) (take (cond t 0 (1 + word_len bs)) (b ∷ bs)) ≡ true = λ t. elim t as (λ t. is_parting b ≡ t → list_all is_plain (take (cond t 0 (1 + word_len bs)) (b ∷ bs)) ≡ true → list_all (λ x. is_plain x && not (is_parting x)) (take (cond t 0 (1 + word_len bs)) (b ∷ bs)) ≡ true) [
      | true ↦ λ e h. refl
      | false ↦ λ e. let one : 1 + word_len bs ≡ suc (word_len bs) = omega arith in rw one (λ h. let p = and_parts (is_plain b) (list_all is_plain (take (word_len bs) bs)) h in rw (p.0, e) (none_part bs p.1))
    ] in
    go (is_parting b) refl h

-- ---- the words of a line

cond_next : (b : Bool) (x y : Option (Item × List ℕ)) (fresh : Bool) (s : List ℕ) → (b ≡ true → IsNext fresh s x) → (b ≡ false → IsNext fresh s y) → IsNext fresh s (cond b x y)
cond_next true x y fresh s p q = p refl
cond_next false x y fresh s p q = q refl

blank_next : (fresh : Bool) (b : ℕ) (s : List ℕ) (o : Option (Item × List ℕ)) → is_blank b ≡ true → IsNext true s o → IsNext fresh (b ∷ s) o
blank_next fresh b s None e h = blank e h
blank_next fresh b s (Some x) e h = λ words ok q. blank e (h words ok q)

comment_next : (fresh : Bool) (b : ℕ) (s : List ℕ) → (eqb b 59 && fresh) ≡ true → IsSpelled fresh (b ∷ s) []
comment_next fresh b s e =
    let p = and_parts (eqb b 59) fresh e in
    subst (λ (f : Bool). IsSpelled f (b ∷ s) []) (sym p.1) (subst (λ (l : List ℕ). IsSpelled true l []) (sym (head_is b 59 s p.0)) comment)

word_is : (fresh : Bool) (line w rest : List ℕ) → line ≡ w ++ rest → (list_all is_plain w ≡ true → IsWord fresh w) → Ends rest → IsNext fresh line (Some (word_item w, rest))
unfolding word_item
word_is fresh line w rest e h n =
    by (list_all is_plain w) h
  where
    by : (t : Bool) → (t ≡ true → IsWord fresh w) → IsNext fresh line (Some (cond t (Word w) BadWord, rest))
    by true h = λ words f q. word w rest e (h refl) f n q
    by false h = λ words ok q. absurd ok

word_next : (fresh : Bool) (b : ℕ) (s : List ℕ) → (eqb b 59 && fresh) ≡ false → is_parting b ≡ false → IsNext fresh (b ∷ s) (Some (word_at (b ∷ s)))
unfolding word_at
word_next fresh b s n p =
    let one : word_len (b ∷ s) ≡ suc (word_len s) = rw p (omega arith) in
    let front : take (word_len (b ∷ s)) (b ∷ s) ≡ b ∷ take (word_len s) s = ap (λ (k : ℕ). take k (b ∷ s)) one in
    word_is fresh (b ∷ s) (take (word_len (b ∷ s)) (b ∷ s)) (drop (word_len (b ∷ s)) (b ∷ s)) (sym (take-append-drop (word_len (b ∷ s)) (b ∷ s)))
    (λ e. subst (λ (w : List ℕ). IsWord fresh w) (sym front) (n, subst (λ (w : List ℕ). list_all is_word_byte w ≡ true) front (none_part (b ∷ s) e))) (ends_after (b ∷ s))

none_of : (b : ℕ) → is_blank b ≡ false → eqb b 61 ≡ false → eqb b 58 ≡ false → eqb b 34 ≡ false → is_parting b ≡ false
none_of b p q r s = rw (p, s, r, q) refl

pub token_is : (fresh : Bool) (s : List ℕ) → IsNext fresh s (token_at fresh s)
unfolding token_at
token_is fresh [] = ends
token_is fresh (b ∷ bs) =
    cond_next (is_blank b) _ _ fresh (b ∷ bs) (λ e. blank_next fresh b bs (token_at true bs) e (token_is true bs)) (λ p.
    cond_next (eqb b 59 && fresh) _ _ fresh (b ∷ bs) (λ e. comment_next fresh b bs e) (λ n.
    cond_next (eqb b 61) _ _ fresh (b ∷ bs) (λ e words ok h. subst (λ (l : List ℕ). IsSpelled fresh l (Equals ∷ words)) (sym (head_is b 61 bs e)) (equals h)) (λ q.
    cond_next (eqb b 58) _ _ fresh (b ∷ bs) (λ e words ok h. subst (λ (l : List ℕ). IsSpelled fresh l (Colon ∷ words)) (sym (head_is b 58 bs e)) (colon h)) (λ r.
    cond_next (eqb b 34) _ _ fresh (b ∷ bs) (λ e. string_next fresh b bs e) (λ t. word_next fresh b bs n (none_of b p q r t))))))

next_spelled : (fresh : Bool) (s : List ℕ) (o : Option (Item × List ℕ)) (next : List ℕ → List Item) → IsNext fresh s o → ((t : Item) (rest : List ℕ) → o ≡ Some (t, rest) → AreWords (next rest) → IsSpelled false rest (next rest)) → AreWords (after_token next o) → IsSpelled fresh s (after_token next o)
next_spelled fresh s None next h ih ok = h
next_spelled fresh s (Some x) next h ih ok = h (next x.1) ok.0 (ih x.0 x.1 refl ok.1)

pub spelled_in : (n : ℕ) (fresh : Bool) (s : List ℕ) → length s < n → AreWords (words_in n fresh s) → IsSpelled fresh s (words_in n fresh s)
unfolding words_in
spelled_in zero fresh s lt ok = absurd (omega arith)
spelled_in (suc n) fresh s lt ok = next_spelled fresh s (token_at fresh s) (words_in n false) (token_is fresh s) (λ t rest e good. let less = token_at-shrinks fresh s t rest e in spelled_in n false rest (omega arith) good) ok

-- What is read without a wrong word is spelled so.
pub spelled_taken : (fresh : Bool) (s : List ℕ) → AreWords (words_from fresh s) → IsSpelled fresh s (words_from fresh s)
unfolding words_from
spelled_taken fresh s ok = spelled_in (suc (length s)) fresh s (omega arith) ok
