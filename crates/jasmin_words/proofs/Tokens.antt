-- Words one after the other.
use Rattle.std.proofs.Common.{◌≡◌, ℕ, zero, suc, ◌+◌, ◌≤◌, ◌<◌, Bool, true, false, ◌&&◌, cond, eqb, List, [], ◌∷◌, ◌++◌, length, take, drop, Option, Some, None, refl, sym, ap, ◌∙◌, append_assoc, arith}
use Rattle.std.proofs.lemmas.List.{append-nil, length-drop}
use Rattle.jasmin_words.specs.Lexing.{Item, raw_len, closed_at, string_at, is_blank, is_parting, word_len, word_at, token_at, after_token, words_in, words_from}

-- what a token leaves
abbrev pub left : Option (Item × List ℕ) → ℕ
left None = 0
left (Some x) = length x.1

cond_left : (b : Bool) (x y : Option (Item × List ℕ)) (n : ℕ) → (b ≡ true → left x < n) → (b ≡ false → left y < n) → left (cond b x y) < n
cond_left true x y n p q = p refl
cond_left false x y n p q = q refl

-- a byte that is no blank, quote, colon or equals sign begins a word
begins : (b : ℕ) → is_blank b ≡ false → eqb b 61 ≡ false → eqb b 58 ≡ false → eqb b 34 ≡ false → is_parting b ≡ false
begins b p q r s = rw (p, s, r, q) refl

word_leaves : (b : ℕ) (bs : List ℕ) → is_parting b ≡ false → length (word_at (b ∷ bs)).1 < suc (length bs)
unfolding word_at
word_leaves b bs no_part = rw no_part (omega (arith, length-drop (1 + word_len bs) (b ∷ bs)))

closed_leaves : (raw rest : List ℕ) → length (closed_at raw rest).1 ≤ length rest
closed_leaves raw [] = omega arith
closed_leaves raw (b ∷ rest) = omega arith

string_leaves : (bs : List ℕ) → length (string_at bs).1 ≤ length bs
unfolding string_at
string_leaves bs = omega (arith, closed_leaves (take (raw_len false bs) bs) (drop (raw_len false bs) bs), length-drop (raw_len false bs) bs)

pub token_leaves : (fresh : Bool) (bs : List ℕ) (n : ℕ) → length bs ≤ n → 0 < n → left (token_at fresh bs) < n
unfolding token_at
token_leaves fresh [] n le z = z
token_leaves fresh (b ∷ bs) n le z =
    cond_left (is_blank b) _ _ n (λ _. token_leaves true bs n (omega arith) z) (λ p. cond_left (eqb b 59 && fresh) _ _ n (λ _. z) (λ _. cond_left (eqb b 61) _ _ n (λ _. omega arith) (λ q. cond_left (eqb b 58) _ _ n (λ _. omega arith) (λ r. cond_left (eqb b 34) _ _ n (λ _. omega (arith, string_leaves bs)) (λ s. let w = word_leaves b bs (begins b p q r s) in omega arith)))))

pub token_at-shrinks : (fresh : Bool) (bs : List ℕ) (t : Item) (rest : List ℕ) → token_at fresh bs ≡ Some (t, rest) → length rest < length bs
unfolding token_at
token_at-shrinks fresh [] t rest e = absurd cc
token_at-shrinks fresh (b ∷ bs) t rest e = let less = token_leaves fresh (b ∷ bs) (suc (length bs)) (omega arith) (omega arith) in let same : left (token_at fresh (b ∷ bs)) ≡ length rest = ap left e in omega arith

same_after : (o : Option (Item × List ℕ)) (f g : List ℕ → List Item) → ((t : Item) (rest : List ℕ) → o ≡ Some (t, rest) → f rest ≡ g rest) → after_token f o ≡ after_token g o
same_after None f g h = refl
same_after (Some x) f g h = ap (λ (ys : List Item). x.0 ∷ ys) (h x.0 x.1 refl)

enough : (n m : ℕ) (fresh : Bool) (s : List ℕ) → length s < n → length s < m → words_in n fresh s ≡ words_in m fresh s
unfolding words_in
enough zero m fresh s p q = absurd (omega arith)
enough (suc n) zero fresh s p q = absurd (omega arith)
enough (suc n) (suc m) fresh s p q = same_after (token_at fresh s) (words_in n false) (words_in m false) (λ t rest e. let less = token_at-shrinks fresh s t rest e in enough n m false rest (omega arith) (omega arith))

pub words_from-some : (fresh : Bool) (s : List ℕ) (t : Item) (rest : List ℕ) → token_at fresh s ≡ Some (t, rest) → words_from fresh s ≡ t ∷ words_from false rest
unfolding words_from words_in
words_from-some fresh s t rest e = let less = token_at-shrinks fresh s t rest e in rw e (ap (λ (ys : List Item). t ∷ ys) (enough (length s) (suc (length rest)) false rest (omega arith) (omega arith)))

pub words_from-none : (fresh : Bool) (s : List ℕ) → token_at fresh s ≡ None → words_from fresh s ≡ []
unfolding words_from words_in
words_from-none fresh s e = rw e refl

pub goes_on : (front : List Item) (fresh : Bool) (s : List ℕ) (t : Item) (rest : List ℕ) (total : List Item) → token_at fresh s ≡ Some (t, rest) → front ++ words_from fresh s ≡ total → (front ++ t ∷ []) ++ words_from false rest ≡ total
goes_on front fresh s t rest total e so_far = append_assoc front (t ∷ []) (words_from false rest) ∙ ap (λ (ys : List Item). front ++ ys) (sym (words_from-some fresh s t rest e)) ∙ so_far

pub is_done : (front : List Item) (fresh : Bool) (s : List ℕ) (total : List Item) → token_at fresh s ≡ None → front ++ words_from fresh s ≡ total → front ≡ total
is_done front fresh s total e so_far = sym (append-nil front) ∙ ap (λ (ys : List Item). front ++ ys) (sym (words_from-none fresh s e)) ∙ so_far

-- where two places have the same next word, the words are the same
pub words_from-same : (f g : Bool) (s t : List ℕ) → token_at f s ≡ token_at g t → words_from f s ≡ words_from g t
unfolding words_from words_in
words_from-same f g s t e =
    same_after (token_at f s) (words_in (length s) false) (words_in (length t) false) (λ x rest h. let p = token_at-shrinks f s x rest h in let q = token_at-shrinks g t x rest (sym e ∙ h) in enough (length s) (length t) false rest p q) ∙ ap (after_token (words_in (length t) false)) e
