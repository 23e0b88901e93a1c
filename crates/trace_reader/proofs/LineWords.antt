-- What is a word of a line, and that it is read again.
use Rattle.std.proofs.Common.{◌≡◌, ℕ, ◌<◌, Bool, true, false, not, eqb, List, [], ◌∷◌, ◌++◌, length, Ok, refl, sym, ap, ◌∙◌, arith}
use Rattle.std.proofs.lemmas.Bool.{eqb-true, and_parts, not-true}
use Rattle.std.proofs.lemmas.List.{take-append-drop}
use Rattle.std.proofs.Math.Seq.{take-append_seam, drop-append_seam}
use Rattle.std.specs.List.{list_all}
use Rattle.jasmin_words.specs.Spelling.{is_word_byte}
use Rattle.sequence.proofs.Results.{Holds, bind_holds, guard_holds, refuse_holds, weaker}
use Rattle.trace_reader.specs.Words.{ends_word, word_len, word_at, space_at, next_at, end_at}

-- ---- what is read is there

pub word_found : (s : List ℕ) → Holds (λ x. s ≡ x.0 ++ x.1) (word_at s)
unfolding word_at
word_found s = refuse_holds (λ x. s ≡ x.0 ++ x.1) (eqb (word_len s) 0) _ _ (λ _. sym (take-append-drop (word_len s) s))

pub space_found : (s : List ℕ) → Holds (λ x. s ≡ 32 ∷ x) (space_at s)
unfolding space_at
space_found [] = tt
space_found (b ∷ s) = guard_holds (λ x. b ∷ s ≡ 32 ∷ x) (eqb b 32) _ _ (λ e. ap (λ (z : ℕ). z ∷ s) (eqb-true b 32 e))

pub next_found : (s : List ℕ) → Holds (λ x. s ≡ 32 ∷ (x.0 ++ x.1)) (next_at s)
unfolding next_at
next_found s =
    bind_holds (λ x. s ≡ 32 ∷ x) (λ x. s ≡ 32 ∷ (x.0 ++ x.1)) (space_at s) word_at (space_found s)
    (λ rest _ p. weaker (λ x. rest ≡ x.0 ++ x.1) (λ x. s ≡ 32 ∷ (x.0 ++ x.1)) (word_at rest) (λ x q. p ∙ ap (λ (z : List ℕ). 32 ∷ z) q) (word_found rest))

pub end_found : (s : List ℕ) → Holds (λ x. s ≡ 10 ∷ x) (end_at s)
unfolding end_at
end_found [] = tt
end_found (b ∷ s) = guard_holds (λ x. b ∷ s ≡ 10 ∷ x) (eqb b 10) _ _ (λ e. ap (λ (z : ℕ). z ∷ s) (eqb-true b 10 e))

-- ---- what is written is read

-- no byte ends a word
abbrev pub unbroken : List ℕ → Bool
unbroken w = list_all (λ b. not (ends_word b)) w

pub record IsLineWord (w : List ℕ) : Type 0 where
  pub some : 0 < length w
  pub whole : unbroken w ≡ true

length_of : (w rest : List ℕ) (b : ℕ) → unbroken w ≡ true → ends_word b ≡ true → word_len (w ++ b ∷ rest) ≡ length w
length_of [] rest b h e = rw e refl
length_of (x ∷ w) rest b h e =
    let p = and_parts (not (ends_word x)) (unbroken w) h in
    let q = length_of w rest b p.1 e in
    rw (not-true (ends_word x) p.0) (omega (arith, q))

pub word_again : (w rest : List ℕ) (b : ℕ) → IsLineWord w → ends_word b ≡ true → word_at (w ++ b ∷ rest) ≡ Ok (w, b ∷ rest)
unfolding word_at
word_again w rest b h e =
    let n = length_of w rest b h.whole e in
    let some : eqb (length w) 0 ≡ false = let more = h.some in grind arith in
    rw (n, some, take-append_seam w (b ∷ rest), drop-append_seam w (b ∷ rest)) refl

pub next_again : (w rest : List ℕ) (b : ℕ) → IsLineWord w → ends_word b ≡ true → next_at (32 ∷ (w ++ b ∷ rest)) ≡ Ok (w, b ∷ rest)
unfolding next_at space_at
next_again w rest b h e = word_again w rest b h e

plain_byte : (b : ℕ) → is_word_byte b ≡ true → not (ends_word b) ≡ true
plain_byte b h = grind arith

pub unbroken_word : (w : List ℕ) → list_all is_word_byte w ≡ true → unbroken w ≡ true
unbroken_word [] h = refl
unbroken_word (b ∷ w) h = let p = and_parts (is_word_byte b) (list_all is_word_byte w) h in rw (plain_byte b p.0, unbroken_word w p.1) refl

pub unbroken_joined : (v w : List ℕ) → unbroken v ≡ true → unbroken w ≡ true → unbroken (v ++ w) ≡ true
unbroken_joined [] w p q = q
unbroken_joined (b ∷ v) w p q = let h = and_parts (not (ends_word b)) (unbroken v) p in rw (h.0, unbroken_joined v w h.1 q) refl
