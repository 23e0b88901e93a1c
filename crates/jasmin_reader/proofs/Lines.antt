-- Lines, one cut off after the other.
use Rattle.std.proofs.Common.{◌≡◌, ℕ, ◌+◌, ◌<◌, eqb, List, [], ◌∷◌, length, drop, take, Result, Ok, inl, inr, refl, sym, ap, ◌∙◌, arith, one-add}
use Rattle.std.proofs.lemmas.Bool.{cases_Bool}
use Rattle.jasmin_reader.specs.declared.reader.Reader.{Reader}
use Rattle.jasmin_text.specs.declared.class_text.ClassParts.{ClassParts}
use Rattle.jasmin_reader.specs.declared.fault.ReadFault.{ReadFault}
use Rattle.jasmin_words.specs.declared.fault.FaultKind.{FaultKind}
use Rattle.sequence.specs.declared.refusal.Refusal.{Refusal}
use Rattle.sequence.specs.declared.refusal.Refusal.TheVariants as refusal
use Rattle.jasmin_words.specs.Lexing.{words_of}
use Rattle.sequence.specs.Gives.{Fails}
use Rattle.jasmin_reader.specs.Reading.{line_at}
use Rattle.jasmin_text.specs.Lines.{line_len, lines_of}
use Rattle.sequence.specs.Parts.{with_byte}
use Rattle.jasmin_reader.specs.File.{then_lines, rest_at, finished, Tells, fault_of}

pub lines_are : (bytes : List ℕ) → 0 < length bytes → lines_of bytes ≡ take (line_len bytes) bytes ∷ lines_of (drop 1 (drop (line_len bytes) bytes))
lines_are [] lt = absurd (omega arith)
lines_are (b ∷ []) lt = elim (cases_Bool (eqb b 10)) [ inl y ↦ rw y refl | inr y ↦ rw y refl ]
lines_are (b ∷ c ∷ cs) lt =
    let ih = lines_are (c ∷ cs) (omega arith) in
    elim (cases_Bool (eqb b 10)) [ inl y ↦ rw y refl | inr y ↦ rw (y, one-add (line_len (c ∷ cs))) (ap (with_byte b) ih) ]

-- ---- the loop over the lines

pub goes_on : (n : ℕ) (r s : Reader) (bytes line rest : List ℕ) (total : Result ClassParts ReadFault) → lines_of bytes ≡ line ∷ lines_of rest → line_at r (words_of line) ≡ Ok s → rest_at n r (lines_of bytes) ≡ total → rest_at (n + 1) s (lines_of rest) ≡ total
unfolding rest_at
goes_on n r s bytes line rest total e step so_far = sym (ap (then_lines (n + 1) (λ r. rest_at (n + 1) r (lines_of rest))) step) ∙ sym (ap (rest_at n r) e) ∙ so_far

pub fails : (n : ℕ) (r : Reader) (bytes line rest : List ℕ) (total : Result ClassParts ReadFault) (error : Refusal FaultKind) → lines_of bytes ≡ line ∷ lines_of rest → Fails error (line_at r (words_of line)) → rest_at n r (lines_of bytes) ≡ total → Tells (fault_of error (n + 1)) total
unfolding rest_at
fails n r bytes line rest total refusal.Memory e step so_far = inl refl
fails n r bytes line rest total (refusal.Fault k) e step so_far = inr (sym so_far ∙ ap (rest_at n r) e ∙ ap (then_lines (n + 1) (λ r. rest_at (n + 1) r (lines_of rest))) step)

pub is_done : (n : ℕ) (r : Reader) (bytes : List ℕ) (total : Result ClassParts ReadFault) → length bytes ≡ 0 → rest_at n r (lines_of bytes) ≡ total → finished r n ≡ total
unfolding rest_at
is_done n r [] total z so_far = so_far
is_done n r (b ∷ bs) total z so_far = absurd (omega arith)
