-- The first word of two tables, one after the other.
use Rattle.std.proofs.Common.{◌≡◌, ℕ, List, [], ◌∷◌, ◌++◌, refl, inl, inr}
use Rattle.std.proofs.lemmas.Bool.{cases_Bool}
use Rattle.jasmin_text.specs.declared.form.Form.{Form}
use Rattle.jasmin_writer.specs.CanonicalWords.{first_word, same_form}

pub first_after : (form : Form) (rows others : List (List ℕ × Form)) (otherwise : List ℕ) → first_word form (rows ++ others) otherwise ≡ first_word form rows (first_word form others otherwise)
first_after form [] others otherwise = refl
first_after form (row ∷ rows) others otherwise = elim (cases_Bool (same_form row.1 form)) [ inl y ↦ rw y refl | inr n ↦ rw n (first_after form rows others otherwise) ]
