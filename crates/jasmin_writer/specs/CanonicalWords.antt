-- The canonical word of each instruction: the first of the table that asks for it.
use Rattle.std.specs.Prelude.{ℕ, Bool, List, [], ◌∷◌, if◌then◌else◌}
use Rattle.jasmin_text.specs.Forms.{forms}
use Rattle.jasmin_text.specs.declared.form.Form.{Form}
use Rattle.jasmin_text.specs.contracts.form.FormPartialEq.TheImpl.{ghosts}

-- `==` on what words ask for
abbrev pub same_form : Form → Form → Bool
same_form = ghosts.eq

-- the first word of these rows that asks for this; `otherwise` where none does
abbrev pub first_word : Form → List (List ℕ × Form) → List ℕ → List ℕ
first_word form [] otherwise = otherwise
first_word form (row ∷ rows) otherwise = if same_form row.1 form then row.0 else first_word form rows otherwise

-- the canonical word of what asks for this (JVMS SE 8 6.5 names the instructions)
unfoldable pub word_of : Form → List ℕ
word_of form = first_word form forms []
