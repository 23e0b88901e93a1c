-- What `explain` writes.
use Rattle.std.specs.Prelude.{ℕ, List, [], ◌∷◌, ◌++◌, Option, Some, None}
use Rattle.explanations.specs.Codes.{code_list_of, code_text_of}

-- a text and further ones, where all are there
abbrev pub with_text : Option (List ℕ) → Option (List ℕ) → Option (List ℕ)
with_text (Some text) (Some texts) = Some (text ++ texts)
with_text _ _ = None

-- what is said of these codes, one after the other; none where one of them is no code
abbrev pub texts_of_codes : List (List ℕ) → Option (List ℕ)
texts_of_codes [] = Some []
texts_of_codes (name ∷ names) = with_text (code_text_of name) (texts_of_codes names)

-- the same, but for no codes the list of all
abbrev pub explanation_of : List (List ℕ) → Option (List ℕ)
explanation_of [] = Some code_list_of
explanation_of (name ∷ names) = texts_of_codes (name ∷ names)
