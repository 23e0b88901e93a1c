-- The words that begin a line, with what they ask for.
use Rattle.std.specs.Prelude.{ℕ, ◌==◌, ◌&&◌, ◌||◌, Bool, false, List, [], ◌∷◌, ◌++◌, Option, map}
use Rattle.jasmin_text.specs.Tables.{find_row, stands_in}
use Rattle.jasmin_text.specs.declared.form.Form.{Form}
use Rattle.jasmin_text.specs.declared.form.Directive.{Directive}
use Rattle.jasmin_text.specs.declared.form.TheConstants.{COMMON_FORMS, OTHER_FORMS, LONG_FLOAT_DOUBLE, LEFT_OUT, DIRECTIVES}

abbrev pub common_forms : List (List ℕ × Form)
common_forms = map (λ r. (r.0.now, r.1)) COMMON_FORMS

abbrev pub other_forms : List (List ℕ × Form)
other_forms = map (λ r. (r.0.now, r.1)) OTHER_FORMS

-- the words that begin instructions: the common ones, then the others
unfoldable pub forms : List (List ℕ × Form)
forms = common_forms ++ other_forms

-- what the word of an instruction asks for
unfoldable pub form_at : List ℕ → Option Form
form_at word = find_row word forms

-- l, f or d, for long, float or double, and then what the words of all three types have after that letter
abbrev pub is_of_long_float_or_double : List ℕ → Bool
is_of_long_float_or_double [] = false
is_of_long_float_or_double (letter ∷ rest) = (letter == 108 || letter == 102 || letter == 100) && stands_in rest (map (λ w. w.now) LONG_FLOAT_DOUBLE)

-- the word of an instruction that is left out
unfoldable pub is_left_out : List ℕ → Bool
is_left_out word = is_of_long_float_or_double word || stands_in word (map (λ w. w.now) LEFT_OUT)

unfoldable pub directives : List (List ℕ × Directive)
directives = map (λ r. (r.0.now, r.1)) DIRECTIVES

-- what a directive says
unfoldable pub directive_at : List ℕ → Option Directive
directive_at word = find_row word directives
