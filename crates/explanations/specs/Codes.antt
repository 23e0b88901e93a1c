-- What is said of a code.
use Rattle.std.specs.Prelude.{ℕ, List, Bool, Option, drop, take, ◌&&◌, ◌||◌, ◌==◌, codes}
use Rattle.std.specs.List.{before_first, find, slice_split}
use Rattle.std.specs.Str.{bytes_eq, str_eq_ignore_ascii_case}
use Rattle.explanations.specs.declared.codes.TheConstants.{CODES, TEXTS}

-- the first line of a text
abbrev pub head_of : List ℕ → List ℕ
head_of text = before_first (λ b. b == 10) text

-- whether a line is the code, or `cli: ` and the code, where letters of either case are the same
abbrev pub is_code_line : List ℕ → List ℕ → Bool
is_code_line line code = str_eq_ignore_ascii_case line code
    || (bytes_eq (take 5 line) (codes "cli: ") && str_eq_ignore_ascii_case (drop 5 line) code)

-- of the sections of a text, which `~` separates, the first one that begins with the line of the code
unfoldable pub section_of : List ℕ → List ℕ → Option (List ℕ)
section_of text code = find (λ section. is_code_line (head_of section) code) (slice_split (λ b. b == 126) text)

-- what is said of the code; none where no fault has it
unfoldable pub code_text_of : List ℕ → Option (List ℕ)
code_text_of code = section_of TEXTS.now code

-- the list of the codes
unfoldable pub code_list_of : List ℕ
code_list_of = CODES.now
