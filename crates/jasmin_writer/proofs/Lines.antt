-- Canonical lines, one after the other.
use Rattle.std.proofs.Common.{◌≡◌, ℕ, Bool, true, eqb, List, [], ◌∷◌, ◌++◌, map, refl, sym, ap, subst, ◌∙◌, append_assoc}
use Rattle.std.specs.List.{list_all, flat_map}
use Rattle.std.proofs.lemmas.Bool.{and_parts, not-true}
use Rattle.std.proofs.lemmas.Simd.{map-map}
use Rattle.jasmin_writer.specs.Canonical.{ended_all}
use Rattle.jasmin_text.specs.Lines.{lines_of}
use Rattle.sequence.specs.Parts.{with_byte}
use Rattle.jasmin_text.specs.Grammar.{Row, AreRows, none, more}
use Rattle.jasmin_writer.proofs.Written.{is_inner, IsInner, IsLine}

abbrev pub AllInner : List (List ℕ) → Type 0
AllInner [] = Unit {0}
AllInner (l ∷ ls) = IsInner l × AllInner ls

-- canonical lines, and the rows that they say
pub record AreLines (lines : List (List ℕ)) (rows : List Row) : Type 0 where
  pub are_rows : AreRows lines rows
  pub inner : AllInner lines

pub no_lines : AreLines [] []
no_lines = record { are_rows = none; inner = tt }

pub line_before : (line : List ℕ) (lines : List (List ℕ)) (rows rest : List Row) → IsLine line rows → AreLines lines rest → AreLines (line ∷ lines) (rows ++ rest)
line_before line lines rows rest h k = record { are_rows = more rows rest h.row k.are_rows refl; inner = (h.inner, k.inner) }

pub one_line : (line : List ℕ) (row : Row) → IsLine line (row ∷ []) → AreLines (line ∷ []) (row ∷ [])
one_line line row h = line_before line [] (row ∷ []) [] h no_lines

rows_joined : (ls ms : List (List ℕ)) (rs ss : List Row) → AreRows ls rs → AreRows ms ss → AreRows (ls ++ ms) (rs ++ ss)
rows_joined ls ms rs ss none k = k
rows_joined ls ms rs ss (more {lines = lines} rows rest h t e) k = more rows (rest ++ ss) h (rows_joined lines ms rest ss t k) (ap (λ (z : List Row). z ++ ss) e ∙ append_assoc rows rest ss)

inner_joined : (ls ms : List (List ℕ)) → AllInner ls → AllInner ms → AllInner (ls ++ ms)
inner_joined [] ms h k = k
inner_joined (l ∷ ls) ms h k = (h.0, inner_joined ls ms h.1 k)

pub lines_joined : (ls ms : List (List ℕ)) (rs ss : List Row) → AreLines ls rs → AreLines ms ss → AreLines (ls ++ ms) (rs ++ ss)
lines_joined ls ms rs ss h k = record { are_rows = rows_joined ls ms rs ss h.are_rows k.are_rows; inner = inner_joined ls ms h.inner k.inner }

-- a line for each element
pub each_row : {A : Type 0} (line : A → List ℕ) (row : A → Row) (test : A → Bool) (xs : List A) → ((x : A) → test x ≡ true → IsLine (line x) (row x ∷ [])) → list_all test xs ≡ true → AreLines (map line xs) (map row xs)
each_row line row test [] f h = no_lines
each_row line row test (x ∷ xs) f h =
    let p = and_parts (test x) (list_all test xs) h in
    line_before (line x) (map line xs) (row x ∷ []) (map row xs) (f x p.0) (each_row line row test xs f p.1)

-- the same, where a row is of a part of its element
pub each_line : {A B : Type 0} (line : A → List ℕ) (part : A → B) (row : B → Row) (test : A → Bool) (xs : List A) → ((x : A) → test x ≡ true → IsLine (line x) (row (part x) ∷ [])) → list_all test xs ≡ true
    → AreLines (map line xs) (map row (map part xs))
each_line line part row test xs f h = subst (AreLines (map line xs)) (sym (map-map row part xs)) (each_row line (λ x. row (part x)) test xs f h)

-- lines for each element
pub all_lines : {A : Type 0} (lines : A → List (List ℕ)) (rows : A → List Row) (test : A → Bool) (xs : List A) → ((x : A) → test x ≡ true → AreLines (lines x) (rows x)) → list_all test xs ≡ true
    → AreLines (flat_map lines xs) (flat_map rows xs)
all_lines lines rows test [] f h = no_lines
all_lines lines rows test (x ∷ xs) f h =
    let p = and_parts (test x) (list_all test xs) h in
    lines_joined (lines x) (flat_map lines xs) (rows x) (flat_map rows xs) (f x p.0) (all_lines lines rows test xs f p.1)

-- ---- as bytes

cut_line : (line rest : List ℕ) → IsInner line → lines_of ((line ++ 10 ∷ []) ++ rest) ≡ line ∷ lines_of rest
cut_line [] rest h = refl
cut_line (b ∷ bs) rest h =
    let p = and_parts (is_inner b) (list_all is_inner bs) h in
    rw (not-true (eqb b 10) p.0) (ap (with_byte b) (cut_line bs rest p.1))

pub cut_lines : (lines : List (List ℕ)) → AllInner lines → lines_of (ended_all lines) ≡ lines
cut_lines [] h = refl
cut_lines (l ∷ ls) h = cut_line l (ended_all ls) h.0 ∙ ap (λ (z : List (List ℕ)). l ∷ z) (cut_lines ls h.1)
