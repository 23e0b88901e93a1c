-- All lines of a file, and the rows that they say. Both ways.
use Rattle.std.proofs.Common.{◌≡◌, ℕ, ◌+◌, true, not, List, [], ◌∷◌, ◌++◌, Option, Some, None, Result, Ok, Err, refl, ap, ◌∙◌}
use Rattle.std.specs.List.{list_all}
use Rattle.std.proofs.lemmas.Bool.{and_from, and_parts}
use Rattle.std.proofs.lemmas.List.Folds.{list_all-append}
use Rattle.jasmin_words.proofs.Lexed.{are_lexed}
use Rattle.jasmin_words.specs.declared.fault.FaultKind.{FaultKind}
use Rattle.jasmin_words.specs.declared.fault.FaultKind.TheVariants as fault
use Rattle.sequence.proofs.Results.{not_refused, bind_ok, then}
use Rattle.jasmin_words.specs.Lexing.{Item, Word, words_of}
use Rattle.jasmin_words.specs.Spelling.{AreWords}
use Rattle.jasmin_text.specs.Forms.{directive_at, directives}
use Rattle.jasmin_text.specs.Grammar.{AreRowsOf, skipped, of_words, IsRow, blank, class, interface, super, implements, field, method, end, stack, locals, catch, label, labelled, operation, target, case, default, Row, ClassRow, SuperRow, ImplementsRow, FieldRow, MethodRow, EndRow, StackRow, LocalsRow, CatchRow, LabelRow, TargetRow, CaseRow, DefaultRow, AreRows, none, more}
use Rattle.jasmin_text.specs.Lines.{lines_of}
use Rattle.jasmin_text.specs.Tables.{is_member_word}
use Rattle.jasmin_text.specs.declared.class_text.ClassKind.TheVariants as kind
use Rattle.jasmin_text.specs.declared.class_text.ClassParts.{ClassParts}
use Rattle.jasmin_text.specs.declared.form.Directive.{Directive}
use Rattle.jasmin_reader.specs.declared.body.Body.{Body}
use Rattle.jasmin_reader.specs.declared.reader.Reader.{Reader}
use Rattle.jasmin_reader.specs.Places.{first_word}
use Rattle.jasmin_reader.specs.Operands.{begins_with}
use Rattle.jasmin_reader.specs.Bodies.{statement_at, end_from}
use Rattle.jasmin_reader.specs.Reading.{no_word, said_in, end_line, directive_line, statement_line, line_by, line_at}
use Rattle.jasmin_reader.proofs.AccessWords.{first_is}
use Rattle.jasmin_reader.proofs.DirectiveLines.{Says, directive_ok, untaken, row_read}
use Rattle.jasmin_reader.proofs.GoodRows.{is_good_row, is_typed, is_headed, rows_good, rows_headed}
use Rattle.jasmin_reader.proofs.Heads.{class_head, interface_head, field_head, method_head}
use Rattle.jasmin_reader.proofs.RowSteps.{row_at, rows_at, rows_append, rows_in_method}
use Rattle.jasmin_reader.proofs.StatementLines.{statement_taken, label_said, labelled_said, operation_said, target_said, case_said, default_said}
use Rattle.jasmin_reader.proofs.Words.{number_read}
use Rattle.jasmin_reader.specs.File.{finished, then_lines, rest_at, empty_reader, class_at}

-- ---- a line that is read

statement_ok : (r s : Reader) (w : List ℕ) (rest : List Item) → (o : Option Body) → r.body ≡ o → statement_line r w rest o ≡ Ok s → Says r (Word w ∷ rest) s
statement_ok r s w rest None p e = absurd cc
statement_ok r s w rest (Some b) p e =
    let one = bind_ok (statement_at b w rest) _ s e in
    let t = statement_taken b one.0 w rest one.1 in
    let same : r ≡ record r { body = Some b } = ap (λ (o : Option Body). record r { body = o }) p in
    let does = ap (λ (x : Reader). rows_at x t.rows) same ∙ rows_in_method t.rows t.are r b one.0 t.does ∙ one.2 in
    record { rows = t.rows; is_row = t.is_row; does = does; headed = rows_headed t.rows t.are }

-- A line that is read is a line of the grammar, and its rows do what was read.
pub line_taken : (r s : Reader) (items : List Item) → line_at r items ≡ Ok s → Says r items s
unfolding line_at
line_taken r s [] e = record { rows = []; is_row = of_words tt blank; does = e; headed = refl }
line_taken r s (t ∷ rest) e =
    let one = bind_ok (first_word (no_word r.body) t) _ s e in
    rw (first_is (no_word r.body) t one.0 one.1) (by one.0 (directive_at one.0) refl one.2)
  where
    by : (w : List ℕ) → (o : Option Directive) → directive_at w ≡ o → line_by r w rest o ≡ Ok s → Says r (Word w ∷ rest) s
    by w None p h = statement_ok r s w rest r.body refl (not_refused (begins_with 46 w) fault.UnknownDirective (statement_line r w rest r.body) s h).1
    by w (Some d) p h = directive_ok r s w d rest p h

-- ---- a line of the grammar

single : (r s : Reader) (row : Row) → rows_at r (row ∷ []) ≡ Ok s → row_at r row ≡ Ok s
single r s row e = let one = bind_ok (row_at r row) _ s e in one.1 ∙ one.2

-- A line of the grammar is read, and adds what its rows do.
row_said : (r s : Reader) (items : List Item) (rows : List Row) → IsRow items rows → AreWords items → list_all is_headed rows ≡ true → rows_at r rows ≡ Ok s → line_at r items ≡ Ok s
unfolding line_at directive_at directives directive_line said_in end_line end_from
row_said r s items rows blank fit headed done = done
row_said r s items rows (class {items = i} {k} {a} {name} access e is h other) fit headed done =
    rw (class_head i access k a name e is h (rw other (untaken k name (and_parts _ true headed).0)) fit.1) (single r s (ClassRow k a name) done)
row_said r s items rows (interface {items = i} {a} {name} access e is h) fit headed done = rw (interface_head i access a name e is h (untaken kind.Interface name (and_parts _ true headed).0) fit.1) (single r s (ClassRow kind.Interface a name) done)
row_said r s items rows (super {name} h) fit headed done = rw (h, fit.1.0) (single r s (SuperRow name) done)
row_said r s items rows (implements {name} h) fit headed done = rw (h, fit.1.0) (single r s (ImplementsRow name) done)
row_said r s items rows (field {items = i} {a} {name} {type} {value} access rest w e is h d v) fit headed done =
    let parts = and_parts (not (is_member_word name)) (is_typed type value) (and_parts _ true headed).0 in
    rw (field_head i access rest a name w type value e is h d v parts.0 parts.1 fit.1) (single r s (FieldRow (record { access = a; name = name; field_type = type; value = value })) done)
row_said r s items rows (method {items = i} {a} {name} {type} access w e spelled is h m) fit headed done = rw (method_head i access w a name type e spelled is h m (and_parts _ true headed).0 fit.1) (single r s (MethodRow a name type) done)
row_said r s items rows end fit headed done = single r s EndRow done
row_said r s items rows (stack {w} {n} h) fit headed done = rw (number_read 0 1024 fault.LimitExceeded w n h, fit.1.1.0) (single r s (StackRow n) done)
row_said r s items rows (locals {w} {n} h) fit headed done = rw (number_read 0 1024 fault.LimitExceeded w n h, fit.1.1.0) (single r s (LocalsRow n) done)
row_said r s items rows (catch {w} {from} {to} {using} {class = k} h i j l) fit headed done = rw (row_read w from to using k h i j l (fit.1.0, (fit.1.1.1.0, (fit.1.1.1.1.1.0, (fit.1.1.1.1.1.1.1.0, tt))))) (single r s (CatchRow k from to using) done)
row_said r s items rows (label {l} h) fit headed done = label_said r s l h fit.0 (single r s (LabelRow l) done)
row_said r s items rows (labelled {l} {items = i} {row} h is) fit headed done =
    let one = bind_ok (row_at r (LabelRow l)) _ s done in
    labelled_said r s l i row h fit.0 is fit.1.1 (rw (one.1) (single one.0 s row one.2))
row_said r s items rows (operation {items = i} {row} is) fit headed done = operation_said r s i row is fit (single r s row done)
row_said r s items rows (target {l} h) fit headed done = target_said r s l h fit.0 (single r s (TargetRow l) done)
row_said r s items rows (case {w} {l} {key} i h) fit headed done = case_said r s w l key i h fit.0 fit.1.1.0 (single r s (CaseRow key l) done)
row_said r s items rows (default {l} h) fit headed done = default_said r s l h fit.1.1.0 (single r s (DefaultRow l) done)

pub rows_said : (r s : Reader) (items : List Item) (rows : List Row) → AreRowsOf items rows → list_all is_headed rows ≡ true → rows_at r rows ≡ Ok s → line_at r items ≡ Ok s
unfolding line_at directive_line
rows_said r s items rows (skipped {w} {rest} e) headed done = rw e done
rows_said r s items rows (of_words fit is) headed done = row_said r s items rows is fit headed done

-- ---- line after line

-- the rows of the lines, and the class to which they lead
pub record Tells (r : Reader) (lines : List (List ℕ)) (c : ClassParts) : Type 0 where
  pub rows : List Row
  pub are_rows : AreRows lines rows
  pub last : Reader
  pub does : rows_at r rows ≡ Ok last
  pub good : list_all is_good_row rows ≡ true
  pub count : ℕ
  pub ends : finished last count ≡ Ok c

pub lines_tell : (n : ℕ) (r : Reader) (lines : List (List ℕ)) (c : ClassParts) → rest_at n r lines ≡ Ok c → Tells r lines c
unfolding rest_at
lines_tell n r [] c e = record { rows = []; are_rows = none; last = r; does = refl; good = refl; count = n; ends = e }
lines_tell n r (line ∷ lines) c e = by (line_at r (words_of line)) refl (λ s h. lines_tell (n + 1) s lines c h) e
  where
    by : (x : Result Reader FaultKind) → line_at r (words_of line) ≡ x → ((s : Reader) → rest_at (n + 1) s lines ≡ Ok c → Tells s lines c) → then_lines (n + 1) (λ s. rest_at (n + 1) s lines) x ≡ Ok c → Tells r (line ∷ lines) c
    by (Err k) p rest h = absurd cc
    by (Ok s) p rest h =
        let one = line_taken r s (words_of line) p in
        let t = rest s h in
        record {
          rows = one.rows ++ t.rows;
          are_rows = more one.rows t.rows one.is_row t.are_rows refl;
          last = t.last;
          does = rows_append r one.rows t.rows ∙ then (rows_at r one.rows) _ s t.last one.does t.does;
          good = list_all-append is_good_row one.rows t.rows ∙ and_from _ _ (rows_good (words_of line) one.rows one.is_row (are_lexed true line) one.headed) t.good;
          count = t.count;
          ends = t.ends;
        }

-- What is read is said by its lines: each is a line of the grammar, and their rows lead to the class.
pub file_tells : (bytes : List ℕ) (c : ClassParts) → class_at bytes ≡ Ok c → Tells empty_reader (lines_of bytes) c
unfolding class_at
file_tells bytes c e = lines_tell 0 empty_reader (lines_of bytes) c e
