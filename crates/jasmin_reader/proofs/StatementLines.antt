-- Lines of instructions, labels and switches, and their rows. Both ways.
use Rattle.std.proofs.Common.{◌≡◌, ℕ, inl, inr, true, not, false, List, [], ◌∷◌, length, Option, Some, None, is_some, Result, Ok, refl, sym, ap, subst, ◌∙◌, codes}
use Rattle.std.specs.Prelude.{ℤ}
use Rattle.std.specs.Option.{option_map}
use Rattle.std.proofs.lemmas.Bool.{and_from, cases_Bool}
use Rattle.std.proofs.lemmas.Slice.Eq.{bytes_eq-Decides}
use Rattle.jasmin_words.specs.declared.fault.FaultKind.{FaultKind}
use Rattle.jasmin_words.specs.declared.fault.FaultKind.TheVariants as fault
use Rattle.sequence.specs.Gives.{◌>>=◌}
use Rattle.sequence.proofs.Results.{not_refused, bind_ok, back, given, done, then}
use Rattle.jasmin_words.specs.Integers.{integer_of}
use Rattle.jasmin_words.specs.Lexing.{Item, Word, Colon, fits}
use Rattle.jasmin_words.specs.Spelling.{AreWords}
use Rattle.jasmin_words.specs.Names.{is_label}
use Rattle.jasmin_text.specs.Forms.{form_at, directive_at}
use Rattle.jasmin_text.specs.Grammar.{IsOperands, plain, IsInstructionLine, simple, table, table_to, lookup, AreRowsOf, of_words, label, labelled, operation, target, case, default, Row, LabelRow, TargetRow, CaseRow, DefaultRow, Cases, place_of}
use Rattle.jasmin_text.specs.declared.form.Directive.{Directive}
use Rattle.jasmin_text.specs.declared.form.Form.{Form}
use Rattle.jasmin_text.specs.declared.form.Form.TheVariants as form
use Rattle.jasmin_text.specs.declared.instruction.Instruction.{Instruction}
use Rattle.jasmin_text.proofs.MemberWords.{checked_ok}
use Rattle.jasmin_reader.specs.declared.body.Body.{Body}
use Rattle.jasmin_reader.specs.declared.reader.Reader.{Reader}
use Rattle.jasmin_reader.specs.declared.switch.Switch.{Switch}
use Rattle.jasmin_reader.specs.declared.switch.Switch.TheVariants as switch
use Rattle.jasmin_reader.specs.declared.switch.Table.{Table}
use Rattle.jasmin_reader.specs.Places.{wanted_or, within_limit, ended_at, first_word}
use Rattle.jasmin_reader.specs.Operands.{label_in, integer_in, last_operand, begins_with, labels_between, high_in, begun_at}
use Rattle.jasmin_reader.specs.Listing.{has_room, case_of, instruction_by, instruction_at, behind_colon, colon_from, is_default, takes_label, is_full, target_at, table_end, table_by, key_in, case_at, lookup_end, switch_at}
use Rattle.jasmin_reader.specs.Bodies.{listed_with, with_setting, new_label, label_at, listed, labelled_by, labelled_at, plain_by, statement_by, statement_at}
use Rattle.jasmin_reader.specs.Reading.{statement_line, line_at}
use Rattle.jasmin_reader.proofs.AccessWords.{within_ok, first_is}
use Rattle.jasmin_reader.proofs.BodyRows.{outside_ok}
use Rattle.jasmin_reader.proofs.DirectiveLines.{BodySays, one_said, single_row}
use Rattle.jasmin_reader.proofs.OperandForms.{begun_ok, operands_read, ended_ok, checked_last}
use Rattle.jasmin_reader.proofs.RowSteps.{may_list, may_set, may_set_in, body_row, is_body_row, row_at}
use Rattle.jasmin_reader.proofs.Words.{integer_ok, no_directive_at, form_has_no_dot, label_has_no_dot, integer_has_no_dot, integer_not_default}

-- ---- lines that are taken

-- a row of the listing: where it may come, and what it adds
record IsListed (row : Row) : Type 0 where
  are : is_body_row row ≡ true
  may : (b : Body) → may_set b row ≡ may_list b.listing.room b.listing.switch row
  sets : (b : Body) → listed_with b row ≡ with_setting b row
  in_class : (r : Reader) → row_at r row ≡ (may_set_in r.body row >>= λ _. done (record r { body = option_map (λ b. with_setting b row) r.body }))

-- the row that a line says, and that it may come there
record ListedSays (room : ℕ) (o : Option Switch) (items : List Item) (row : Row) : Type 0 where
  is_row : AreRowsOf items (row ∷ [])
  may : may_list room o row ≡ Ok tt
  listed : IsListed row

does_row : (b c : Body) (o : Option Switch) (row : Row) → b.listing.switch ≡ o → IsListed row → may_list b.listing.room o row ≡ Ok tt → done {F = FaultKind} (listed_with b row) ≡ Ok c → body_row b row ≡ Ok c
does_row b c o row here is may e = then (may_set b row) _ tt c (is.may b ∙ ap (λ (o : Option Switch). may_list b.listing.room o row) here ∙ may) (ap done (sym (is.sets b)) ∙ e)

listed_taken : (b c : Body) (o : Option Switch) (items : List Item) (read : Result Row FaultKind) → b.listing.switch ≡ o → ((row : Row) → read ≡ Ok row → ListedSays b.listing.room o items row) → listed b read ≡ Ok c → BodySays b items c
listed_taken b c o items read here says e =
    let one = bind_ok read (λ row. done (listed_with b row)) c e in
    let s = says one.0 one.1 in
    let is = s.listed in
    one_said b c one.0 s.is_row is.are (does_row b c o one.0 here is s.may one.2)

-- ---- instructions

line_row : (items : List Item) (row : Row) → IsInstructionLine items row → IsListed row
line_row items row (simple e is) = record { are = refl; may = λ b. refl; sets = λ b. refl; in_class = λ r. refl }
line_row items row line = record { are = refl; may = λ b. refl; sets = λ b. refl; in_class = λ r. refl }

record InstructionSays (room : ℕ) (w : List ℕ) (rest : List Item) (row : Row) : Type 0 where
  words : AreWords (Word w ∷ rest)
  line : IsInstructionLine (Word w ∷ rest) row
  may : may_list room None row ≡ Ok tt

instruction_ok : (room : ℕ) (w : List ℕ) (rest : List Item) (row : Row) → instruction_at room w rest ≡ Ok row → InstructionSays room w rest row
unfolding instruction_at
instruction_ok room w rest row e = by (form_at w) refl e
  where
    by : (o : Option Form) → form_at w ≡ o → instruction_by room w rest o ≡ Ok row → InstructionSays room w rest row
    by None p h = absurd cc
    by (Some f) p h =
        let one = bind_ok (within_limit w) _ row h in
        let two = bind_ok (has_room room) _ row one.2 in
        let s = begun_ok f rest row two.2 in
        record { words = (within_ok w one.0 one.1, s.words); line = s.line w p; may = s.may room two.1 }

instruction_listed : (room : ℕ) (w : List ℕ) (rest : List Item) (row : Row) → instruction_at room w rest ≡ Ok row → ListedSays room None (Word w ∷ rest) row
instruction_listed room w rest row e = let s = instruction_ok room w rest row e in record { is_row = of_words s.words (operation s.line); may = s.may; listed = line_row (Word w ∷ rest) row s.line }

-- ---- labels

record LabelSays (b : Body) (w : List ℕ) (row : Row) : Type 0 where
  short : fits w ≡ true
  is : is_label w ≡ true
  same : LabelRow w ≡ row
  new : new_label (place_of b.labels w) ≡ Ok tt

label_ok : (b : Body) (w : List ℕ) (row : Row) → label_at b w ≡ Ok row → LabelSays b w row
unfolding label_at
label_ok b w row e = elim (cases_Bool (is_label w)) [
  | inl y ↦
      let one = bind_ok (new_label (place_of b.labels w)) _ row (rw y at e) in
      let two = bind_ok (within_limit w) _ row one.2 in
      record { short = within_ok w two.0 two.1; is = y; same = cc two.2; new = one.1 }
  | inr y ↦ absurd (let h = rw y at e in cc)
]

not_directive : (c d : Body) (w : List ℕ) (rest : List Item) (o : Option Directive) → labelled_by c w rest o ≡ Ok d → listed c (instruction_at c.listing.room w rest) ≡ Ok d
not_directive c d w rest (Some x) e = absurd cc
not_directive c d w rest None e = (not_refused (begins_with 46 w) fault.UnknownDirective (listed c (instruction_at c.listing.room w rest)) d e).1

labelled_taken : (b d : Body) (w : List ℕ) (after : List Item) → b.listing.switch ≡ None → LabelSays b w (LabelRow w) → labelled_at (with_setting b (LabelRow w)) after ≡ Ok d → BodySays b (Word w ∷ Colon ∷ after) d
unfolding labelled_at
labelled_taken b d w after closed s e = by after e
  where
    c : Body
    c = with_setting b (LabelRow w)

    row : body_row b (LabelRow w) ≡ Ok c
    row = rw (closed, s.new) refl

    by : (after : List Item) → labelled_at c after ≡ Ok d → BodySays b (Word w ∷ Colon ∷ after) d
    by [] e = one_said b d (LabelRow w) (of_words (s.short, (tt, tt)) (label s.is)) refl (row ∙ e)
    by (t ∷ rest) e =
        let one = bind_ok (first_word fault.UnknownInstruction t) _ d e in
        let told = bind_ok (instruction_at c.listing.room one.0 rest) (λ row. done (listed_with c row)) d (not_directive c d one.0 rest (directive_at one.0) one.2) in
        let i = instruction_ok c.listing.room one.0 rest told.0 told.1 in
        let is = line_row (Word one.0 ∷ rest) told.0 i.line in
        record {
          rows = LabelRow w ∷ told.0 ∷ [];
          is_row = subst (λ (x : Item). AreRowsOf (Word w ∷ Colon ∷ x ∷ rest) (LabelRow w ∷ told.0 ∷ [])) (sym (first_is fault.UnknownInstruction t one.0 one.1)) (of_words (s.short, (tt, i.words)) (labelled s.is i.line));
          does = then (body_row b (LabelRow w)) _ c d row (single_row c d told.0 (does_row c d None told.0 closed is i.may told.2));
          are = and_from _ _ is.are refl;
        }

colon_is : (rest after : List Item) → behind_colon rest ≡ Some after → rest ≡ Colon ∷ after
colon_is (Colon ∷ rest) after e = let k : rest ≡ after = cc in ap (λ (l : List Item). Colon ∷ l) k
colon_is rest after e = absurd cc

outside_taken : (b c : Body) (w : List ℕ) (rest : List Item) → b.listing.switch ≡ None → (o : Option (List Item)) → behind_colon rest ≡ o → plain_by b w rest o ≡ Ok c → BodySays b (Word w ∷ rest) c
outside_taken b c w rest closed None p e = listed_taken b c None (Word w ∷ rest) (instruction_at b.listing.room w rest) closed (instruction_listed b.listing.room w rest) e
outside_taken b c w rest closed (Some after) p e =
    let one = bind_ok (label_at b w) _ c e in
    let s = label_ok b w one.0 one.1 in
    let behind = subst (λ (row : Row). labelled_at (with_setting b row) after ≡ Ok c) (sym s.same) one.2 in
    rw (colon_is rest after p) (labelled_taken b c w after closed (record { short = s.short; is = s.is; same = refl; new = s.new }) behind)

-- ---- switches

target_ok : (room : ℕ) (t : Table) (w : List ℕ) (rest : List Item) (row : Row) → target_at room t w rest ≡ Ok row → ListedSays room (Some (switch.Table t)) (Word w ∷ rest) row
unfolding target_at
target_ok room t w rest row e =
    let one = bind_ok (label_in w) _ row e in
    let two = bind_ok (takes_label t.low (length t.labels) t.high) _ row one.2 in
    let three = bind_ok (within_limit w) _ row two.2 in
    let four = bind_ok (has_room room) _ row three.2 in
    let five = bind_ok (ended_at rest) _ row four.2 in
    let c = checked_ok is_label w one.0 one.1 in
    let is : is_label w ≡ true = rw c.1 c.0 in
    let good : AreWords (Word w ∷ []) = (within_ok w three.0 three.1, tt) in
    let said : done {F = FaultKind} (TargetRow w) ≡ Ok row = ap (λ (l : List ℕ). done (TargetRow l)) c.1 ∙ five.2 in
    given (ListedSays room (Some (switch.Table t)) (Word w ∷ rest)) said (record { is_row = rw (ended_ok rest five.0 five.1) (of_words good (target is)); may = then (takes_label t.low (length t.labels) t.high) _ tt tt two.1 four.1; listed = record { are = refl; may = λ b. refl; sets = λ b. refl; in_class = λ r. refl } })

default_row : (room : ℕ) (s : Switch) (w : List ℕ) (rest : List Item) (v : List ℕ) → is_default w ≡ true → rest ≡ Colon ∷ Word v ∷ [] → is_label v ≡ true → fits v ≡ true → may_list room (Some s) (DefaultRow v) ≡ Ok tt → ListedSays room (Some s) (Word w ∷ rest) (DefaultRow v)
default_row room s w rest v h parts is fit may =
    let good : AreWords (Word (codes "default") ∷ Colon ∷ Word v ∷ []) = (refl, (tt, (fit, tt))) in
    record { is_row = rw ((bytes_eq-Decides w (codes "default")).0 h, parts) (of_words good (default is)); may = may; listed = record { are = refl; may = λ b. refl; sets = λ b. refl; in_class = λ r. refl } }

colon_ok : (rest after : List Item) → colon_from rest ≡ Ok after → rest ≡ Colon ∷ after
colon_ok (Colon ∷ rest) after e = let k : rest ≡ after = cc in ap (λ (l : List Item). Colon ∷ l) k
colon_ok rest after e = absurd cc

table_ended : (room : ℕ) (t : Table) (w : List ℕ) (rest after : List Item) (row : Row) → is_default w ≡ true → rest ≡ Colon ∷ after → table_end t after ≡ Ok row → ListedSays room (Some (switch.Table t)) (Word w ∷ rest) row
unfolding table_end
table_ended room t w rest after row h parts e =
    let one = bind_ok (is_full t.low (length t.labels) t.high) _ row e in
    let two = bind_ok (last_operand label_in after) _ row one.2 in
    let a = checked_last is_label after two.0 two.1 in
    given (ListedSays room (Some (switch.Table t)) (Word w ∷ rest)) two.2 (default_row room (switch.Table t) w rest two.0 h (cc (parts, a.0)) a.1 a.2 one.1)

lookup_ended : (room : ℕ) (cases : Cases) (w : List ℕ) (rest : List Item) (row : Row) → is_default w ≡ true → lookup_end rest ≡ Ok row → ListedSays room (Some (switch.Lookup cases)) (Word w ∷ rest) row
unfolding lookup_end
lookup_ended room cases w rest row h e =
    let one = bind_ok (colon_from rest) _ row e in
    let two = bind_ok (last_operand label_in one.0) _ row one.2 in
    let a = checked_last is_label one.0 two.0 two.1 in
    given (ListedSays room (Some (switch.Lookup cases)) (Word w ∷ rest)) two.2 (default_row room (switch.Lookup cases) w rest two.0 h (cc (colon_ok rest one.0 one.1, a.0)) a.1 a.2 refl)

case_ok : (room : ℕ) (cases : Cases) (w : List ℕ) (rest : List Item) (row : Row) → case_at room cases w rest ≡ Ok row → ListedSays room (Some (switch.Lookup cases)) (Word w ∷ rest) row
unfolding case_at
case_ok room cases w rest row e =
    let one = bind_ok (key_in cases w) _ row e in
    let read = bind_ok (integer_in w) _ one.0 one.1 in
    let new = bind_ok (wanted_or (not (is_some (case_of cases read.0))) fault.BadOperand) _ one.0 read.2 in
    let same_key : read.0 ≡ one.0 = cc new.2 in
    let three = bind_ok (within_limit w) _ row one.2 in
    let four = bind_ok (has_room room) _ row three.2 in
    let five = bind_ok (colon_from rest) _ row four.2 in
    let six = bind_ok (last_operand label_in five.0) _ row five.2 in
    let a = checked_last is_label five.0 six.0 six.1 in
    let whole : rest ≡ Colon ∷ Word six.0 ∷ [] = cc (colon_ok rest five.0 five.1, a.0) in
    let number : integer_of w ≡ Some one.0 = cc (integer_ok w read.0 read.1, same_key) in
    let new_here : wanted_or (not (is_some (case_of cases one.0))) fault.BadOperand ≡ Ok tt = rw (← same_key) new.1 in
    given (ListedSays room (Some (switch.Lookup cases)) (Word w ∷ rest)) six.2
    (record {
      is_row = subst (λ (r : List Item). AreRowsOf (Word w ∷ r) (CaseRow one.0 six.0 ∷ [])) (sym whole) (of_words (within_ok w three.0 three.1, (tt, (a.2, tt))) (case number a.1));
      may = then (wanted_or (not (is_some (case_of cases one.0))) fault.BadOperand) _ tt tt new_here four.1;
      listed = record { are = refl; may = λ b. refl; sets = λ b. refl; in_class = λ r. refl };
    })

switch_ok : (room : ℕ) (s : Switch) (w : List ℕ) (rest : List Item) (row : Row) → switch_at room s w rest ≡ Ok row → ListedSays room (Some s) (Word w ∷ rest) row
unfolding switch_at
switch_ok room (switch.Table t) w rest row e = by (behind_colon rest) refl e
  where
    by : (o : Option (List Item)) → behind_colon rest ≡ o → table_by room t w rest o ≡ Ok row → ListedSays room (Some (switch.Table t)) (Word w ∷ rest) row
    by None p h = target_ok room t w rest row h
    by (Some after) p h = elim (cases_Bool (is_default w)) [
      | inl y ↦ table_ended room t w rest after row y (colon_is rest after p) (rw y at h)
      | inr y ↦ target_ok room t w rest row (rw y at h)
    ]
switch_ok room (switch.Lookup cases) w rest row e = elim (cases_Bool (is_default w)) [
  | inl y ↦ lookup_ended room cases w rest row y (rw y at e)
  | inr y ↦ case_ok room cases w rest row (rw y at e)
]

-- A line in a method that begins with no directive is a line of the grammar.
pub statement_taken : (b c : Body) (w : List ℕ) (rest : List Item) → statement_at b w rest ≡ Ok c → BodySays b (Word w ∷ rest) c
unfolding statement_at
statement_taken b c w rest e = by b.listing.switch refl e
  where
    by : (o : Option Switch) → b.listing.switch ≡ o → statement_by b w rest o ≡ Ok c → BodySays b (Word w ∷ rest) c
    by None p h = outside_taken b c w rest p (behind_colon rest) refl h
    by (Some s) p h = listed_taken b c (Some s) (Word w ∷ rest) (switch_at b.listing.room s w rest) p (switch_ok b.listing.room s w rest) h

-- ---- lines of the grammar that are read

-- a line that says this row, wherever it may come
abbrev IsSaid : List ℕ → List Item → Row → Type 0
IsSaid w rest row = (b : Body) → may_set b row ≡ Ok tt → statement_at b w rest ≡ Ok (with_setting b row)

-- what the row does, in a method that is open
abbrev Does : Reader → Option Body → Row → Reader → Type 0
Does r o row s = (may_set_in o row >>= λ _. done (record r { body = option_map (λ b. with_setting b row) o })) ≡ Ok s

line_said : (r s : Reader) (w : List ℕ) (rest : List Item) (row : Row) → begins_with 46 w ≡ false → IsSaid w rest row → Does r r.body row s → line_at r (Word w ∷ rest) ≡ Ok s
unfolding line_at
line_said r s w rest row dot says does = rw (no_directive_at w dot, dot) (by r.body does)
  where
    by : (o : Option Body) → Does r o row s → statement_line r w rest o ≡ Ok s
    by None e = absurd cc
    by (Some b) e = let one = bind_ok (may_set b row) _ s e in rw (says b one.1) one.2

-- ---- instructions

-- an instruction's line and what its row does
pub record Tells (items : List Item) (row : Row) : Type 0 where
  pub word : List ℕ
  pub rest : List Item
  pub parts : items ≡ Word word ∷ rest
  pub no_dot : begins_with 46 word ≡ false
  pub no_colon : behind_colon rest ≡ None
  pub says : (b : Body) → may_set b row ≡ Ok tt → (b.listing.switch ≡ None) × (listed b (instruction_at b.listing.room word rest) ≡ Ok (with_setting b row))

operands_no_colon : (f : Form) (items : List Item) (i : Instruction (List ℕ)) → IsOperands f items i → behind_colon items ≡ None
operands_no_colon f items i plain = refl
operands_no_colon f items i is = refl

-- such a row is outside of switches
apart : (items : List Item) (row : Row) → IsInstructionLine items row → (room : ℕ) (s : Switch) → may_list room (Some s) row ≡ Ok tt → ⊥
apart items row (simple e is) room (switch.Table t) k = absurd cc
apart items row (simple e is) room (switch.Lookup c) k = absurd cc
apart items row line room (switch.Table t) k = absurd cc
apart items row line room (switch.Lookup c) k = absurd cc

instruction_said : (w : List ℕ) (rest : List Item) (row : Row) → IsInstructionLine (Word w ∷ rest) row → AreWords (Word w ∷ rest) → (room : ℕ) → may_list room None row ≡ Ok tt → instruction_at room w rest ≡ Ok row
unfolding instruction_at begun_at high_in
instruction_said w rest row (simple {f} {i} e is) fit room m = rw (e, fit.0, operands_read f rest i is fit.1, m) refl
instruction_said w rest row (table e from) fit room m = let r = bind_ok (has_room room) _ tt m in rw (e, fit.0, from, fit.1.0, r.1) refl
instruction_said w rest row (table_to {low} {high} e from to) fit room m =
    let r = bind_ok (has_room room) _ tt m in
    let n = bind_ok (labels_between low high) _ tt r.2 in
    rw (e, fit.0, from, fit.1.0, to, n.1, fit.1.1.0, r.1) refl
instruction_said w rest row (lookup e) fit room m = rw (e, fit.0, m) refl

says : (w : List ℕ) (rest : List Item) (row : Row) → IsInstructionLine (Word w ∷ rest) row → AreWords (Word w ∷ rest) → (b : Body) → may_set b row ≡ Ok tt
    → (b.listing.switch ≡ None) × (listed b (instruction_at b.listing.room w rest) ≡ Ok (with_setting b row))
says w rest row line fit b may = let is = line_row (Word w ∷ rest) row line in by b.listing.switch refl is (sym (is.may b) ∙ may)
  where
    by : (o : Option Switch) → b.listing.switch ≡ o → IsListed row → may_list b.listing.room o row ≡ Ok tt → (b.listing.switch ≡ None) × (listed b (instruction_at b.listing.room w rest) ≡ Ok (with_setting b row))
    by None h is m = (h, rw (instruction_said w rest row line fit b.listing.room m) (ap done (is.sets b)))
    by (Some s) h is m = absurd (apart (Word w ∷ rest) row line b.listing.room s m)

line_tells : (items : List Item) (row : Row) → IsInstructionLine items row → AreWords items → Tells items row
line_tells items row (simple {w} {f} {operands} {i} e is) fit =
    record { word = w; rest = operands; parts = refl; no_dot = form_has_no_dot w f e; no_colon = operands_no_colon f operands i is; says = says w operands row (simple e is) fit }
line_tells items row (table {w} {v} e from) fit = record { word = w; rest = Word v ∷ []; parts = refl; no_dot = form_has_no_dot w form.TableSwitch e; no_colon = refl; says = says w _ row (table e from) fit }
line_tells items row (table_to {w} {u} {v} e from to) fit =
    record { word = w; rest = Word u ∷ Word v ∷ []; parts = refl; no_dot = form_has_no_dot w form.TableSwitch e; no_colon = refl; says = says w _ row (table_to e from to) fit }
line_tells items row (lookup {w} e) fit = record { word = w; rest = []; parts = refl; no_dot = form_has_no_dot w form.LookupSwitch e; no_colon = refl; says = says w [] row (lookup e) fit }

told : (items : List Item) (row : Row) (t : Tells items row) → IsSaid t.word t.rest row
unfolding statement_at
told items row t b may =
    let two = t.says b may in
    subst (λ (o : Option Switch). statement_by b t.word t.rest o ≡ Ok (with_setting b row)) (sym two.0) (rw t.no_colon two.1)

told_behind : (items : List Item) (row : Row) (t : Tells items row) (b : Body) → may_set b row ≡ Ok tt → labelled_at b items ≡ Ok (with_setting b row)
unfolding labelled_at
told_behind items row t b may =
    let two = t.says b may in
    subst (λ (i : List Item). labelled_at b i ≡ Ok (with_setting b row)) (sym t.parts) (rw (no_directive_at t.word t.no_dot, t.no_dot) two.1)

pub operation_said : (r s : Reader) (items : List Item) (row : Row) → IsInstructionLine items row → AreWords items → row_at r row ≡ Ok s → line_at r items ≡ Ok s
operation_said r s items row line fit does =
    let t = line_tells items row line fit in
    let is = line_row items row line in
    subst (λ (i : List Item). line_at r i ≡ Ok s) (sym t.parts) (line_said r s t.word t.rest row t.no_dot (told items row t) (sym (is.in_class r) ∙ does))

-- ---- labels

label_behind : (b d : Body) (l : List ℕ) (items : List Item) → is_label l ≡ true → fits l ≡ true → may_set b (LabelRow l) ≡ Ok tt → labelled_at (with_setting b (LabelRow l)) items ≡ Ok d → statement_at b l (Colon ∷ items) ≡ Ok d
unfolding statement_at label_at
label_behind b d l items h short may next =
    let one = outside_ok b tt (new_label (place_of b.labels l)) may in
    subst (λ (o : Option Switch). statement_by b l (Colon ∷ items) o ≡ Ok d) (sym one.0) (rw (h, short, one.1) next)

pub label_said : (r s : Reader) (l : List ℕ) → is_label l ≡ true → fits l ≡ true → row_at r (LabelRow l) ≡ Ok s → line_at r (Word l ∷ Colon ∷ []) ≡ Ok s
unfolding labelled_at
label_said r s l h short does = line_said r s l (Colon ∷ []) (LabelRow l) (label_has_no_dot l h) (λ b may. label_behind b (with_setting b (LabelRow l)) l [] h short may refl) does

pub labelled_said : (r s : Reader) (l : List ℕ) (items : List Item) (row : Row) → is_label l ≡ true → fits l ≡ true → IsInstructionLine items row → AreWords items → (row_at r (LabelRow l) >>= λ t. row_at t row) ≡ Ok s → line_at r (Word l ∷ Colon ∷ items) ≡ Ok s
unfolding line_at
labelled_said r s l items row h short line fit does =
    let dot = label_has_no_dot l h in
    rw (no_directive_at l dot, dot) (by r.body does)
  where
    by : (o : Option Body) → ((may_set_in o (LabelRow l) >>= λ _. done (record r { body = option_map (λ b. with_setting b (LabelRow l)) o })) >>= λ t. row_at t row) ≡ Ok s → statement_line r l (Colon ∷ items) o ≡ Ok s
    by None e = absurd cc
    by (Some b) e =
        let c : Body = with_setting b (LabelRow l) in
        let mid : Reader = record r { body = Some c } in
        let is = line_row items row line in
        let one = bind_ok (may_set b (LabelRow l) >>= λ _. done mid) (λ t. row_at t row) s e in
        let two = bind_ok (may_set b (LabelRow l)) (λ _. done mid) one.0 one.1 in
        let run = back (λ (t : Reader). row_at t row ≡ Ok s) two.2 one.2 in
        let three = bind_ok (may_set c row) (λ _. done (record r { body = Some (with_setting c row) })) s (sym (is.in_class mid) ∙ run) in
        rw (label_behind b (with_setting c row) l items h short two.1 (told_behind items row (line_tells items row line fit) c three.1)) three.2

-- ---- switches

-- a line that says this row in a switch, and nowhere else
abbrev IsSwitchLine : List ℕ → List Item → Row → Type 0
IsSwitchLine w rest row = (room : ℕ) (o : Option Switch) → may_list room o row ≡ Ok tt → (s : Switch) × (o ≡ Some s) × (switch_at room s w rest ≡ Ok row)

switch_said : (r s : Reader) (w : List ℕ) (rest : List Item) (row : Row) → begins_with 46 w ≡ false → IsSwitchLine w rest row → IsListed row → row_at r row ≡ Ok s → line_at r (Word w ∷ rest) ≡ Ok s
unfolding statement_at
switch_said r s w rest row dot h is does = line_said r s w rest row dot said (sym (is.in_class r) ∙ does)
  where
    said : IsSaid w rest row
    said b may =
        let t = h b.listing.room b.listing.switch (sym (is.may b) ∙ may) in
        subst (λ (o : Option Switch). statement_by b w rest o ≡ Ok (with_setting b row)) (sym t.1) (rw (t.2) (ap done (is.sets b)))

target_switch : (w : List ℕ) → is_label w ≡ true → fits w ≡ true → IsSwitchLine w [] (TargetRow w)
unfolding switch_at target_at
target_switch w h short room (Some (switch.Table t)) m =
    let one = bind_ok (takes_label t.low (length t.labels) t.high) _ tt m in
    (switch.Table t, refl, rw (h, one.1, short, one.2) refl)
target_switch w h short room o m = absurd cc

case_switch : (w v : List ℕ) (key : ℤ) → integer_of w ≡ Some key → is_label v ≡ true → fits w ≡ true → fits v ≡ true → IsSwitchLine w (Colon ∷ Word v ∷ []) (CaseRow key v)
unfolding switch_at case_at
case_switch w v key i h p q room (Some (switch.Lookup c)) m =
    let one = bind_ok (wanted_or (not (is_some (case_of c key))) fault.BadOperand) _ tt m in
    (switch.Lookup c, refl, rw (integer_not_default w key i, i, one.1, p, one.2, h, q) refl)
case_switch w v key i h p q room o m = absurd cc

default_switch : (v : List ℕ) → is_label v ≡ true → fits v ≡ true → IsSwitchLine (codes "default") (Colon ∷ Word v ∷ []) (DefaultRow v)
unfolding switch_at table_end lookup_end
default_switch v h short room (Some (switch.Table t)) m = (switch.Table t, refl, rw (m, h, short) refl)
default_switch v h short room (Some (switch.Lookup c)) m = (switch.Lookup c, refl, rw (h, short) refl)
default_switch v h short room None m = absurd cc

pub target_said : (r s : Reader) (w : List ℕ) → is_label w ≡ true → fits w ≡ true → row_at r (TargetRow w) ≡ Ok s → line_at r (Word w ∷ []) ≡ Ok s
target_said r s w h short does = switch_said r s w [] (TargetRow w) (label_has_no_dot w h) (target_switch w h short) (record { are = refl; may = λ b. refl; sets = λ b. refl; in_class = λ r. refl }) does

pub case_said : (r s : Reader) (w v : List ℕ) (key : ℤ) → integer_of w ≡ Some key → is_label v ≡ true → fits w ≡ true → fits v ≡ true → row_at r (CaseRow key v) ≡ Ok s → line_at r (Word w ∷ Colon ∷ Word v ∷ []) ≡ Ok s
case_said r s w v key i h p q does = switch_said r s w (Colon ∷ Word v ∷ []) (CaseRow key v) (integer_has_no_dot w key i) (case_switch w v key i h p q) (record { are = refl; may = λ b. refl; sets = λ b. refl; in_class = λ r. refl }) does

pub default_said : (r s : Reader) (v : List ℕ) → is_label v ≡ true → fits v ≡ true → row_at r (DefaultRow v) ≡ Ok s → line_at r (Word (codes "default") ∷ Colon ∷ Word v ∷ []) ≡ Ok s
default_said r s v h short does = switch_said r s (codes "default") (Colon ∷ Word v ∷ []) (DefaultRow v) refl (default_switch v h short) (record { are = refl; may = λ b. refl; sets = λ b. refl; in_class = λ r. refl }) does
