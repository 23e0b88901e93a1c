-- What a row keeps so that what it leads to can be spelled; the words of a line give such rows.
use Rattle.std.proofs.Common.{◌≡◌, ℕ, ◌+◌, inl, inr, Bool, true, not, ◌&&◌, eqb, nat_le, List, [], ◌∷◌, ◌++◌, length, Option, Some, None, Ok, ℤ, refl, ap, sym, subst, ◌∙◌, arith, codes}
use Rattle.std.specs.Prelude.{int_lt}
use Rattle.std.specs.List.{list_all}
use Rattle.std.proofs.lemmas.Bool.{and_from, and_parts, cases_Bool}
use Rattle.std.specs.Str.{bytes_eq}
use Rattle.descriptors.specs.Signature.{Signature}
use Rattle.descriptors.specs.Spelling.{method_spelling}
use Rattle.descriptors.specs.Reading.{field_of_text}
use Rattle.descriptors.specs.declared.field.FieldType.{FieldType}
use Rattle.jasmin_words.specs.Lexing.{Item, Word, fits}
use Rattle.jasmin_words.specs.Names.{is_member_name}
use Rattle.jasmin_words.specs.Spelling.{AreWords, AreLexed}
use Rattle.jasmin_text.specs.Forms.{forms, form_at}
use Rattle.jasmin_text.specs.Grammar.{IsMethodWord, IsOperands, number, byte, short, int, text, local, local_at, increment, field, call, interface, counted, new, class, array, IsInstructionLine, simple, table, table_to, lookup, IsValue, none, signature, IsCaught, all, IsRow, AreRowsOf, skipped, of_words, super, implements, method, stack, locals, catch, labelled, operation, case, Row, ClassRow, SuperRow, ImplementsRow, FieldRow, MethodRow, StackRow, LocalsRow, CatchRow, InstructionRow, TableRow, CaseRow, Cases}
use Rattle.jasmin_text.specs.MemberWords.{member_in, before_type}
use Rattle.jasmin_text.specs.Spellable.{may_initialize, is_constant, is_int, is_local, is_short, is_string, is_int_type, is_string_type, is_value_of, is_class_word, is_taken, is_field, is_field_type, is_method_type, is_field_reference, is_method_reference, is_reference_type, is_caught}
use Rattle.jasmin_text.specs.Tables.{find_row, is_member_word}
use Rattle.jasmin_text.specs.declared.access.Access.{Access}
use Rattle.jasmin_text.specs.declared.class_text.Constant.{Constant}
use Rattle.jasmin_text.specs.declared.class_text.Constant.TheVariants as constant
use Rattle.jasmin_text.specs.declared.class_text.Field.{Field}
use Rattle.jasmin_text.specs.declared.form.Form.{Form}
use Rattle.jasmin_text.specs.declared.form.Form.TheVariants as form
use Rattle.jasmin_text.specs.declared.instruction.Instruction.{Instruction}
use Rattle.jasmin_text.specs.declared.instruction.Instruction.TheVariants as instruction
use Rattle.jasmin_text.proofs.Conditions.{five, all_weaker}
use Rattle.jasmin_text.proofs.MemberWords.{member_found, signature_found}
use Rattle.jasmin_reader.proofs.AccessWords.{words_behind}
use Rattle.jasmin_reader.proofs.RowSteps.{is_body_row}
use Rattle.jasmin_reader.proofs.Words.{integer_int, short_within, descriptor_good, signature_good}

-- ---- instructions, with labels as targets

-- the keys rise after this one
abbrev pub keys_rise_from : ℤ → Cases → Bool
keys_rise_from key [] = true
keys_rise_from key (c ∷ cs) = int_lt key c.0 && keys_rise_from c.0 cs

abbrev pub keys_rise : Cases → Bool
keys_rise [] = true
keys_rise (c ∷ cs) = keys_rise_from c.0 cs

-- ints that rise
abbrev pub are_keys : Cases → Bool
are_keys cases = list_all (λ c. is_int c.0) cases && keys_rise cases

-- an instruction that a file can spell, wherever its labels are
unfoldable pub is_listed : Instruction (List ℕ) → Bool
is_listed (instruction.Constant c) = is_constant c
is_listed (instruction.Local l n) = is_local n
is_listed (instruction.Increment n by) = is_local n && is_short by
is_listed (instruction.TableSwitch low labels default) = is_int low
is_listed (instruction.LookupSwitch cases default) = are_keys cases
is_listed (instruction.Field f r) = is_field_reference r
is_listed (instruction.Call c r) = is_method_reference r
is_listed (instruction.CallInterface r) = is_method_reference r
is_listed (instruction.New name) = is_class_word name
is_listed (instruction.TypeUse t r) = is_reference_type r
is_listed other = true

-- a switch counts one more for each label or key
abbrev pub listed_size : Instruction (List ℕ) → ℕ
listed_size (instruction.TableSwitch low labels default) = length labels + 1
listed_size (instruction.LookupSwitch cases default) = length cases + 1
listed_size other = 1

abbrev pub sizes : List (Instruction (List ℕ)) → ℕ
sizes [] = 0
sizes (i ∷ is) = listed_size i + sizes is

pub sizes_push : (is : List (Instruction (List ℕ))) (i : Instruction (List ℕ)) → sizes (is ++ i ∷ []) ≡ sizes is + listed_size i
sizes_push [] i = omega arith
sizes_push (j ∷ is) i = let ih = sizes_push is i in omega (arith, ih)

-- ---- rows

-- JVMS SE 8 2.9 and 4.6: what no method's head has
abbrev pub fits_head : Access → List ℕ → Signature → Bool
fits_head a name type = not (a.is_abstract && a.is_static) && not (bytes_eq name (codes "<clinit>") && not (may_initialize a type))

-- the head of a method that a file can spell
unfoldable pub is_head : Access → List ℕ → Signature → Bool
is_head a name type = is_member_name name && is_method_type type && fits (name ++ method_spelling type) && fits_head a name type

-- what a row keeps, whatever came before it
unfoldable pub is_good_row : Row → Bool
is_good_row (ClassRow k a name) = is_class_word name && not (is_taken k name)
is_good_row (SuperRow name) = is_class_word name
is_good_row (ImplementsRow name) = is_class_word name
is_good_row (FieldRow f) = is_field f
is_good_row (MethodRow a name type) = is_head a name type
is_good_row (StackRow n) = nat_le n 1024
is_good_row (LocalsRow n) = nat_le n 1024
is_good_row (CatchRow name from to using) = is_caught name
is_good_row (InstructionRow i) = is_listed i && eqb (listed_size i) 1
is_good_row (TableRow low high) = is_int low
is_good_row (CaseRow key label) = is_int key
is_good_row other = true

and_also : {a b : Bool} → a ≡ true → b ≡ true → (a && b) ≡ true
and_also {a = a} {b = b} p q = and_from a b p q

pub lexed_behind : (xs ys : List Item) → AreLexed (xs ++ ys) → AreLexed ys
lexed_behind [] ys h = h
lexed_behind (x ∷ xs) ys h = lexed_behind xs ys h.1

-- ---- operands

-- the numbers in the table of forms
abbrev is_form : Form → Bool
is_form (form.Number n) = is_int n
is_form (form.LocalAt l n) = is_local n
is_form other = true

pub find_good : {T : Type 0} (p : T → Bool) (w : List ℕ) (rows : List (List ℕ × T)) (x : T) → list_all (λ r. p r.1) rows ≡ true → find_row w rows ≡ Some x → p x ≡ true
find_good p w [] x h e = absurd cc
find_good p w (r ∷ rs) x h e =
    let parts = and_parts (p r.1) (list_all (λ r. p r.1) rs) h in
    elim (cases_Bool (bytes_eq w r.0)) [ inl y ↦ cc (rw y at e, parts.0) | inr y ↦ find_good p w rs x parts.1 (rw y at e) ]

field_word_good : (v w owner name : List ℕ) (type : FieldType) → member_in v ≡ Ok (owner, name) → field_of_text w ≡ Ok type → fits v ≡ true → fits w ≡ true
    → is_field_reference (record { class = owner; name = name; field_type = type }) ≡ true
unfolding is_field_reference
field_word_good v w owner name type m d p q =
    let s = member_found v owner name m in
    and_also (and_also (and_also s.class_name s.member_name) (ap fits (sym s.parts) ∙ p)) (descriptor_good w type d q)

method_word_good : (w owner name : List ℕ) (type : Signature) → IsMethodWord w owner name type → fits w ≡ true → is_method_reference (record { class = owner; name = name; method_type = type }) ≡ true
unfolding is_method_reference
method_word_good w owner name type m p =
    let s = member_found (before_type w) owner name m.member in
    let t = signature_found w type m.method_type in
    let parts : w ≡ owner ++ 47 ∷ name ++ method_spelling type = cc (t.0, s.parts) in
    and_also (and_also (and_also s.class_name s.member_name) (signature_good type t.1)) (ap fits (sym parts) ∙ p)

-- an instruction that takes one place
abbrev IsOne : Instruction (List ℕ) → Type 0
IsOne i = (is_listed i && eqb (listed_size i) 1) ≡ true

operands_good : (f : Form) (items : List Item) (i : Instruction (List ℕ)) → IsOperands f items i → is_form f ≡ true → AreWords items → AreLexed items → IsOne i
unfolding is_listed
operands_good f items i number good fit lexed = and_also good refl
operands_good f items i (byte {w} {n} h) good fit lexed = and_also (integer_int w n h.value) refl
operands_good f items i (short {w} {n} h) good fit lexed = and_also (integer_int w n h.value) refl
operands_good f items i (int {w} {n} h) good fit lexed = and_also (integer_int w n h) refl
operands_good f items i text good fit lexed = and_also (and_also lexed.0.0 lexed.0.1) refl
operands_good f items i (local h) good fit lexed = and_also h.to refl
operands_good f items i local_at good fit lexed = and_also good refl
operands_good f items i (increment {by} h k) good fit lexed = and_also (and_also h.to (short_within by k.from k.to)) refl
operands_good f items i (field {v} {w} {class = owner} {name} {type} m d) good fit lexed = and_also (field_word_good v w owner name type m d fit.0 fit.1.0) refl
operands_good f items i (call {w} {class = owner} {name} {type} m) good fit lexed = and_also (method_word_good w owner name type m fit.0) refl
operands_good f items i (interface {w} {class = owner} {name} {type} m) good fit lexed = and_also (method_word_good w owner name type m fit.0) refl
operands_good f items i (counted {w} {class = owner} {name} {type} m h) good fit lexed = and_also (method_word_good w owner name type m fit.0) refl
operands_good f items i (new h) good fit lexed = and_also (and_also h fit.0) refl
operands_good f items i (class h) good fit lexed = and_also (and_also h fit.0) refl
operands_good f items i (array {w} {type} d h) good fit lexed = and_also (and_also (ap not h) (descriptor_good w type d fit.0)) refl
operands_good f items i other good fit lexed = refl

instruction_good : (items : List Item) (row : Row) → IsInstructionLine items row → AreWords items → AreLexed items → is_good_row row ≡ true
unfolding is_good_row form_at forms
instruction_good items row (simple {w} {f} {operands} {i} e is) fit lexed =
    operands_good f operands i is (find_good is_form w forms f refl e) fit.1 lexed.1
instruction_good items row (table {v} {low} e from) fit lexed = integer_int v low from
instruction_good items row (table_to {u} {low} e from to) fit lexed = integer_int u low from
instruction_good items row (lookup e) fit lexed = refl

-- ---- lines

-- a value of its field's type
abbrev pub is_typed : FieldType → Option Constant → Bool
is_typed t None = true
is_typed t (Some (constant.Int n)) = is_int_type t
is_typed t (Some (constant.Text s)) = is_string_type t

-- what the words of a row don't say by themselves
abbrev pub is_headed : Row → Bool
is_headed (ClassRow k a name) = not (is_taken k name)
is_headed (FieldRow f) = not (is_member_word f.name) && is_typed f.field_type f.value
is_headed (MethodRow a name type) = fits_head a name type
is_headed other = true

-- a row of a method is no head
pub rows_headed : (rows : List Row) → list_all is_body_row rows ≡ true → list_all is_headed rows ≡ true
rows_headed rows h = all_weaker is_body_row is_headed rows one h
  where
    one : (row : Row) → is_body_row row ≡ true → is_headed row ≡ true
    one (StackRow n) h = refl
    one row h = cc

value_good : (t : FieldType) (items : List Item) (v : Option Constant) → IsValue items v → AreLexed items → is_typed t v ≡ true → is_value_of t v ≡ true
value_good t items v none lexed h = refl
value_good t items v (int {w} {n} e) lexed h = and_also h (integer_int w n e)
value_good t items v text lexed h = and_also h (and_also lexed.1.0.0 lexed.1.0.1)
value_good t items v (signature {items = rest} is e) lexed h = value_good t rest v is lexed.1.1 h

caught_good : (w : List ℕ) (o : Option (List ℕ)) → IsCaught w o → fits w ≡ true → is_caught o ≡ true
caught_good w o all p = refl
caught_good w o (class e h) p = and_also (and_also h p) (ap not e)

typed_of : (t : FieldType) (v : Option Constant) → is_value_of t v ≡ true → is_typed t v ≡ true
typed_of t None h = refl
typed_of t (Some (constant.Int n)) h = (and_parts (is_int_type t) (is_int n) h).0
typed_of t (Some (constant.Text s)) h = (and_parts (is_string_type t) (is_string s) h).0

pub field_headed : (f : Field) → is_field f ≡ true → is_headed (FieldRow f) ≡ true
unfolding is_field
field_headed f h =
    let p = five (is_member_name f.name) (fits f.name) (not (is_member_word f.name)) (is_field_type f.field_type) (is_value_of f.field_type f.value) h in
    and_also p.2 (typed_of f.field_type f.value p.4)

row_good : (items : List Item) (rows : List Row) → IsRow items rows → AreWords items → AreLexed items → list_all is_headed rows ≡ true → list_all is_good_row rows ≡ true
unfolding is_good_row is_head is_field
row_good items rows (class {items = words} {k} {name} access e is c other) fit lexed h =
    let word = (words_behind access (Word name ∷ []) (subst AreWords e fit.1)).0 in
    and_also (and_also (and_also c word) (and_parts (not (is_taken k name)) true h).0) refl
row_good items rows (interface {items = words} {name} access e is c) fit lexed h =
    let word = (words_behind access (Word name ∷ []) (subst AreWords e fit.1)).0 in
    and_also (and_also (and_also c word) (and_parts _ true h).0) refl
row_good items rows (super c) fit lexed h = and_also (and_also c fit.1.0) refl
row_good items rows (implements c) fit lexed h = and_also (and_also c fit.1.0) refl
row_good items rows (field {items = words} {a} {name} {type} {value} access rest w e is c d v) fit lexed h =
    let short = words_behind access (Word name ∷ Word w ∷ rest) (subst AreWords e fit.1) in
    let behind = lexed_behind access (Word name ∷ Word w ∷ rest) (subst AreLexed e lexed.1) in
    let tests = and_parts (not (is_member_word name)) (is_typed type value) (and_parts _ true h).0 in
    let field_type = descriptor_good w type d short.1.0 in
    and_also (and_also (and_also (and_also (and_also c short.0) tests.0) field_type) (value_good type rest value v behind.1.1 tests.1)) refl
row_good items rows (method {items = words} {a} {name} {type} access w e at is c m) fit lexed h =
    let s = signature_found w type m in
    let spelled : w ≡ name ++ method_spelling type = cc (s.0, at) in
    let word = (words_behind access (Word w ∷ []) (subst AreWords e fit.1)).0 in
    and_also (and_also (and_also (and_also c (signature_good type s.1)) (ap fits (sym spelled) ∙ word)) (and_parts (fits_head a name type) true h).0) refl
row_good items rows (stack n) fit lexed h = and_also n.to refl
row_good items rows (locals n) fit lexed h = and_also n.to refl
row_good items rows (catch {w} {class = caught} c i j k) fit lexed h = and_also (caught_good w caught c fit.1.0) refl
row_good items rows (labelled {items = words} {row} i is) fit lexed h = and_also (instruction_good words row is fit.1.1 lexed.1.1) refl
row_good items rows (operation {items = words} {row} is) fit lexed h = and_also (instruction_good words row is fit lexed) refl
row_good items rows (case {w} {key} i l) fit lexed h = and_also (integer_int w key i) refl
row_good items rows other fit lexed h = refl

-- the rows of a line
pub rows_good : (items : List Item) (rows : List Row) → AreRowsOf items rows → AreLexed items → list_all is_headed rows ≡ true → list_all is_good_row rows ≡ true
rows_good items rows (skipped e) lexed h = refl
rows_good items rows (of_words fit is) lexed h = row_good items rows is fit lexed h
