-- Canonical lines of instructions say their rows, which represent the instruction in a body.
use Rattle.std.proofs.Common.{◌≡◌, ℕ, ◌<◌, Bool, true, false, not, ◌&&◌, eqb, List, [], ◌∷◌, ◌++◌, map, None, refl, sym, subst, ap, append_assoc, arith}
use Rattle.std.specs.Prelude.{ℤ, nat_le, int_lt}
use Rattle.std.specs.List.{list_all}
use Rattle.std.specs.Str.{is_utf8}
use Rattle.std.proofs.lemmas.Bool.{and_from, and_parts, leb-true, not-true, false_from_ne_true, true_from_ne_false}
use Rattle.std.proofs.lemmas.Int.{ints}
use Rattle.descriptors.specs.ClassName.{is_class_name}
use Rattle.descriptors.specs.Spelling.{field_spelling, method_spelling}
use Rattle.jasmin_words.specs.Lexing.{fits}
use Rattle.jasmin_words.specs.Names.{is_member_name}
use Rattle.jasmin_writer.specs.Canonical.{label_text, default_line, case_line, instruction_lines}
use Rattle.jasmin_text.specs.Spellable.{is_int, is_short, is_local, is_element_type, is_type, is_field_type, is_method_type, is_field_reference, is_method_reference, is_instruction, rises_from, rises}
use Rattle.jasmin_text.specs.Grammar.{Row, InstructionRow, TableRow, LookupRow, TargetRow, DefaultRow, Body, with_instruction, Cases, with_case, lacks_key, AreSorted, none, more, IsBody, operation, table, lookup}
use Rattle.jasmin_text.specs.Grammar as grammar
use Rattle.jasmin_text.specs.declared.class_text.Constant.TheVariants as constant
use Rattle.jasmin_text.specs.declared.instruction.Instruction.{Instruction}
use Rattle.jasmin_text.specs.declared.instruction.Instruction.TheVariants as instruction
use Rattle.jasmin_text.specs.declared.instruction.ReferenceType.TheVariants as reference
use Rattle.jasmin_text.proofs.Conditions.{three, four}
use Rattle.jasmin_writer.proofs.Rows.{plain_row, local_row, jump_row, target_row, default_row}
use Rattle.jasmin_writer.proofs.Operands.{int_row, text_row, new_row, new_array_row, class_use_row, array_use_row, field_row, call_row}
use Rattle.jasmin_text.proofs.Integers.{int_of}
use Rattle.jasmin_writer.proofs.CodeLines.{increment_row, interface_row, table_row, lookup_row, case_row}
use Rattle.jasmin_writer.proofs.Lines.{AreLines, one_line, line_before, lines_joined, each_line}

-- ---- with labels for places

abbrev pub case_by_label : ℤ × ℕ → ℤ × List ℕ
case_by_label c = (c.0, label_text c.1)

abbrev pub by_label : Instruction ℕ → Instruction (List ℕ)
by_label (instruction.Plain p) = instruction.Plain p
by_label (instruction.Constant c) = instruction.Constant c
by_label (instruction.Local l n) = instruction.Local l n
by_label (instruction.Increment n by) = instruction.Increment n by
by_label (instruction.Jump j place) = instruction.Jump j (label_text place)
by_label (instruction.TableSwitch low places default) = instruction.TableSwitch low (map label_text places) (label_text default)
by_label (instruction.LookupSwitch cases default) = instruction.LookupSwitch (map case_by_label cases) (label_text default)
by_label (instruction.Field f r) = instruction.Field f r
by_label (instruction.Call c r) = instruction.Call c r
by_label (instruction.CallInterface r) = instruction.CallInterface r
by_label (instruction.New name) = instruction.New name
by_label (instruction.NewArray b) = instruction.NewArray b
by_label (instruction.TypeUse t r) = instruction.TypeUse t r

abbrev pub instruction_rows : Instruction ℕ → List Row
instruction_rows (instruction.TableSwitch low places default) = TableRow low None ∷ (map TargetRow (map label_text places) ++ DefaultRow (label_text default) ∷ [])
instruction_rows (instruction.LookupSwitch cases default) = LookupRow ∷ (map grammar.case_row (map case_by_label cases) ++ DefaultRow (label_text default) ∷ [])
instruction_rows other = InstructionRow (by_label other) ∷ []

-- ---- lines

place_below : (count place : ℕ) → count < 65536 → nat_le place count ≡ true → place < 65536
place_below count place less h = let p = leb-true place count h in omega arith

targets_are : (count : ℕ) (places : List ℕ) (default : ℕ) → count < 65536 → list_all (λ p. nat_le p count) places ≡ true → nat_le default count ≡ true
    → AreLines (map label_text places ++ default_line default ∷ []) (map TargetRow (map label_text places) ++ DefaultRow (label_text default) ∷ [])
targets_are count places default less h k =
    lines_joined (map label_text places) (default_line default ∷ []) (map TargetRow (map label_text places)) (DefaultRow (label_text default) ∷ [])
    (each_line label_text label_text TargetRow (λ p. nat_le p count) places (λ p e. target_row p (place_below count p less e)) h)
    (one_line (default_line default) (DefaultRow (label_text default)) (default_row default (place_below count default less k)))

cases_are : (count : ℕ) (cases : List (ℤ × ℕ)) (default : ℕ) → count < 65536 → list_all (λ c. is_int c.0 && nat_le c.1 count) cases ≡ true → nat_le default count ≡ true
    → AreLines (map case_line cases ++ default_line default ∷ []) (map grammar.case_row (map case_by_label cases) ++ DefaultRow (label_text default) ∷ [])
cases_are count cases default less h k =
    lines_joined (map case_line cases) (default_line default ∷ []) (map grammar.case_row (map case_by_label cases)) (DefaultRow (label_text default) ∷ [])
    (each_line case_line case_by_label grammar.case_row (λ c. is_int c.0 && nat_le c.1 count) cases (λ c e. let p = and_parts (is_int c.0) (nat_le c.1 count) e in case_row c p.0 (place_below count c.1 less p.1)) h)
    (one_line (default_line default) (DefaultRow (label_text default)) (default_row default (place_below count default less k)))

pub instruction_are : (count : ℕ) (i : Instruction ℕ) → count < 65536 → is_instruction count i ≡ true → AreLines (instruction_lines i) (instruction_rows i)
unfolding instruction_lines is_instruction is_field_reference is_method_reference is_field_type
instruction_are count (instruction.Plain p) less h = one_line _ _ (plain_row p)
instruction_are count (instruction.Constant (constant.Int n)) less h = one_line _ _ (int_row n (int_of n h))
instruction_are count (instruction.Constant (constant.Text t)) less h = let p = and_parts (is_utf8 t) (fits t) h in one_line _ _ (text_row t p.0 p.1)
instruction_are count (instruction.Local l n) less h = one_line _ _ (local_row l n (leb-true n 65535 h))
instruction_are count (instruction.Increment n by) less h = let p = and_parts (is_local n) (is_short by) h in one_line _ _ (increment_row n by (leb-true n 65535 p.0) p.1)
instruction_are count (instruction.Jump j place) less h = one_line _ _ (jump_row j place (place_below count place less h))
instruction_are count (instruction.TableSwitch low places default) less h =
    let p = three (is_int low) (list_all (λ p. nat_le p count) places) (nat_le default count) h in
    line_before _ _ (TableRow low None ∷ []) _ (table_row low p.0) (targets_are count places default less p.1 p.2)
instruction_are count (instruction.LookupSwitch cases default) less h =
    let p = three (list_all (λ c. is_int c.0 && nat_le c.1 count) cases) (rises cases) (nat_le default count) h in
    line_before _ _ (LookupRow ∷ []) _ lookup_row (cases_are count cases default less p.0 p.2)
instruction_are count (instruction.Field f r) less h =
    let p = four (is_class_name r.class) (is_member_name r.name) (fits (r.class ++ 47 ∷ r.name)) (is_field_type r.field_type) h in
    let q = and_parts (is_type r.field_type) (fits (field_spelling r.field_type)) p.3 in
    let t = and_parts (nat_le r.field_type.dimensions 255) (is_element_type r.field_type.element) q.0 in
    one_line _ _ (field_row f r p.0 p.1 p.2 (leb-true r.field_type.dimensions 255 t.0) t.1 q.1)
instruction_are count (instruction.Call c r) less h =
    let p = four (is_class_name r.class) (is_member_name r.name) (is_method_type r.method_type) (fits (r.class ++ 47 ∷ r.name ++ method_spelling r.method_type)) h in
    one_line _ _ (call_row c r p.0 p.1 p.2 p.3)
instruction_are count (instruction.CallInterface r) less h =
    let p = four (is_class_name r.class) (is_member_name r.name) (is_method_type r.method_type) (fits (r.class ++ 47 ∷ r.name ++ method_spelling r.method_type)) h in
    one_line _ _ (interface_row r p.0 p.1 p.2 p.3)
instruction_are count (instruction.New name) less h = let p = and_parts (is_class_name name) (fits name) h in one_line _ _ (new_row name p.0 p.1)
instruction_are count (instruction.NewArray b) less h = one_line _ _ (new_array_row b)
instruction_are count (instruction.TypeUse t (reference.Class name)) less h = let p = and_parts (is_class_name name) (fits name) h in one_line _ _ (class_use_row t name p.0 p.1)
instruction_are count (instruction.TypeUse t (reference.Array a)) less h =
    let p = and_parts (not (eqb a.dimensions 0)) (is_type a && fits (field_spelling a)) h in
    let q = and_parts (is_type a) (fits (field_spelling a)) p.1 in
    let r = and_parts (nat_le a.dimensions 255) (is_element_type a.element) q.0 in
    one_line _ _ (array_use_row t a (leb-true a.dimensions 255 r.0) (not-true (eqb a.dimensions 0) p.0) r.1 q.1)

-- ---- in a body

lt_asym : (x y : ℤ) → int_lt x y ≡ true → int_lt y x ≡ false
lt_asym x y h = false_from_ne_true (int_lt y x) (λ e. omega (arith, ints))

lt_trans : (x y z : ℤ) → int_lt x y ≡ true → int_lt y z ≡ true → int_lt x z ≡ true
lt_trans x y z h k = true_from_ne_false (int_lt x z) (λ e. omega (arith, ints))

-- all keys are below this one
abbrev are_below : ℤ → Cases → Bool
are_below key [] = true
are_below key (c ∷ cs) = int_lt c.0 key && are_below key cs

put_last : (c : ℤ × List ℕ) (cs : Cases) → are_below c.0 cs ≡ true → (lacks_key c.0 cs ≡ true) × (with_case c cs ≡ cs ++ c ∷ [])
put_last c [] h = (refl, refl)
put_last c (d ∷ ds) h =
    let p = and_parts (int_lt d.0 c.0) (are_below c.0 ds) h in
    let q = put_last c ds p.1 in
    let back = lt_asym d.0 c.0 p.0 in
    (rw (back, p.0) q.0, rw back (ap (λ (l : Cases). d ∷ l) q.1))

still_below : (c : ℤ × List ℕ) (key : ℤ) (cs : Cases) → are_below c.0 cs ≡ true → int_lt c.0 key ≡ true → are_below key (cs ++ c ∷ []) ≡ true
still_below c key [] h less = rw less refl
still_below c key (d ∷ ds) h less =
    let p = and_parts (int_lt d.0 c.0) (are_below c.0 ds) h in
    and_from (int_lt d.0 key) (are_below key (ds ++ c ∷ [])) (lt_trans d.0 c.0 key p.0 less) (still_below c key ds p.1 less)

-- one case more, after all that are there
put_behind : (before : Cases) (c : ℤ × List ℕ) (cs all : Cases) → are_below c.0 before ≡ true → AreSorted (before ++ c ∷ []) cs all → AreSorted before (c ∷ cs) all
put_behind before c cs all below h = let last = put_last c before below in more last.0 (subst (λ (s : Cases). AreSorted s cs all) (sym last.1) h)

-- rising keys are in their order
sorted_from : (before : Cases) (c : ℤ × ℕ) (cs : List (ℤ × ℕ)) → are_below c.0 before ≡ true → rises_from c.0 cs ≡ true → AreSorted before (map case_by_label (c ∷ cs)) (before ++ map case_by_label (c ∷ cs))
sorted_from before c [] below h = put_behind before (case_by_label c) [] _ below none
sorted_from before c (d ∷ ds) below h =
    let p = and_parts (int_lt c.0 d.0) (rises_from d.0 ds) h in
    put_behind before (case_by_label c) (map case_by_label (d ∷ ds)) _ below
    (subst (AreSorted (before ++ case_by_label c ∷ []) (map case_by_label (d ∷ ds))) (append_assoc before (case_by_label c ∷ []) (map case_by_label (d ∷ ds)))
    (sorted_from (before ++ case_by_label c ∷ []) d ds (still_below (case_by_label c) d.0 before below p.0) p.1))

sorted_same : (cs : List (ℤ × ℕ)) → rises cs ≡ true → AreSorted [] (map case_by_label cs) (map case_by_label cs)
sorted_same [] h = none
sorted_same (c ∷ cs) h = sorted_from [] c cs refl h

pub in_body : (count : ℕ) (i : Instruction ℕ) (rest : List Row) (b c : Body) → is_instruction count i ≡ true → IsBody (with_instruction b (by_label i)) rest c → IsBody b (instruction_rows i ++ rest) c
unfolding is_instruction
in_body count (instruction.TableSwitch low places default) rest b c h k =
    table (map label_text places) (label_text default) rest (append_assoc (map TargetRow (map label_text places)) (DefaultRow (label_text default) ∷ []) rest) tt k
in_body count (instruction.LookupSwitch cases default) rest b c h k =
    let p = three (list_all (λ c. is_int c.0 && nat_le c.1 count) cases) (rises cases) (nat_le default count) h in
    lookup (map case_by_label cases) (map case_by_label cases) (label_text default) rest (append_assoc (map grammar.case_row (map case_by_label cases)) (DefaultRow (label_text default) ∷ []) rest) (sorted_same cases p.1) k
in_body count other rest b c h k = operation k
