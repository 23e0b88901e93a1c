-- Operands and instruction lines, both ways: those that are read are those of the grammar.
use Rattle.std.proofs.Common.{◌≡◌, ℕ, zero, suc, inl, inr, ℤ, pos, negsuc, ◌+ℤ◌, ◌-ℤ◌, Bool, true, false, not, eqb, List, [], ◌∷◌, ◌++◌, replicate, Option, Some, None, Result, Ok, Err, refl, sym, ap, subst, ◌∙◌, arith}
use Rattle.std.proofs.lemmas.Bool.{cases_Bool, not_from_false, and_parts, not-true}
use Rattle.std.proofs.lemmas.Int.{ints}
use Rattle.descriptors.specs.ClassName.{is_class_name}
use Rattle.descriptors.specs.Spelling.{field_spelling, element_spelling}
use Rattle.descriptors.proofs.FieldLaws.{field_found}
use Rattle.descriptors.specs.declared.base.BaseType.{BaseType}
use Rattle.descriptors.specs.declared.base.BaseType.TheVariants as base
use Rattle.descriptors.specs.declared.field.ElementType.{ElementType}
use Rattle.descriptors.specs.declared.field.ElementType.TheVariants as element
use Rattle.descriptors.specs.declared.field.FieldType.{FieldType}
use Rattle.jasmin_words.specs.declared.fault.FaultKind.{FaultKind}
use Rattle.jasmin_words.specs.declared.fault.FaultKind.TheVariants as fault
use Rattle.sequence.specs.Gives.{◌>>=◌}
use Rattle.sequence.proofs.Results.{bind_ok, given}
use Rattle.jasmin_words.specs.Integers.{integer_of}
use Rattle.jasmin_words.specs.Lexing.{Item, Word, Text, BadText, fits}
use Rattle.jasmin_words.specs.Names.{is_label}
use Rattle.jasmin_words.specs.Spelling.{AreWords}
use Rattle.jasmin_text.specs.Forms.{form_at}
use Rattle.jasmin_text.specs.BaseWords.{base_word}
use Rattle.jasmin_text.specs.Grammar.{IsMethodWord, IsOperands, plain, number, byte, short, int, text, local, local_at, increment, jump, field, call, interface, counted, new, new_array, class as class_use, array, IsInstructionLine, simple, table, table_to, lookup, Row, InstructionRow, TableRow, byte_low, short_low}
use Rattle.jasmin_text.specs.MemberWords.{checked, class_name_in, member_in}
use Rattle.jasmin_text.specs.declared.class_text.Constant.{Constant}
use Rattle.jasmin_text.specs.declared.class_text.Constant.TheVariants as constant
use Rattle.jasmin_text.specs.declared.form.Form.{Form}
use Rattle.jasmin_text.specs.declared.form.Form.TheVariants as form
use Rattle.jasmin_text.specs.declared.instruction.Instruction.{Instruction}
use Rattle.jasmin_text.specs.declared.instruction.Instruction.TheVariants as instruction
use Rattle.jasmin_text.specs.declared.instruction.ReferenceType.{ReferenceType}
use Rattle.jasmin_text.specs.declared.instruction.ReferenceType.TheVariants as reference
use Rattle.jasmin_text.specs.declared.instruction.MethodReference.{MethodReference}
use Rattle.jasmin_text.proofs.MemberWords.{checked_ok, lacks, class_lacks}
use Rattle.jasmin_reader.specs.declared.table.BaseWord.{BaseWord}
use Rattle.jasmin_reader.specs.declared.table.BaseWord.TheVariants as word
use Rattle.jasmin_reader.specs.Places.{within_limit, operand, ended_at}
use Rattle.jasmin_reader.specs.Operands.{label_in, integer_in, int_in, local_in, count_in, type_in, method_in, base_of, base_in, begins_with, reference_in, last_operand, count_at, labels_between, high_in, high_at, raw, begun_at}
use Rattle.jasmin_reader.specs.Table.{base_at, base_words}
use Rattle.jasmin_reader.specs.Listing.{has_room}
use Rattle.jasmin_reader.proofs.AccessWords.{within_ok}
use Rattle.jasmin_reader.proofs.RowSteps.{may_list}
use Rattle.jasmin_reader.proofs.Words.{integer_ok, int_ok, int_read, number_ok, number_read, type_ok, type_read, method_ok, method_read, find_ok}

-- ---- places

pub ended_ok : (items : List Item) (u : Unit {0}) → ended_at items ≡ Ok u → items ≡ []
ended_ok [] u e = refl
ended_ok (t ∷ rest) u e = absurd cc

-- the word that was taken, and what it represents
pub record Taken {A : Type 0} (read : List ℕ → Result A FaultKind) (items : List Item) (x : A × List Item) : Type 0 where
  pub word : List ℕ
  pub parts : items ≡ Word word ∷ x.1
  pub value : read word ≡ Ok x.0
  pub short : fits word ≡ true

pub operand_ok : {A : Type 0} (read : List ℕ → Result A FaultKind) (items : List Item) (x : A × List Item) → operand read items ≡ Ok x → Taken read items x
operand_ok read (Word w ∷ rest) x e =
    let one = bind_ok (read w) _ x e in
    let two = bind_ok (within_limit w) _ x one.2 in
    given (Taken read (Word w ∷ rest)) two.2 (record { word = w; parts = refl; value = one.1; short = within_ok w two.0 two.1 })
operand_ok read items x e = absurd cc

pub last_ok : {A : Type 0} (read : List ℕ → Result A FaultKind) (items : List Item) (x : A) → last_operand read items ≡ Ok x → Taken read items (x, [])
last_ok read items x e =
    let one = bind_ok (operand read items) _ x e in
    let two = bind_ok (ended_at one.0.1) _ x one.2 in
    let t = operand_ok read items one.0 one.1 in
    record { word = t.word; parts = cc (t.parts, ended_ok one.0.1 two.0 two.1); value = cc (t.value, two.2); short = t.short }

-- a word that passed a test, at the line's end
pub checked_last : (test : List ℕ → Bool) (items : List Item) (x : List ℕ) → last_operand (λ w. checked (test w) w) items ≡ Ok x → (items ≡ Word x ∷ []) × (test x ≡ true) × (fits x ≡ true)
checked_last test items x e =
    let a = last_ok (λ w. checked (test w) w) items x e in
    let c = checked_ok test a.word x a.value in
    (cc (a.parts, c.1), c.0, rw (← c.1) a.short)

-- ---- base types, arrays and classes

abbrev IsBaseRow : List ℕ → BaseWord → Type 0
IsBaseRow w (word.Known b) = w ≡ base_word b
IsBaseRow w word.LeftOut = Unit {0}

pub base_ok : (w : List ℕ) (b : BaseType) → base_in w ≡ Ok b → w ≡ base_word b
unfolding base_at base_words
base_ok w b e = by (base_at w) refl e
  where
    by : (o : Option BaseWord) → base_at w ≡ o → base_of o ≡ Ok b → w ≡ base_word b
    by (Some (word.Known c)) p h = let same : c ≡ b = cc in find_ok IsBaseRow w base_words (word.Known c) (refl, (refl, (refl, (refl, (refl, (tt, (tt, (tt, tt)))))))) p ∙ ap base_word same
    by o p h = absurd cc

pub base_read : (b : BaseType) → base_in (base_word b) ≡ Ok b
unfolding base_at base_words
base_read base.Boolean = refl
base_read b = refl

-- the descriptor of an array, and no other, begins with [
bracket : (t : FieldType) → begins_with 91 (field_spelling t) ≡ not (eqb t.dimensions 0)
bracket t = by t.dimensions t.element
  where
    by : (n : ℕ) (x : ElementType) → begins_with 91 (replicate n 91 ++ element_spelling x) ≡ not (eqb n 0)
    by zero (element.Base base.Boolean) = refl
    by zero x = refl
    by (suc n) x = grind arith

no_bracket : (w : List ℕ) → lacks 91 w ≡ true → begins_with 91 w ≡ false
no_bracket [] h = refl
no_bracket (b ∷ bs) h = not-true (eqb b 91) (and_parts _ _ h).0

reference_ok : (t : _) (w : List ℕ) (r : ReferenceType) → reference_in w ≡ Ok r → IsOperands (form.TypeUse t) (Word w ∷ []) (instruction.TypeUse t r)
unfolding reference_in
reference_ok t w r e = elim (cases_Bool (begins_with 91 w)) [
  | inl y ↦
      let one = bind_ok (type_in w) _ r (rw y at e) in
      let is = type_ok w one.0 one.1 in
      given Says one.2 (array is (not-true (eqb one.0.dimensions 0) (cc (bracket one.0, (field_found w one.0 is).0, y))))
  | inr y ↦
      let one = bind_ok (class_name_in w) _ r (rw y at e) in
      let is = checked_ok is_class_name w one.0 one.1 in
      given Says one.2 (subst (λ (v : List ℕ). IsOperands (form.TypeUse t) (Word v ∷ []) (instruction.TypeUse t (reference.Class one.0))) (sym is.1) (class_use is.0))
]
  where
    Says : ReferenceType → Type 0
    Says r = IsOperands (form.TypeUse t) (Word w ∷ []) (instruction.TypeUse t r)

-- ---- switches

-- how many labels a tableswitch has
pub labels_ok : (low high : ℤ) (n : ℕ) → labels_between low high ≡ Ok n → high +ℤ pos 1 ≡ low +ℤ pos n
labels_ok low high n e = by ((high +ℤ pos 1) -ℤ low) refl e
  where
    by : (z : ℤ) → (high +ℤ pos 1) -ℤ low ≡ z → elim z as (λ z. Result ℕ FaultKind) [ pos m ↦ Ok m | negsuc m ↦ Err fault.BadOperand ] ≡ Ok n → high +ℤ pos 1 ≡ low +ℤ pos n
    by (pos m) p h = let far : (high +ℤ pos 1) -ℤ low ≡ pos n = cc in omega (arith, ints)
    by (negsuc m) p h = absurd cc

pub labels_counted : (low high : ℤ) (n : ℕ) → high +ℤ pos 1 ≡ low +ℤ pos n → labels_between low high ≡ Ok n
labels_counted low high n e =
    let far : (high +ℤ pos 1) -ℤ low ≡ pos n = omega (arith, ints) in
    rw (far, labels_between) refl

-- the row that a line says, and where it may come
pub record Begins (f : Form) (items : List Item) (row : Row) : Type 0 where
  pub words : AreWords items
  pub line : (w : List ℕ) → form_at w ≡ Some f → IsInstructionLine (Word w ∷ items) row
  pub may : (room : ℕ) → has_room room ≡ Ok tt → may_list room None row ≡ Ok tt

table_ok : (items : List Item) (row : Row) → begun_at form.TableSwitch items ≡ Ok row → Begins form.TableSwitch items row
unfolding begun_at high_in
table_ok items row e =
    let one = bind_ok (operand integer_in items) _ row e in
    let two = bind_ok (high_at one.0.0 one.0.1) _ row one.2 in
    let a = operand_ok integer_in items one.0 one.1 in
    given (Begins form.TableSwitch items) two.2 (by a.word one.0.0 one.0.1 a.parts (integer_ok a.word one.0.0 a.value) a.short two.0 two.1)
  where
    by : (v : List ℕ) (low : ℤ) (rest : List Item) → items ≡ Word v ∷ rest → integer_of v ≡ Some low → fits v ≡ true → (high : Option ℤ) → high_at low rest ≡ Ok high → Begins form.TableSwitch items (TableRow low high)
    by v low [] parts from fit high h =
        rw parts (given (λ (o : Option ℤ). Begins form.TableSwitch (Word v ∷ []) (TableRow low o)) h (record { words = (fit, tt); line = λ w at. table at from; may = λ room k. rw k refl }))
    by v low (t ∷ rest) parts from fit high h =
        let one = bind_ok (last_operand (high_in low) (t ∷ rest)) _ high h in
        let b = last_ok (high_in low) (t ∷ rest) one.0 one.1 in
        let two = bind_ok (integer_in b.word) _ one.0 b.value in
        let three = bind_ok (labels_between low two.0) _ one.0 two.2 in
        let same : two.0 ≡ one.0 = cc three.2 in
        let items_are : items ≡ Word v ∷ Word b.word ∷ [] = cc (parts, b.parts) in
        rw items_are (given (λ (o : Option ℤ). Begins form.TableSwitch (Word v ∷ Word b.word ∷ []) (TableRow low o)) one.2
        (subst (λ (n : ℤ). Begins form.TableSwitch (Word v ∷ Word b.word ∷ []) (TableRow low (Some n))) same (record { words = (fit, (b.short, tt)); line = λ w at. table_to at from (integer_ok b.word two.0 two.1); may = λ room k. rw (k, three.1) refl })))

-- ---- all forms that are read

whole : {f : Form} {items : List Item} {i : Instruction (List ℕ)} → AreWords items → IsOperands f items i → Begins f items (InstructionRow i)
whole {i} words is = record { words = words; line = λ w h. simple h is; may = λ room h. h }

nothing : {f : Form} (items : List Item) (a b : Row) → Begins f [] a → (ended_at items >>= λ _. Ok a) ≡ Ok b → Begins f items b
nothing {f} items a b is e =
    let one = bind_ok (ended_at items) _ b e in
    rw (ended_ok items one.0 one.1) (given (Begins f []) one.2 is)

last : {A : Type 0} (f : Form) (items : List Item) (read : List ℕ → Result A FaultKind) (build : A → Instruction (List ℕ)) (b : Row) → ((w : List ℕ) (x : A) → read w ≡ Ok x → IsOperands f (Word w ∷ []) (build x))
    → (last_operand read items >>= λ x. raw (build x)) ≡ Ok b → Begins f items b
last f items read build b is e =
    let one = bind_ok (last_operand read items) _ b e in
    let t = last_ok read items one.0 one.1 in
    rw t.parts (given (Begins f _) one.2 (whole (t.short, tt) (is t.word one.0 t.value)))

two : {A B : Type 0} (f : Form) (items : List Item) (read : List ℕ → Result A FaultKind) (more : List ℕ → Result B FaultKind) (build : A → B → Instruction (List ℕ)) (b : Row)
    → ((v : List ℕ) (x : A) → read v ≡ Ok x → (w : List ℕ) (y : B) → more w ≡ Ok y → IsOperands f (Word v ∷ Word w ∷ []) (build x y))
    → (operand read items >>= λ x. last_operand more x.1 >>= λ y. raw (build x.0 y)) ≡ Ok b → Begins f items b
two f items read more build b is e =
    let one = bind_ok (operand read items) _ b e in
    let two = bind_ok (last_operand more one.0.1) _ b one.2 in
    let s = operand_ok read items one.0 one.1 in
    let t = last_ok more one.0.1 two.0 two.1 in
    rw (s.parts, t.parts) (given (Begins f _) two.2 (whole (s.short, (t.short, tt)) (is s.word one.0.0 s.value t.word two.0 t.value)))

abbrev int_from : List Item → Result (Constant × List Item) FaultKind
int_from items = operand integer_in items >>= λ n. Ok (constant.Int n.0, n.1)

int_constant : (items : List Item) (b : Row) → (int_from items >>= λ c. ended_at c.1 >>= λ _. raw (instruction.Constant c.0)) ≡ Ok b → Begins form.Constant items b
int_constant items b e =
    let one = bind_ok (int_from items) _ b e in
    let two = bind_ok (operand integer_in items) _ one.0 one.1 in
    let three = bind_ok (ended_at one.0.1) _ b one.2 in
    let t = operand_ok integer_in items two.0 two.1 in
    let parts : items ≡ Word t.word ∷ [] = cc (t.parts, two.2, ended_ok one.0.1 three.0 three.1) in
    let value : raw (instruction.Constant (constant.Int two.0.0)) ≡ raw (instruction.Constant one.0.0) = cc two.2 in
    rw parts (given (Begins form.Constant _) (value ∙ three.2) (whole (t.short, tt) (int (integer_ok t.word two.0.0 t.value))))

pub begun_ok : (f : Form) (items : List Item) (b : Row) → begun_at f items ≡ Ok b → Begins f items b
unfolding begun_at
begun_ok (form.Plain p) items b e = nothing items _ b (whole tt plain) e
begun_ok (form.Number n) items b e = nothing items _ b (whole tt number) e
begun_ok form.Byte items b e = last _ items (int_in byte_low (pos 127)) _ b (λ w n h. byte (int_ok byte_low (pos 127) w n h)) e
begun_ok form.Short items b e = last _ items (int_in short_low (pos 32767)) _ b (λ w n h. short (int_ok short_low (pos 32767) w n h)) e
begun_ok form.Constant (Text t ∷ rest) b e =
    let one = bind_ok (ended_at rest) _ b e in
    rw (ended_ok rest one.0 one.1) (given (Begins form.Constant _) one.2 (whole (tt, tt) text))
begun_ok form.Constant (BadText k ∷ rest) b e = absurd cc
begun_ok form.Constant items b e = int_constant items b e
begun_ok (form.Local l) items b e = last _ items local_in _ b (λ w n h. local (number_ok 0 65535 fault.BadOperand w n h)) e
begun_ok (form.LocalAt l n) items b e = nothing items _ b (whole tt local_at) e
begun_ok form.Increment items b e =
    two _ items local_in (int_in short_low (pos 32767)) _ b (λ v n h w by k. increment (number_ok 0 65535 fault.BadOperand v n h) (int_ok short_low (pos 32767) w by k)) e
begun_ok (form.Jump j) items b e = last _ items label_in _ b (λ w x h. let is = checked_ok is_label w x h in rw is.1 (jump is.0)) e
begun_ok form.TableSwitch items b e = table_ok items b e
begun_ok form.LookupSwitch items b e = nothing items _ b (record { words = tt; line = λ w at. lookup at; may = λ room h. h }) e
begun_ok (form.Field f) items b e = two _ items member_in type_in _ b (λ v m h w t k. field h (type_ok w t k)) e
begun_ok (form.Call c) items b e = last _ items method_in _ b (λ w m h. call (method_ok w m h)) e
begun_ok form.CallInterface items b e =
    let one = bind_ok (operand method_in items) _ b e in
    let two = bind_ok (count_at one.0.1) _ b one.2 in
    let x = operand_ok method_in items one.0 one.1 in
    rw x.parts (given (Begins form.CallInterface _) two.2 (by one.0.1 two.0 two.1 x.word x.short (method_ok x.word one.0.0 x.value)))
  where
    by : (rest : List Item) (u : Unit {0}) → count_at rest ≡ Ok u → (w : List ℕ) → fits w ≡ true → {r : MethodReference}
        → IsMethodWord w r.class r.name r.method_type → Begins form.CallInterface (Word w ∷ rest) (InstructionRow (instruction.CallInterface r))
    by [] u e w fit m = whole (fit, tt) (interface m)
    by (t ∷ rest) u e w fit {r} m =
        let one = bind_ok (last_operand count_in (t ∷ rest)) _ u e in
        let b = last_ok count_in (t ∷ rest) one.0 one.1 in
        rw b.parts (whole (fit, (b.short, tt)) (counted m (number_ok 1 255 fault.BadOperand b.word one.0 b.value)))
begun_ok form.New items b e = last _ items class_name_in _ b (λ w x h. let is = checked_ok is_class_name w x h in rw is.1 (new is.0)) e
begun_ok form.NewArray items b e = last _ items base_in _ b (λ w x h. rw (base_ok w x h) new_array) e
begun_ok (form.TypeUse t) items b e = last _ items reference_in _ b (reference_ok t) e

-- ---- all operands of the grammar

pub operands_read : (f : Form) (items : List Item) (i : Instruction (List ℕ)) → IsOperands f items i → AreWords items → begun_at f items ≡ Ok (InstructionRow i)
unfolding begun_at reference_in
operands_read f items i (byte {w} {n} h) words = rw (int_read _ _ w n h, words.0) refl
operands_read f items i (short {w} {n} h) words = rw (int_read _ _ w n h, words.0) refl
operands_read f items i (int h) words = rw (h, words.0) refl
operands_read f items i (local {w} {n} h) words = rw (number_read 0 65535 fault.BadOperand w n h, words.0) refl
operands_read f items i (increment {v} {w} {n} {by} h k) words = rw (number_read 0 65535 fault.BadOperand v n h, words.0, int_read _ _ w by k, words.1.0) refl
operands_read f items i (jump h) words = rw (h, words.0) refl
operands_read f items i (field {w} {type} m d) words = rw (m, words.0, type_read w type d, words.1.0) refl
operands_read f items i (call {w} {class} {name} {type} m) words = rw (method_read w class name type m, words.0) refl
operands_read f items i (interface {w} {class} {name} {type} m) words = rw (method_read w class name type m, words.0) refl
operands_read f items i (counted {w} {v} {class} {name} {type} {n} m h) words = rw (method_read w class name type m, words.0, number_read 1 255 fault.BadOperand v n h, words.1.0) refl
operands_read f items i (new h) words = rw (h, words.0) refl
operands_read f items i (new_array {b}) words = rw (base_read b, words.0) refl
operands_read f items i (class_use {name} h) words = rw (no_bracket name (class_lacks 91 refl refl name h), h, words.0) refl
operands_read f items i (array {w} {type} d h) words = rw (ap (begins_with 91) (field_found w type d).0 ∙ bracket type ∙ not_from_false _ h, type_read w type d, words.0) refl
operands_read f items i is words = refl
