-- Canonical lines say their rows.
use Rattle.std.proofs.Common.{◌≡◌, ℕ, ◌<◌, ◌≤◌, ◌^◌, Bool, true, false, eqb, List, [], ◌∷◌, ◌++◌, length, refl, subst, arith}
use Rattle.std.specs.Prelude.{pos, codes}
use Rattle.std.specs.Fmt.{decimal}
use Rattle.std.specs.Char.{digit_value}
use Rattle.std.specs.Str.Parse.{IsNumeral}
use Rattle.std.proofs.lemmas.Bool.{eqb-true, le-leb, false_from_ne_true}
use Rattle.std.proofs.lemmas.Fmt.{decimal_is_IsNumeral, length-decimal-le}
use Rattle.descriptors.specs.ClassName.{segments, is_class_name}
use Rattle.jasmin_words.specs.Lexing.{Item, Word, Colon, fits}
use Rattle.jasmin_words.specs.Names.{is_label}
use Rattle.jasmin_words.specs.Spelling.{IsWord}
use Rattle.jasmin_words.proofs.Numbers.{written_again}
use Rattle.jasmin_writer.specs.Keywords.{spelled}
use Rattle.jasmin_writer.specs.declared.keyword.Keyword.TheVariants as keyword
use Rattle.jasmin_writer.specs.Canonical.{super_line, implements_line, label_text, label_line, stack_line, locals_line, default_line}
use Rattle.jasmin_text.specs.Forms.{forms}
use Rattle.jasmin_writer.specs.CanonicalWords.{word_of}
use Rattle.jasmin_text.specs.declared.form.Form.TheVariants as form
use Rattle.jasmin_text.specs.declared.class_text.Code.{Code}
use Rattle.jasmin_text.specs.declared.instruction.Instruction.TheVariants as instruction
use Rattle.jasmin_text.specs.declared.instruction.Plain.{Plain}
use Rattle.jasmin_text.specs.declared.instruction.Plain.TheVariants as plain
use Rattle.jasmin_text.specs.declared.instruction.Local.{Local}
use Rattle.jasmin_text.specs.declared.instruction.Local.TheVariants as local
use Rattle.jasmin_text.specs.declared.instruction.Jump.{Jump}
use Rattle.jasmin_text.specs.declared.instruction.Jump.TheVariants as jump
use Rattle.jasmin_writer.proofs.FormWords.{plain_again, local_again, jump_again}
use Rattle.jasmin_text.specs.Grammar.{Row, IsRow, SuperRow, ImplementsRow, EndRow, StackRow, LocalsRow, LabelRow, InstructionRow, TargetRow, DefaultRow, IsNumberIn, plain as op_plain, local as op_local, jump as op_jump, simple, super, implements, end, stack, locals, label, operation, target, default}
use Rattle.jasmin_writer.proofs.Written.{IsWritten, IsLine, said, last_word, ends, blank, colon, word as a_word}
use Rattle.jasmin_text.proofs.WordBytes.{IsWordText, in_segments, split_byte, byte_word, class_name_word, decimal_word}

-- ---- words

pub label_word : (n : ℕ) → n < 2 ^ 64 → IsWordText (label_text n)
unfolding label_text
label_word n h = byte_word 76 (decimal n) refl (decimal_word n h)

-- a word that begins with no semicolon is one wherever it is
abbrev pub IsFixed : List ℕ → Type 0
IsFixed w = IsWord true w × (fits w ≡ true)

-- a word and a space before what is written
pub word_before : (w rest : List ℕ) (items : List Item) → IsFixed w → IsWritten true rest items → IsWritten true (w ++ 32 ∷ rest) (Word w ∷ items)
word_before w rest items f h = a_word w (32 ∷ rest) refl f.0 f.1 refl (blank refl h)

pub two_words : (u v : List ℕ) (rows : List Row) → IsFixed u → IsFixed v → IsRow (Word u ∷ Word v ∷ []) rows → IsLine (u ++ 32 ∷ v) rows
two_words u v rows f g h = said (u ++ 32 ∷ v) (Word u ∷ Word v ∷ []) rows (word_before u v (Word v ∷ []) f (last_word true v g.0 g.1)) h

pub three_words : (u v w : List ℕ) (rows : List Row) → IsFixed u → IsFixed v → IsFixed w → IsRow (Word u ∷ Word v ∷ Word w ∷ []) rows → IsLine (u ++ 32 ∷ (v ++ 32 ∷ w)) rows
three_words u v w rows e f g h =
    said (u ++ 32 ∷ (v ++ 32 ∷ w)) (Word u ∷ Word v ∷ Word w ∷ []) rows (word_before u (v ++ 32 ∷ w) (Word v ∷ Word w ∷ []) e (word_before v w (Word w ∷ []) f (last_word true w g.0 g.1))) h

class_start : (b : ℕ) (bs : List ℕ) → is_class_name (b ∷ bs) ≡ true → eqb b 59 ≡ false
unfolding is_class_name
class_start b bs h = false_from_ne_true (eqb b 59) (λ e.
    let k : is_class_name (59 ∷ bs) ≡ true = subst (λ (z : ℕ). is_class_name (z ∷ bs) ≡ true) (eqb-true b 59 e) h in
    let no : false ≡ true = (split_byte 59 (segments bs) (in_segments (segments (59 ∷ bs)) k)).0 in
    cc)

pub class_is_word : (fresh : Bool) (name : List ℕ) → is_class_name name ≡ true → IsWord fresh name
unfolding is_class_name
class_is_word fresh [] h = let no : false ≡ true = h in absurd cc
class_is_word fresh (b ∷ bs) h = (rw (class_start b bs h) refl, class_name_word (b ∷ bs) h)

pub label_fixed : (n : ℕ) → n < 65536 → IsFixed (label_text n)
unfolding label_text
label_fixed n h = let short = length-decimal-le 5 n (omega arith) (omega arith) (omega arith) in ((refl, label_word n (omega arith)), le-leb (length (76 ∷ decimal n)) 65535 (omega arith))

pub label_is : (n : ℕ) → is_label (label_text n) ≡ true
unfolding label_text
label_is n = refl

-- ---- lines

pub super_row : (name : List ℕ) → is_class_name name ≡ true → fits name ≡ true → IsLine (super_line name) (SuperRow name ∷ [])
unfolding super_line spelled
super_row name h f = two_words (codes ".super") name _ ((refl, refl), refl) (class_is_word true name h, f) (super h)

pub implements_row : (name : List ℕ) → is_class_name name ≡ true → fits name ≡ true → IsLine (implements_line name) (ImplementsRow name ∷ [])
unfolding implements_line spelled
implements_row name h f = two_words (codes ".implements") name _ ((refl, refl), refl) (class_is_word true name h, f) (implements h)

pub end_row : IsLine (spelled keyword.EndMethod) (EndRow ∷ [])
unfolding spelled
end_row = two_words (codes ".end") (codes "method") _ ((refl, refl), refl) ((refl, refl), refl) end

pub label_row : (n : ℕ) → n < 65536 → IsLine (label_line n) (LabelRow (label_text n) ∷ [])
unfolding label_line
label_row n h = let w = label_fixed n h in said (label_text n ++ 58 ∷ []) (Word (label_text n) ∷ Colon ∷ []) (LabelRow (label_text n) ∷ []) (a_word (label_text n) (58 ∷ []) refl w.0 w.1 refl (colon ends)) (label (label_is n))

pub target_row : (n : ℕ) → n < 65536 → IsLine (label_text n) (TargetRow (label_text n) ∷ [])
target_row n h = let w = label_fixed n h in said (label_text n) (Word (label_text n) ∷ []) (TargetRow (label_text n) ∷ []) (last_word true (label_text n) w.0 w.1) (target (label_is n))

-- ---- numbers

digit_start : (d : ℕ) → digit_value d < 10 → eqb d 59 ≡ false
digit_start d h = grind arith

digits_are_word : (fresh : Bool) (ds : List ℕ) → IsNumeral 10 ds → IsWordText ds → IsWord fresh ds
digits_are_word fresh [] h w = absurd (omega (arith, h.0))
digits_are_word fresh (d ∷ ds) h w = (rw (digit_start d h.1.0) refl, w)

pub number_is_word : (fresh : Bool) (n : ℕ) → n < 2 ^ 64 → IsWord fresh (decimal n)
number_is_word fresh n h = digits_are_word fresh (decimal n) (decimal_is_IsNumeral n h).0 (decimal_word n h)

pub number_fixed : (n : ℕ) → n < 65536 → IsFixed (decimal n)
number_fixed n h = let short = length-decimal-le 5 n (omega arith) (omega arith) (omega arith) in (number_is_word true n (omega arith), le-leb (length (decimal n)) 65535 (omega arith))

pub number_in : (low high n : ℕ) → low ≤ n → n ≤ high → n < 65536 → IsNumberIn low high (decimal n) n
number_in low high n from to less = record { value = written_again (pos n) (record { sfits = omega arith }); from = le-leb low n from; to = le-leb n high to }

pub stack_row : (code : Code) → code.stack ≤ 1024 → IsLine (stack_line code) (StackRow code.stack ∷ [])
unfolding stack_line spelled
stack_row code h =
    three_words (codes ".limit") (codes "stack") (decimal code.stack) _ ((refl, refl), refl) ((refl, refl), refl) (number_fixed code.stack (omega arith))
    (stack (number_in 0 1024 code.stack (omega arith) h (omega arith)))

pub locals_row : (code : Code) → code.locals ≤ 1024 → IsLine (locals_line code) (LocalsRow code.locals ∷ [])
unfolding locals_line spelled
locals_row code h =
    three_words (codes ".limit") (codes "locals") (decimal code.locals) _ ((refl, refl), refl) ((refl, refl), refl) (number_fixed code.locals (omega arith))
    (locals (number_in 0 1024 code.locals (omega arith) h (omega arith)))

pub default_row : (n : ℕ) → n < 65536 → IsLine (default_line n) (DefaultRow (label_text n) ∷ [])
unfolding default_line spelled
default_row n h =
    let w = label_fixed n h in
    said (codes "default : " ++ label_text n) (Word (codes "default") ∷ Colon ∷ Word (label_text n) ∷ []) (DefaultRow (label_text n) ∷ [])
    (word_before (codes "default") (58 ∷ 32 ∷ label_text n) _ ((refl, refl), refl) (colon (blank refl (last_word true (label_text n) w.0 w.1)))) (default (label_is n))

-- ---- instructions

plain_fixed : (p : Plain) → IsFixed (word_of (form.Plain p))
unfolding word_of forms
plain_fixed plain.Nop = ((refl, refl), refl)
plain_fixed p = ((refl, refl), refl)

local_fixed : (w : Local) → IsFixed (word_of (form.Local w))
unfolding word_of forms
local_fixed local.ILoad = ((refl, refl), refl)
local_fixed w = ((refl, refl), refl)

jump_fixed : (w : Jump) → IsFixed (word_of (form.Jump w))
unfolding word_of forms
jump_fixed jump.IfEq = ((refl, refl), refl)
jump_fixed w = ((refl, refl), refl)

pub plain_row : (p : Plain) → IsLine (word_of (form.Plain p)) (InstructionRow (instruction.Plain p) ∷ [])
plain_row p = let w = plain_fixed p in said (word_of (form.Plain p)) (Word (word_of (form.Plain p)) ∷ []) (InstructionRow (instruction.Plain p) ∷ []) (last_word true (word_of (form.Plain p)) w.0 w.1) (operation (simple (plain_again p) op_plain))

pub local_row : (l : Local) (n : ℕ) → n ≤ 65535 → IsLine (word_of (form.Local l) ++ 32 ∷ decimal n) (InstructionRow (instruction.Local l n) ∷ [])
local_row l n h =
    two_words (word_of (form.Local l)) (decimal n) _ (local_fixed l) (number_fixed n (omega arith))
    (operation (simple (local_again l) (op_local (number_in 0 65535 n (omega arith) h (omega arith)))))

pub jump_row : (j : Jump) (n : ℕ) → n < 65536 → IsLine (word_of (form.Jump j) ++ 32 ∷ label_text n) (InstructionRow (instruction.Jump j (label_text n)) ∷ [])
jump_row j n h = two_words (word_of (form.Jump j)) (label_text n) _ (jump_fixed j) (label_fixed n h) (operation (simple (jump_again j) (op_jump (label_is n))))
