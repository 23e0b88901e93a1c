-- Canonical lines of handlers, switches, iinc and invokeinterface say their rows.
use Rattle.std.proofs.Common.{◌≡◌, ℕ, ◌<◌, ◌≤◌, true, not, List, [], ◌∷◌, ◌++◌, Option, Some, None, refl, sym, subst, append_assoc, arith}
use Rattle.std.specs.Prelude.{pos, negsuc, ℤ, codes, FitsSigned}
use Rattle.std.specs.Int.{w32}
use Rattle.std.specs.Fmt.{decimal, signed_decimal}
use Rattle.std.proofs.lemmas.Bool.{and_parts, le-leb, ltb-true, not-true}
use Rattle.std.specs.Str.{bytes_eq}
use Rattle.descriptors.specs.ClassName.{is_class_name}
use Rattle.descriptors.specs.Spelling.{method_spelling}
use Rattle.jasmin_words.specs.Lexing.{Word, Colon, fits}
use Rattle.jasmin_words.specs.Names.{is_member_name}
use Rattle.jasmin_words.proofs.Numbers.{written_again}
use Rattle.jasmin_text.specs.Forms.{form_at, forms}
use Rattle.jasmin_writer.specs.CanonicalWords.{word_of}
use Rattle.jasmin_writer.specs.Keywords.{spelled}
use Rattle.jasmin_writer.specs.Canonical.{label_text, caught_text, range_text, handler_line, method_text, interface_count, interface_line, increment_line, case_line}
use Rattle.jasmin_text.specs.Spellable.{is_class_word, is_int, is_short, is_caught, is_method_type}
use Rattle.jasmin_text.specs.Grammar.{IsIntIn, short_low, IsCaught, InstructionRow, TableRow, LookupRow, CaseRow, CatchRow, increment, counted, all, class, simple, table, lookup, catch, operation, case}
use Rattle.jasmin_text.specs.declared.form.Form.TheVariants as form
use Rattle.jasmin_text.specs.declared.class_text.Handler.{Handler}
use Rattle.jasmin_text.specs.declared.instruction.Instruction.TheVariants as instruction
use Rattle.jasmin_text.specs.declared.instruction.MethodReference.{MethodReference}
use Rattle.jasmin_writer.proofs.Written.{IsLine, said, last_word, blank, colon, word as a_word}
use Rattle.jasmin_writer.proofs.Rows.{IsFixed, two_words, three_words, class_is_word, label_fixed, label_is, number_fixed, number_in}
use Rattle.jasmin_text.proofs.MemberWords.{call_only}
use Rattle.jasmin_writer.proofs.Operands.{int_fixed, method_is_word, is_signature}
use Rattle.jasmin_text.proofs.Integers.{int_of}

-- ---- handlers

caught_fixed : (class : Option (List ℕ)) → is_caught class ≡ true → IsFixed (caught_text class)
unfolding spelled
caught_fixed None h = ((refl, refl), refl)
caught_fixed (Some name) h =
    let p = and_parts (is_class_word name) (not (bytes_eq name (codes "all"))) h in
    let q = and_parts (is_class_name name) (fits name) p.0 in
    (class_is_word true name q.0, q.1)

caught_is : (class : Option (List ℕ)) → is_caught class ≡ true → IsCaught (caught_text class) class
unfolding spelled
caught_is None h = all
caught_is (Some name) h =
    let p = and_parts (is_class_word name) (not (bytes_eq name (codes "all"))) h in
    class (not-true (bytes_eq name (codes "all")) p.1) (and_parts (is_class_name name) (fits name) p.0).0

handler_spaced : (h : Handler) → handler_line h
    ≡ codes ".catch " ++ (caught_text h.class ++ (codes " from " ++ (label_text h.from ++ (codes " to " ++ (label_text h.to ++ (codes " using " ++ label_text h.handler))))))
unfolding handler_line range_text spelled
handler_spaced h = simp append_assoc

pub handler_row : (h : Handler) → is_caught h.class ≡ true → h.from < 65536 → h.to < 65536 → h.handler < 65536
    → IsLine (handler_line h) (CatchRow h.class (label_text h.from) (label_text h.to) (label_text h.handler) ∷ [])
handler_row h c f t u =
    let w : List ℕ = caught_text h.class in
    let from : List ℕ = label_text h.from in
    let to : List ℕ = label_text h.to in
    let using : List ℕ = label_text h.handler in
    let fixed = caught_fixed h.class c in
    let at_using = blank refl (a_word (codes "using") (32 ∷ using) refl (refl, refl) refl refl (blank refl (last_word true using (label_fixed h.handler u).0 (label_fixed h.handler u).1))) in
    let at_to = blank refl (a_word (codes "to") (32 ∷ (to ++ (codes " using " ++ using))) refl (refl, refl) refl refl (blank refl (a_word to (codes " using " ++ using) refl (label_fixed h.to t).0 (label_fixed h.to t).1 refl at_using))) in
    let at_from = blank refl (a_word (codes "from") (32 ∷ (from ++ (codes " to " ++ (to ++ (codes " using " ++ using))))) refl (refl, refl) refl refl (blank refl (a_word from (codes " to " ++ (to ++ (codes " using " ++ using))) refl (label_fixed h.from f).0 (label_fixed h.from f).1 refl at_to))) in
    subst (λ (line : List ℕ). IsLine line (CatchRow h.class from to using ∷ [])) (sym (handler_spaced h))
    (said (codes ".catch " ++ (w ++ (codes " from " ++ (from ++ (codes " to " ++ (to ++ (codes " using " ++ using)))))))
    (Word (codes ".catch") ∷ Word w ∷ Word (codes "from") ∷ Word from ∷ Word (codes "to") ∷ Word to ∷ Word (codes "using") ∷ Word using ∷ []) (CatchRow h.class from to using ∷ [])
    (a_word (codes ".catch") (32 ∷ (w ++ (codes " from " ++ (from ++ (codes " to " ++ (to ++ (codes " using " ++ using))))))) refl (refl, refl) refl refl (blank refl (
    a_word w (codes " from " ++ (from ++ (codes " to " ++ (to ++ (codes " using " ++ using))))) refl fixed.0 fixed.1 refl at_from)))
    (catch (caught_is h.class c) (label_is h.from) (label_is h.to) (label_is h.handler)))

-- ---- iinc

short_is_int : (z : ℤ) → is_short z ≡ true → FitsSigned w32 z
short_is_int (pos n) h = let less = ltb-true n 32768 h in record { sfits = omega arith }
short_is_int (negsuc n) h = let less = ltb-true n 32768 h in record { sfits = omega arith }

short_in : (z : ℤ) → is_short z ≡ true → IsIntIn short_low (pos 32767) (signed_decimal z) z
short_in (pos n) h = let less = ltb-true n 32768 h in record { value = written_again (pos n) (short_is_int (pos n) h); from = refl; to = le-leb n 32767 (omega arith) }
short_in (negsuc n) h = let less = ltb-true n 32768 h in record { value = written_again (negsuc n) (short_is_int (negsuc n) h); from = le-leb n 32767 (omega arith); to = refl }

pub increment_row : (n : ℕ) (by : ℤ) → n ≤ 65535 → is_short by ≡ true → IsLine (increment_line n by) (InstructionRow (instruction.Increment n by) ∷ [])
unfolding increment_line word_of form_at forms
increment_row n by h s =
    three_words (word_of form.Increment) (decimal n) (signed_decimal by) _ ((refl, refl), refl) (number_fixed n (omega arith)) (int_fixed by (short_is_int by s))
    (operation (simple {f = form.Increment} refl (increment (number_in 0 65535 n (omega arith) h (omega arith)) (short_in by s))))

-- ---- invokeinterface

pub interface_row : (r : MethodReference) → is_class_name r.class ≡ true → is_member_name r.name ≡ true → is_method_type r.method_type ≡ true → fits (r.class ++ 47 ∷ r.name ++ method_spelling r.method_type) ≡ true
    → IsLine (interface_line r) (InstructionRow (instruction.CallInterface r) ∷ [])
unfolding interface_line method_text word_of form_at forms
interface_row r h k t f =
    let n : ℕ = interface_count r in
    let low : 1 ≤ n = omega arith in
    let high : n ≤ 255 = omega arith in
    three_words (word_of form.CallInterface) (r.class ++ 47 ∷ r.name ++ method_spelling r.method_type) (decimal n) _ ((refl, refl), refl) (method_is_word true r.class r.name r.method_type h k t, f) (number_fixed n (omega arith))
    (operation (simple {f = form.CallInterface} refl (counted (call_only r.class r.name r.method_type h k (is_signature r.method_type t)) (number_in 1 255 n low high (omega arith)))))

-- ---- switches

pub table_row : (low : ℤ) → is_int low ≡ true → IsLine (word_of form.TableSwitch ++ 32 ∷ signed_decimal low) (TableRow low None ∷ [])
unfolding word_of form_at forms
table_row low h =
    let i = int_of low h in
    two_words (word_of form.TableSwitch) (signed_decimal low) _ ((refl, refl), refl) (int_fixed low i) (operation (table refl (written_again low i)))

pub lookup_row : IsLine (word_of form.LookupSwitch) (LookupRow ∷ [])
unfolding word_of form_at forms
lookup_row = said (word_of form.LookupSwitch) (Word (word_of form.LookupSwitch) ∷ []) (LookupRow ∷ []) (last_word true (word_of form.LookupSwitch) (refl, refl) refl) (operation (lookup refl))

case_spaced : (c : ℤ × ℕ) → case_line c ≡ signed_decimal c.0 ++ (codes " : " ++ label_text c.1)
unfolding case_line spelled
case_spaced c = append_assoc (signed_decimal c.0) (codes " : ") (label_text c.1)

pub case_row : (c : ℤ × ℕ) → is_int c.0 ≡ true → c.1 < 65536 → IsLine (case_line c) (CaseRow c.0 (label_text c.1) ∷ [])
case_row c h less =
    let i = int_of c.0 h in
    subst (λ (line : List ℕ). IsLine line (CaseRow c.0 (label_text c.1) ∷ [])) (sym (case_spaced c))
    (said (signed_decimal c.0 ++ (codes " : " ++ label_text c.1)) (Word (signed_decimal c.0) ∷ Colon ∷ Word (label_text c.1) ∷ []) (CaseRow c.0 (label_text c.1) ∷ [])
    (a_word (signed_decimal c.0) (codes " : " ++ label_text c.1) refl (int_fixed c.0 i).0 (int_fixed c.0 i).1 refl (blank refl (colon (blank refl (last_word true (label_text c.1) (label_fixed c.1 less).0 (label_fixed c.1 less).1)))))
    (case (written_again c.0 i) (label_is c.1)))
