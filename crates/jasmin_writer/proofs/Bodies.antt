-- The canonical lines of a body say rows that represent its code in a body.
use Rattle.std.proofs.Common.{◌≡◌, ℕ, ◌+◌, ◌<◌, ◌≤◌, Bool, true, false, eqb, List, [], ◌∷◌, ◌++◌, map, length, length-append, Some, inl, inr, refl, sym, ap, ◌∙◌, subst, append_assoc, arith}
use Rattle.std.specs.Prelude.{ℤ, nat_le}
use Rattle.std.specs.List.{list_all, flat_map}
use Rattle.std.proofs.lemmas.Bool.{and_parts, eq-eqb, or_cases, or_left, or_right, leb-true}
use Rattle.std.proofs.lemmas.List.{append-nil}
use Rattle.jasmin_writer.specs.Canonical.{label_text, label_line, handler_line, handler_places, instruction_lines, instruction_places, code_places, is_named, lines_if, place_lines, body_lines, stack_line, locals_line, code_lines}
use Rattle.jasmin_text.specs.Spellable.{is_caught, is_handler, is_instruction}
use Rattle.jasmin_text.specs.Grammar.{Row, StackRow, LocalsRow, CatchRow, LabelRow, Body, Catch, empty_body, IsBody, place_of, Each, IsPlaceOf, IsPlacedCase, IsPlaced, IsPlacedRow, IsCodeOf, none, more, stack, locals, catch, label, plain, pushes, local, increment, jump, table, lookup, field, call, interface, new, new_array, type_use}
use Rattle.jasmin_text.specs.declared.class_text.Code.{Code}
use Rattle.jasmin_text.specs.declared.class_text.Handler.{Handler}
use Rattle.jasmin_text.specs.declared.instruction.Instruction.{Instruction}
use Rattle.jasmin_text.specs.declared.instruction.Instruction.TheVariants as instruction
use Rattle.jasmin_text.proofs.Conditions.{four}
use Rattle.jasmin_writer.proofs.Written.{IsLine}
use Rattle.jasmin_writer.proofs.Rows.{label_row, stack_row, locals_row}
use Rattle.jasmin_writer.proofs.CodeLines.{handler_row}
use Rattle.jasmin_writer.proofs.Labels.{labels_if, labels_from, found, IsNewFrom, new_behind}
use Rattle.jasmin_writer.proofs.Lines.{AreLines, no_lines, one_line, line_before, lines_joined, each_line}
use Rattle.jasmin_writer.proofs.Instructions.{case_by_label, by_label, instruction_rows, instruction_are, in_body}
use Rattle.jasmin_writer.proofs.Places.{IsGoodCode}

-- ---- instructions from a place on

abbrev label_rows : Bool → ℕ → List Row
label_rows true place = LabelRow (label_text place) ∷ []
label_rows false place = []

abbrev body_rows : List ℕ → ℕ → List (Instruction ℕ) → List Row
body_rows places place [] = label_rows (is_named places place) place ++ []
body_rows places place (i ∷ is) = label_rows (is_named places place) place ++ (instruction_rows i ++ body_rows places (place + 1) is)

label_are : (b : Bool) (place : ℕ) → place < 65536 → AreLines (lines_if b (label_line place)) (label_rows b place)
label_are true place less = one_line (label_line place) (LabelRow (label_text place)) (label_row place less)
label_are false place less = no_lines

body_are : (count : ℕ) (places : List ℕ) (place : ℕ) (is : List (Instruction ℕ)) → count < 65536 → place + length is < 65536 → list_all (is_instruction count) is ≡ true → AreLines (body_lines places place is) (body_rows places place is)
unfolding body_lines
body_are count places place [] less fit h =
    subst (AreLines (place_lines places place)) (sym (append-nil (label_rows (is_named places place) place))) (label_are (is_named places place) place (omega arith))
body_are count places place (i ∷ is) less fit h =
    let p = and_parts (is_instruction count i) (list_all (is_instruction count) is) h in
    subst (λ (ls : List (List ℕ)). AreLines ls (body_rows places place (i ∷ is))) (sym (append_assoc (place_lines places place) (instruction_lines i) (body_lines places (place + 1) is)))
    (lines_joined (place_lines places place) (instruction_lines i ++ body_lines places (place + 1) is) (label_rows (is_named places place) place) (instruction_rows i ++ body_rows places (place + 1) is)
    (label_are (is_named places place) place (omega arith))
    (lines_joined (instruction_lines i) (body_lines places (place + 1) is) (instruction_rows i) (body_rows places (place + 1) is) (instruction_are count i less p.0) (body_are count places (place + 1) is less (omega arith) p.1)))

-- with the labels and instructions from a place on
abbrev body_with : Body → List ℕ → ℕ → List (Instruction ℕ) → Body
body_with b places place is = record b { labels = b.labels ++ labels_from places place is; instructions = b.instructions ++ map by_label is }

label_in_body : (named : Bool) (place : ℕ) (rows : List Row) (b c : Body) → length b.instructions ≡ place → place < 65536 → IsNewFrom place b.labels → IsBody (record b { labels = b.labels ++ labels_if named place }) rows c → IsBody b (label_rows named place ++ rows) c
label_in_body true place rows b c here less fresh h =
    label (fresh place (omega arith) less) (subst (λ (p : ℕ). IsBody (record b { labels = b.labels ++ (label_text place, p) ∷ [] }) rows c) (sym here) h)
label_in_body false place rows b c here less fresh h = subst (λ (l : List (List ℕ × ℕ)). IsBody (record b { labels = l }) rows c) (append-nil b.labels) h

is_body : (count : ℕ) (places : List ℕ) (place : ℕ) (is : List (Instruction ℕ)) (b : Body) → list_all (is_instruction count) is ≡ true → length b.instructions ≡ place → place + length is < 65536 → IsNewFrom place b.labels
    → IsBody b (body_rows places place is) (body_with b places place is)
is_body count places place [] b h here fit fresh =
    let named = is_named places place in
    let last : record b { labels = b.labels ++ labels_if named place } ≡ body_with b places place [] =
    ap (λ (l : List (List ℕ × ℕ)). record b { labels = b.labels ++ l }) (sym (append-nil (labels_if named place)))
    ∙ ap (λ (l : List (Instruction (List ℕ))). record b { labels = b.labels ++ (labels_if named place ++ []); instructions = l }) (sym (append-nil b.instructions)) in
    label_in_body named place [] b (body_with b places place []) here (omega arith) fresh (subst (IsBody (record b { labels = b.labels ++ labels_if named place }) []) last none)
is_body count places place (i ∷ is) b h here fit fresh =
    let p = and_parts (is_instruction count i) (list_all (is_instruction count) is) h in
    let named = is_named places place in
    let next : Body = record b { labels = b.labels ++ labels_if named place; instructions = b.instructions ++ by_label i ∷ [] } in
    let behind : length next.instructions ≡ place + 1 = length-append b.instructions (by_label i ∷ []) ∙ ap (λ (n : ℕ). n + 1) here in
    let last : body_with next places (place + 1) is ≡ body_with b places place (i ∷ is) =
    ap (λ (l : List (List ℕ × ℕ)). record b { labels = l; instructions = (b.instructions ++ by_label i ∷ []) ++ map by_label is }) (append_assoc b.labels (labels_if named place) (labels_from places (place + 1) is))
    ∙ ap (λ (l : List (Instruction (List ℕ))). record b { labels = b.labels ++ labels_from places place (i ∷ is); instructions = l }) (append_assoc b.instructions (by_label i ∷ []) (map by_label is)) in
    subst (IsBody b (body_rows places place (i ∷ is))) last
    (label_in_body named place (instruction_rows i ++ body_rows places (place + 1) is) b (body_with next places (place + 1) is) here (omega arith) fresh
    (in_body count i (body_rows places (place + 1) is) (record b { labels = b.labels ++ labels_if named place }) (body_with next places (place + 1) is) p.0
    (is_body count places (place + 1) is next p.1 behind (omega arith) (new_behind named place b.labels (omega arith) fresh))))

-- ---- places

named_front : (ps qs : List ℕ) (p : ℕ) → is_named ps p ≡ true → is_named (ps ++ qs) p ≡ true
named_front [] qs p h = absurd cc
named_front (x ∷ ps) qs p h = elim (or_cases (eqb x p) (is_named ps p) h) as (λ _. is_named (x ∷ (ps ++ qs)) p ≡ true) [
  | inl e ↦ or_left (eqb x p) (is_named (ps ++ qs) p) e
  | inr e ↦ or_right (eqb x p) (is_named (ps ++ qs) p) (named_front ps qs p e)
]

named_back : (ps qs : List ℕ) (p : ℕ) → is_named qs p ≡ true → is_named (ps ++ qs) p ≡ true
named_back [] qs p h = h
named_back (x ∷ ps) qs p h = or_right (eqb x p) (is_named (ps ++ qs) p) (named_back ps qs p h)

named_first : (p : ℕ) (ps : List ℕ) → is_named (p ∷ ps) p ≡ true
named_first p ps = or_left (eqb p p) (is_named ps p) (eq-eqb p p refl)

named_later : (q : ℕ) (ps : List ℕ) (p : ℕ) → is_named ps p ≡ true → is_named (q ∷ ps) p ≡ true
named_later q ps p h = or_right (eqb q p) (is_named ps p) h

-- the labels of these places are found
abbrev AreFound : List (List ℕ × ℕ) → List ℕ → Type 0
AreFound labels ps = (p : ℕ) → is_named ps p ≡ true → place_of labels (label_text p) ≡ Some p

are_places : (labels : List (List ℕ × ℕ)) (ps : List ℕ) → AreFound labels ps → Each (IsPlaceOf labels) (map label_text ps) ps
are_places labels [] f = none
are_places labels (p ∷ ps) f = more (f p (named_first p ps)) (are_places labels ps (λ q e. f q (named_later p ps q e)))

are_cases : (labels : List (List ℕ × ℕ)) (cs : List (ℤ × ℕ)) → AreFound labels (map (λ c. c.1) cs) → Each (IsPlacedCase labels) (map case_by_label cs) cs
are_cases labels [] f = none
are_cases labels (c ∷ cs) f = more (refl, f c.1 (named_first c.1 (map (λ c. c.1) cs))) (are_cases labels cs (λ q e. f q (named_later c.1 (map (λ c. c.1) cs) q e)))

is_placed : (labels : List (List ℕ × ℕ)) (i : Instruction ℕ) → AreFound labels (instruction_places i) → IsPlaced labels (by_label i) i
is_placed labels (instruction.Plain p) f = plain
is_placed labels (instruction.Constant c) f = pushes
is_placed labels (instruction.Local l n) f = local
is_placed labels (instruction.Increment n by) f = increment
is_placed labels (instruction.Jump j place) f = jump (f place (named_first place []))
is_placed labels (instruction.TableSwitch low places default) f =
    table (are_places labels places (λ p e. f p (named_front places (default ∷ []) p e))) (f default (named_back places (default ∷ []) default (named_first default [])))
is_placed labels (instruction.LookupSwitch cases default) f =
    lookup (are_cases labels cases (λ p e. f p (named_front (map (λ c. c.1) cases) (default ∷ []) p e))) (f default (named_back (map (λ c. c.1) cases) (default ∷ []) default (named_first default [])))
is_placed labels (instruction.Field a r) f = field
is_placed labels (instruction.Call c r) f = call
is_placed labels (instruction.CallInterface r) f = interface
is_placed labels (instruction.New name) f = new
is_placed labels (instruction.NewArray b) f = new_array
is_placed labels (instruction.TypeUse t r) f = type_use

are_placed : (labels : List (List ℕ × ℕ)) (is : List (Instruction ℕ)) → AreFound labels (flat_map instruction_places is) → Each (IsPlaced labels) (map by_label is) is
are_placed labels [] f = none
are_placed labels (i ∷ is) f =
    more (is_placed labels i (λ p e. f p (named_front (instruction_places i) (flat_map instruction_places is) p e)))
    (are_placed labels is (λ p e. f p (named_back (instruction_places i) (flat_map instruction_places is) p e)))

-- ---- handlers

abbrev catch_by_label : Handler → Catch
catch_by_label h = record { class = h.class; from = label_text h.from; to = label_text h.to; handler = label_text h.handler }

abbrev row_of_catch : Catch → Row
row_of_catch c = CatchRow c.class c.from c.to c.handler

handler_are : (count : ℕ) (h : Handler) → count < 65536 → is_handler count h ≡ true → IsLine (handler_line h) (row_of_catch (catch_by_label h) ∷ [])
unfolding is_handler
handler_are count h less e =
    let p = four (is_caught h.class) (nat_le h.from count) (nat_le h.to count) (nat_le h.handler count) e in
    let from = leb-true h.from count p.1 in
    let to = leb-true h.to count p.2 in
    let using = leb-true h.handler count p.3 in
    handler_row h p.0 (omega arith) (omega arith) (omega arith)

catches_in_body : (cs : List Catch) (rows : List Row) (b c : Body) → IsBody (record b { catches = b.catches ++ cs }) rows c → IsBody b (map row_of_catch cs ++ rows) c
catches_in_body [] rows b c h = subst (λ (l : List Catch). IsBody (record b { catches = l }) rows c) (append-nil b.catches) h
catches_in_body (k ∷ cs) rows b c h =
    catch (catches_in_body cs rows (record b { catches = b.catches ++ k ∷ [] }) c (subst (λ (l : List Catch). IsBody (record b { catches = l }) rows c) (sym (append_assoc b.catches (k ∷ []) cs)) h))

are_handlers : (labels : List (List ℕ × ℕ)) (hs : List Handler) → AreFound labels (flat_map handler_places hs) → Each (IsPlacedRow labels) (map catch_by_label hs) hs
are_handlers labels [] f = none
are_handlers labels (h ∷ hs) f =
    let g : AreFound labels (handler_places h) = λ p e. f p (named_front (handler_places h) (flat_map handler_places hs) p e) in
    more (record {
      class = refl;
      from = g h.from (named_first h.from (h.to ∷ h.handler ∷ []));
      to = g h.to (named_later h.from (h.to ∷ h.handler ∷ []) h.to (named_first h.to (h.handler ∷ [])));
      handler = g h.handler (named_later h.from (h.to ∷ h.handler ∷ []) h.handler (named_later h.to (h.handler ∷ []) h.handler (named_first h.handler [])));
    })
    (are_handlers labels hs (λ p e. f p (named_back (handler_places h) (flat_map handler_places hs) p e)))

-- ---- the code of a method

pub code_rows : Code → List Row
code_rows c = StackRow c.stack ∷ LocalsRow c.locals ∷ (map row_of_catch (map catch_by_label c.handlers) ++ body_rows (code_places c) 0 c.instructions)

pub code_body : Code → Body
code_body c = record { stack = c.stack; locals = c.locals; labels = labels_from (code_places c) 0 c.instructions; catches = map catch_by_label c.handlers; instructions = map by_label c.instructions }

pub code_are : (c : Code) → IsGoodCode c → AreLines (code_lines c) (code_rows c)
unfolding code_lines code_rows
code_are c good =
    let n : ℕ = length c.instructions in
    let less : n < 65536 = omega (arith, good.few) in
    line_before (stack_line c) _ (StackRow c.stack ∷ []) _ (stack_row c good.stack) (
    line_before (locals_line c) _ (LocalsRow c.locals ∷ []) _ (locals_row c good.locals) (
    lines_joined (map handler_line c.handlers) (body_lines (code_places c) 0 c.instructions) (map row_of_catch (map catch_by_label c.handlers)) (body_rows (code_places c) 0 c.instructions)
    (each_line handler_line catch_by_label row_of_catch (is_handler n) c.handlers (λ h e. handler_are n h less e) good.handlers)
    (body_are n (code_places c) 0 c.instructions less (omega arith) good.instructions)))

pub code_is_body : (c : Code) → IsGoodCode c → IsBody empty_body (code_rows c) (code_body c)
unfolding code_rows code_body
code_is_body c good =
    let b : Body = record { stack = c.stack; locals = c.locals; labels = []; catches = map catch_by_label c.handlers; instructions = [] } in
    stack (locals (catches_in_body (map catch_by_label c.handlers) (body_rows (code_places c) 0 c.instructions) (record b { catches = [] }) (code_body c)
    (is_body (length c.instructions) (code_places c) 0 c.instructions b good.instructions refl (omega (arith, good.few)) (λ p low high. refl))))

pub code_is_code : (c : Code) → IsGoodCode c → IsCodeOf (code_body c) c
unfolding code_body
code_is_code c good =
    let fit : 0 + length c.instructions < 65536 = omega (arith, good.few) in
    let labels : List (List ℕ × ℕ) = labels_from (code_places c) 0 c.instructions in
    let f : AreFound labels (code_places c) = λ p e. let low : p ≤ length c.instructions = good.places p e in found (code_places c) 0 c.instructions p e (omega arith) (omega arith) fit in
    record {
      stack = refl;
      locals = refl;
      handlers = are_handlers labels c.handlers (λ p e. f p (named_front (flat_map handler_places c.handlers) (flat_map instruction_places c.instructions) p e));
      instructions = are_placed labels c.instructions (λ p e. f p (named_back (flat_map handler_places c.handlers) (flat_map instruction_places c.instructions) p e));
    }
