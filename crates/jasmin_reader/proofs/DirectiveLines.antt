-- Lines that begin with a directive, and their rows. Both ways.
use Rattle.std.proofs.Common.{◌≡◌, ℕ, inl, inr, Bool, true, false, not, List, [], ◌∷◌, Option, Some, None, Result, Ok, refl, sym, ap, subst, ◌∙◌, codes}
use Rattle.std.specs.List.{list_all}
use Rattle.std.proofs.lemmas.Bool.{and_from, cases_Bool, not-true}
use Rattle.std.proofs.lemmas.Slice.Eq.{bytes_eq-Decides}
use Rattle.std.specs.Str.{bytes_eq}
use Rattle.descriptors.specs.ClassName.{is_class_name, IsClassName}
use Rattle.jasmin_words.specs.declared.fault.FaultKind.{FaultKind}
use Rattle.jasmin_words.specs.declared.fault.FaultKind.TheVariants as fault
use Rattle.sequence.specs.Gives.{◌>>=◌}
use Rattle.sequence.proofs.Results.{bind_ok, done, given, test_passed, then}
use Rattle.jasmin_words.specs.Lexing.{Item, Word, fits}
use Rattle.jasmin_words.specs.Spelling.{AreWords}
use Rattle.jasmin_words.specs.Names.{is_label}
use Rattle.jasmin_text.specs.Forms.{directive_at, directives}
use Rattle.jasmin_text.specs.Grammar.{IsCaught, all, class as a_class, IsRow, AreRowsOf, skipped, of_words, super, implements, end, stack, locals, catch, Row, ClassRow, SuperRow, ImplementsRow, FieldRow, MethodRow, EndRow, CatchRow}
use Rattle.jasmin_text.specs.Spellable.{is_taken}
use Rattle.jasmin_text.specs.declared.class_text.ClassKind.{ClassKind}
use Rattle.jasmin_text.specs.declared.class_text.ClassKind.TheVariants as kind
use Rattle.jasmin_text.specs.declared.form.Directive.{Directive}
use Rattle.jasmin_text.specs.declared.form.Directive.TheVariants as directive
use Rattle.jasmin_text.proofs.MemberWords.{checked_ok}
use Rattle.jasmin_reader.specs.declared.body.Body.{Body}
use Rattle.jasmin_reader.specs.declared.head.Place.TheVariants as place
use Rattle.jasmin_reader.specs.declared.reader.Reader.{Reader}
use Rattle.jasmin_reader.specs.Places.{word_of, next_word, operand, ended_at, first_word}
use Rattle.jasmin_reader.specs.Operands.{label_in, limit_in, last_operand}
use Rattle.jasmin_text.specs.MemberWords.{class_name_in}
use Rattle.jasmin_reader.specs.Heads.{class_from, field_from, method_from}
use Rattle.jasmin_reader.specs.Bodies.{outside_switch, limit_by, limit_from, caught_in, keyword_in, label_behind, last_labels_from, catch_from, end_from, closed}
use Rattle.jasmin_reader.specs.Reading.{may_stand, said_in, with_row, ended_by, end_line, directive_line}
use Rattle.jasmin_reader.proofs.AccessWords.{first_is}
use Rattle.jasmin_reader.proofs.GoodRows.{is_headed}
use Rattle.jasmin_reader.proofs.Heads.{IsHeadedRow, neither, class_taken, interface_taken, field_taken, method_taken}
use Rattle.jasmin_reader.proofs.OperandForms.{ended_ok, operand_ok, last_ok, checked_last}
use Rattle.jasmin_reader.proofs.RowSteps.{body_row, body_rows, is_body_row, row_at, rows_at}
use Rattle.jasmin_reader.proofs.Words.{number_ok, AllRows, find_ok}

-- ---- what a line says

-- the rows of a line, and what they do
pub record Says (r : Reader) (items : List Item) (s : Reader) : Type 0 where
  pub rows : List Row
  pub is_row : AreRowsOf items rows
  pub does : rows_at r rows ≡ Ok s
  pub headed : list_all is_headed rows ≡ true

said : (r s : Reader) (items : List Item) (row : Row) → IsHeadedRow items row → row_at r row ≡ Ok s → Says r items s
said r s items row is e = record { rows = row ∷ []; is_row = is.0; does = rw e refl; headed = and_from _ _ is.1 refl }

-- the rows of a line in a method, and what they add
pub record BodySays (b : Body) (items : List Item) (c : Body) : Type 0 where
  pub rows : List Row
  pub is_row : AreRowsOf items rows
  pub does : body_rows b rows ≡ Ok c
  pub are : list_all is_body_row rows ≡ true

pub single_row : (b c : Body) (row : Row) → body_row b row ≡ Ok c → body_rows b (row ∷ []) ≡ Ok c
single_row b c row e = rw e refl

pub one_said : (b c : Body) {items : List Item} (row : Row) → AreRowsOf items (row ∷ []) → is_body_row row ≡ true → body_row b row ≡ Ok c → BodySays b items c
one_said b c row is are e = record { rows = row ∷ []; is_row = is; does = single_row b c row e; are = and_from _ _ are refl }

-- ---- outside of methods

-- a line of the grammar, and what its row does
abbrev Taken : Reader → Directive → List Item → Row → Type 0
Taken r d items row = IsHeadedRow items row × (row_at r row ≡ (may_stand r d >>= λ _. done (with_row r row)))

said_ok : (d : Directive) (r s : Reader) (items : List Item) (read : Result Row FaultKind) → ((row : Row) → read ≡ Ok row → Taken r d items row) → (may_stand r d >>= λ _. read >>= λ row. done (with_row r row)) ≡ Ok s → Says r items s
said_ok d r s items read is e =
    let one = bind_ok (may_stand r d) _ s e in
    let two = bind_ok read (λ row. done (with_row r row)) s one.2 in
    let t = is two.0 two.1 in
    said r s items two.0 t.0 (t.1 ∙ then (may_stand r d) _ one.0 s one.1 two.2)

-- what holds of each row that is made so
made : {A : Type 0} (P : Row → Type 0) (p : Result A FaultKind) (row : A → Row) → ((x : A) → p ≡ Ok x → P (row x)) → (y : Row) → (p >>= λ x. done (row x)) ≡ Ok y → P y
made P p row h y e = let x = bind_ok p _ y e in given P x.2 (h x.0 x.1)

-- a line with the name of a class
name_ok : (w : List ℕ) (row : List ℕ → Row) (items : List Item) (name : List ℕ) → fits w ≡ true → last_operand class_name_in items ≡ Ok name → (IsClassName name → IsRow (Word w ∷ Word name ∷ []) (row name ∷ [])) → AreRowsOf (Word w ∷ items) (row name ∷ [])
name_ok w row items name fit e is =
    let a = checked_last is_class_name items name e in
    subst (λ (l : List Item). AreRowsOf (Word w ∷ l) (row name ∷ [])) (sym a.0) (of_words (fit, (a.2, tt)) (is a.1))

-- a word that is no access word of a class of this kind is none after .interface
pub untaken : (k : ClassKind) (name : List ℕ) → not (is_taken k name) ≡ true → is_taken kind.Interface name ≡ false
untaken kind.Interface name h = not-true (is_taken kind.Interface name) h
untaken kind.Class name h = (neither (bytes_eq name (codes "interface")) (is_taken kind.Interface name) (not-true _ h)).1

-- ---- limits

next_ok : (items : List Item) (w : List ℕ × List Item) → next_word items ≡ Ok w → items ≡ Word w.0 ∷ w.1
next_ok [] w e = absurd cc
next_ok (t ∷ rest) w e = let one = bind_ok (word_of t) _ w e in given (λ (w : List ℕ × List Item). t ∷ rest ≡ Word w.0 ∷ w.1) one.2 (ap (λ (i : Item). i ∷ rest) (first_is fault.BadOperand t one.0 one.1))

limit_ok : (r : Reader) (items : List Item) (row : Row) → limit_from items ≡ Ok row → Taken r directive.Limit (Word (codes ".limit") ∷ items) row
limit_ok r items row e =
    let w = bind_ok (next_word items) _ row e in
    rw (next_ok items w.0 w.1) (by w.0.0 w.0.1 _ _ refl refl w.2)
  where
    by : (w : List ℕ) (rest : List Item) (s t : Bool) → bytes_eq w (codes "stack") ≡ s → bytes_eq w (codes "locals") ≡ t → limit_by s t rest ≡ Ok row → Taken r directive.Limit (Word (codes ".limit") ∷ Word w ∷ rest) row
    by w rest true t p q e =
        let n = bind_ok (last_operand limit_in rest) _ row e in
        let a = last_ok limit_in rest n.0 n.1 in
        rw ((bytes_eq-Decides w (codes "stack")).0 p, a.parts) (given (Taken r directive.Limit _) n.2 ((of_words (refl, (refl, (a.short, tt))) (stack (number_ok 0 1024 fault.LimitExceeded a.word n.0 a.value)), refl), refl))
    by w rest false true p q e =
        let n = bind_ok (last_operand limit_in rest) _ row e in
        let a = last_ok limit_in rest n.0 n.1 in
        rw ((bytes_eq-Decides w (codes "locals")).0 q, a.parts) (given (Taken r directive.Limit _) n.2 ((of_words (refl, (refl, (a.short, tt))) (locals (number_ok 0 1024 fault.LimitExceeded a.word n.0 a.value)), refl), refl))
    by w rest false false p q e = absurd cc

-- ---- handler tables

caught_ok : (w : List ℕ) (c : Option (List ℕ)) → caught_in w ≡ Ok c → IsCaught w c
caught_ok w c e = elim (cases_Bool (bytes_eq w (codes "all"))) [
  | inl y ↦ let k : None ≡ c = (let h = rw y at e in cc) in rw ((bytes_eq-Decides w (codes "all")).0 y, ← k) all
  | inr y ↦
      let one = bind_ok (class_name_in w) _ c (rw y at e) in
      let a = checked_ok is_class_name w one.0 one.1 in
      let k : Some w ≡ c = cc (a.1, one.2) in
      rw (← k) (a_class {name = w} y (rw a.1 a.0))
]

-- a label after a word
behind_ok : (keyword : List ℕ) (items : List Item) (x : List ℕ × List Item) → label_behind keyword items ≡ Ok x → (items ≡ Word keyword ∷ Word x.0 ∷ x.1) × (is_label x.0 ≡ true) × (fits x.0 ≡ true)
behind_ok keyword items x e =
    let one = bind_ok (operand (keyword_in keyword) items) _ x e in
    let a = operand_ok (keyword_in keyword) items one.0 one.1 in
    let b = operand_ok label_in one.0.1 x one.2 in
    let c = checked_ok is_label b.word x.0 b.value in
    let same = (bytes_eq-Decides a.word keyword).0 (test_passed (bytes_eq a.word keyword) tt fault.BadOperand one.0.0 a.value).0 in
    (cc (a.parts, same, b.parts, c.1), c.0, rw (← c.1) b.short)

catch_ok : (r : Reader) (items : List Item) (row : Row) → catch_from items ≡ Ok row → Taken r directive.Catch (Word (codes ".catch") ∷ items) row
unfolding catch_from
catch_ok r items x e =
    let one = bind_ok (operand caught_in items) _ x e in
    let two = bind_ok (label_behind (codes "from") one.0.1) _ x one.2 in
    let ends = bind_ok (last_labels_from two.0.1) _ x two.2 in
    let three = bind_ok (label_behind (codes "to") two.0.1) _ ends.0 ends.1 in
    let four = bind_ok (label_behind (codes "using") three.0.1) _ ends.0 three.2 in
    let five = bind_ok (ended_at four.0.1) _ ends.0 four.2 in
    let a = operand_ok caught_in items one.0 one.1 in
    let b = behind_ok (codes "from") one.0.1 two.0 two.1 in
    let c = behind_ok (codes "to") two.0.1 three.0 three.1 in
    let d = behind_ok (codes "using") three.0.1 four.0 four.1 in
    let none_left = ended_ok four.0.1 five.0 five.1 in
    let parts : items ≡ Word a.word ∷ Word (codes "from") ∷ Word two.0.0 ∷ Word (codes "to") ∷ Word three.0.0 ∷ Word (codes "using") ∷ Word four.0.0 ∷ [] = cc (a.parts, b.0, c.0, d.0, none_left) in
    given (Taken r directive.Catch (Word (codes ".catch") ∷ items)) ends.2 (given (λ z. Taken r directive.Catch (Word (codes ".catch") ∷ items) (CatchRow one.0.0 two.0.0 z.0 z.1)) five.2
    ((subst (λ (l : List Item). AreRowsOf (Word (codes ".catch") ∷ l) (CatchRow one.0.0 two.0.0 three.0.0 four.0.0 ∷ [])) (sym parts) (of_words (refl, (a.short, (refl, (b.2, (refl, (c.2, (refl, (d.2, tt)))))))) (catch (caught_ok a.word one.0.0 a.value) b.1 c.1 d.1)), refl), refl))

caught_read : (w : List ℕ) (c : Option (List ℕ)) → IsCaught w c → caught_in w ≡ Ok c
caught_read w c all = refl
caught_read w c (a_class {name} other h) = rw (other, h) refl

pub row_read : (w from to using : List ℕ) (c : Option (List ℕ)) → IsCaught w c → is_label from ≡ true → is_label to ≡ true → is_label using ≡ true
    → AreWords (Word w ∷ Word from ∷ Word to ∷ Word using ∷ []) → catch_from (Word w ∷ Word (codes "from") ∷ Word from ∷ Word (codes "to") ∷ Word to ∷ Word (codes "using") ∷ Word using ∷ []) ≡ Ok (CatchRow c from to using)
unfolding catch_from
row_read w from to using c h i j k fit = rw (caught_read w c h, fit.0, i, fit.1.0, j, fit.1.1.0, k, fit.1.1.1.0) refl

-- ---- the end of a method

end_words : (items rest : List Item) → end_from items ≡ Ok rest → items ≡ Word (codes "method") ∷ rest
unfolding end_from
end_words [] rest e = absurd cc
end_words (t ∷ after) rest e =
    let one = bind_ok (first_word fault.LeftOut t) _ rest e in
    let two = test_passed (bytes_eq one.0 (codes "method")) after fault.LeftOut rest one.2 in
    cc (first_is fault.LeftOut t one.0 one.1, (bytes_eq-Decides one.0 (codes "method")).0 two.0, two.1)

nothing_left : (r s : Reader) (rest : List Item) (o : Option Body) → ended_by r rest o ≡ Ok s → rest ≡ []
nothing_left r s rest None e = absurd cc
nothing_left r s rest (Some b) e =
    let one = bind_ok (outside_switch b) _ s e in
    let two = bind_ok (closed b) _ s one.2 in
    let three = bind_ok (ended_at rest) _ s two.2 in
    ended_ok rest three.0 three.1

end_ok : (r s : Reader) (items : List Item) → end_line r items ≡ Ok s → Says r (Word (codes ".end") ∷ items) s
unfolding end_line
end_ok r s items e =
    let one = bind_ok (end_from items) _ s e in
    let none_left = nothing_left r s one.0 r.body one.2 in
    let parts : items ≡ Word (codes "method") ∷ [] = cc (end_words items one.0 one.1, none_left) in
    said r s (Word (codes ".end") ∷ items) EndRow (subst (λ (l : List Item). AreRowsOf (Word (codes ".end") ∷ l) (EndRow ∷ [])) (sym parts) (of_words (refl, (refl, tt)) end), refl) (ap (λ (l : List Item). ended_by r l r.body) (sym none_left) ∙ one.2)

-- ---- all directives

-- the word of a directive
abbrev IsDirectiveRow : List ℕ → Directive → Type 0
IsDirectiveRow w directive.Class = w ≡ codes ".class"
IsDirectiveRow w directive.Interface = w ≡ codes ".interface"
IsDirectiveRow w directive.Super = w ≡ codes ".super"
IsDirectiveRow w directive.Implements = w ≡ codes ".implements"
IsDirectiveRow w directive.Field = w ≡ codes ".field"
IsDirectiveRow w directive.Method = w ≡ codes ".method"
IsDirectiveRow w directive.End = w ≡ codes ".end"
IsDirectiveRow w directive.Limit = w ≡ codes ".limit"
IsDirectiveRow w directive.Catch = w ≡ codes ".catch"
IsDirectiveRow w directive.Skipped = Unit {0}
IsDirectiveRow w directive.LeftOut = Unit {0}

directive_is : (w : List ℕ) (d : Directive) → directive_at w ≡ Some d → IsDirectiveRow w d
unfolding directive_at directives
directive_is w d e = find_ok IsDirectiveRow w directives d all e
  where
    all : AllRows IsDirectiveRow directives
    all = (refl, (refl, (refl, (refl, (refl, (refl, (refl, (refl, (refl, (tt, (tt, (tt, (tt, (tt, (tt, (tt, (tt, (tt, (tt, (tt, (tt, (tt, (tt, tt)))))))))))))))))))))))

pub directive_ok : (r s : Reader) (w : List ℕ) (d : Directive) (rest : List Item) → directive_at w ≡ Some d → directive_line r d rest ≡ Ok s → Says r (Word w ∷ rest) s
unfolding directive_line said_in
directive_ok r s w directive.Class rest p e = rw (directive_is w directive.Class p) (said_ok directive.Class r s _ _ (made (Taken r directive.Class _) (class_from place.Class rest) (λ c. ClassRow c.0.kind c.0.access c.1) (λ c h. (class_taken rest c h, refl))) e)
directive_ok r s w directive.Interface rest p e = rw (directive_is w directive.Interface p) (said_ok directive.Interface r s _ _ (made (Taken r directive.Interface _) (class_from place.Interface rest) (λ c. ClassRow c.0.kind c.0.access c.1) (λ c h. (interface_taken rest c h, refl))) e)
directive_ok r s w directive.Super rest p e = rw (directive_is w directive.Super p) (said_ok directive.Super r s _ _ (made (Taken r directive.Super _) (last_operand class_name_in rest) SuperRow (λ name h. ((name_ok (codes ".super") SuperRow rest name refl h super, refl), refl))) e)
directive_ok r s w directive.Implements rest p e = rw (directive_is w directive.Implements p) (said_ok directive.Implements r s _ _ (made (Taken r directive.Implements _) (last_operand class_name_in rest) ImplementsRow (λ name h. ((name_ok (codes ".implements") ImplementsRow rest name refl h implements, refl), refl))) e)
directive_ok r s w directive.Field rest p e = rw (directive_is w directive.Field p) (said_ok directive.Field r s _ _ (made (Taken r directive.Field _) (field_from rest) FieldRow (λ f h. (field_taken rest f h, refl))) e)
directive_ok r s w directive.Method rest p e = rw (directive_is w directive.Method p) (said_ok directive.Method r s _ _ (made (Taken r directive.Method _) (method_from rest) (λ m. MethodRow m.0 m.1.0 m.1.1) (λ m h. (method_taken rest m h, refl))) e)
directive_ok r s w directive.Limit rest p e = rw (directive_is w directive.Limit p) (said_ok directive.Limit r s _ _ (limit_ok r rest) e)
directive_ok r s w directive.Catch rest p e = rw (directive_is w directive.Catch p) (said_ok directive.Catch r s _ _ (catch_ok r rest) e)
directive_ok r s w directive.End rest p e = rw (directive_is w directive.End p) (end_ok r s rest e)
directive_ok r s w directive.Skipped rest p e = record { rows = []; is_row = skipped p; does = e; headed = refl }
directive_ok r s w directive.LeftOut rest p e = absurd cc
