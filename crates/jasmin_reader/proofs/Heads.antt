-- Lines that name a class, a field or a method, both ways: those that are read are lines of the grammar, and those are read.
use Rattle.std.proofs.Common.{◌≡◌, ℕ, inl, inr, Bool, true, false, not, ◌&&◌, cond, List, [], ◌∷◌, ◌++◌, map, Option, Some, Ok, Err, refl, sym, ap, subst, ◌∙◌, codes}
use Rattle.std.proofs.lemmas.Bool.{and_from, cases_Bool, not_from_false, false_from_ne_true, and_parts, not-true}
use Rattle.std.proofs.lemmas.List.Folds.{list_all-append}
use Rattle.std.proofs.lemmas.Slice.Eq.{bytes_eq-Decides}
use Rattle.std.specs.Str.{bytes_eq}
use Rattle.descriptors.specs.ClassName.{is_class_name, IsClassName}
use Rattle.descriptors.specs.Reading.{field_of_text, array_at, element_at, method_of_text}
use Rattle.descriptors.specs.Signature.{Signature}
use Rattle.descriptors.specs.Spelling.{method_spelling}
use Rattle.descriptors.specs.declared.field.ElementType.TheVariants as element
use Rattle.descriptors.specs.declared.field.FieldType.{FieldType}
use Rattle.jasmin_words.specs.declared.fault.FaultKind.TheVariants as fault
use Rattle.sequence.specs.Gives.{◌>>=◌}
use Rattle.sequence.proofs.Results.{not_refused, bind_ok, given}
use Rattle.jasmin_words.specs.Lexing.{Item, Word, Equals, Text, fits}
use Rattle.jasmin_words.specs.Spelling.{AreWords}
use Rattle.jasmin_words.specs.Names.{is_member_name, IsMemberName}
use Rattle.jasmin_text.specs.Tables.{access_of, member_access_of, is_member_word, is_access_word}
use Rattle.jasmin_text.specs.Spellable.{is_int_type, is_string_type, may_initialize, is_taken}
use Rattle.jasmin_text.specs.Grammar.{no_access, IsAccess, IsMemberAccess, IsClassAccess, IsValue, begins_with_word as grammar_word, none, int, text, signature, class, interface, field, method, AreRowsOf, of_words, Row, ClassRow, FieldRow, MethodRow}
use Rattle.jasmin_text.specs.MemberWords.{before_type, type_part, class_name_in, member_name_in}
use Rattle.jasmin_text.specs.declared.access.Access.{Access}
use Rattle.jasmin_text.specs.declared.class_text.ClassKind.{ClassKind}
use Rattle.jasmin_text.specs.declared.class_text.ClassKind.TheVariants as kind
use Rattle.jasmin_text.specs.declared.class_text.Constant.{Constant}
use Rattle.jasmin_text.specs.declared.class_text.Constant.TheVariants as constant
use Rattle.jasmin_text.specs.declared.class_text.Field.{Field}
use Rattle.jasmin_text.proofs.MemberWords.{checked_ok, lacks, member_lacks, signature_found}
use Rattle.jasmin_reader.specs.declared.head.Place.{Place}
use Rattle.jasmin_reader.specs.declared.head.Place.TheVariants as place
use Rattle.jasmin_reader.specs.declared.head.HeadWords.{HeadWords}
use Rattle.jasmin_reader.specs.Places.{within_limit, operand, string_from, ended_at}
use Rattle.jasmin_reader.specs.Operands.{integer_in, type_in, typed_in}
use Rattle.jasmin_reader.specs.Heads.{start, named_from, begins_with_part, is_before_name, kind_at, class_from, constant_for, value_at, value_from, is_signature, described_from, field_from, fits_initializer, method_from}
use Rattle.jasmin_reader.proofs.AccessWords.{within_ok, words_behind, knows, is_access_at, Words, class_access, class_words, simple_access, simple_words, named_ok, named_read, word_behind}
use Rattle.jasmin_reader.proofs.GoodRows.{fits_head, is_typed, is_headed}
use Rattle.jasmin_reader.proofs.OperandForms.{ended_ok, operand_ok}
use Rattle.jasmin_reader.proofs.Words.{access_lacks, type_read, typed_read, integer_ok, type_ok, typed_ok}

-- a row of the grammar, with what its words don't say by themselves
abbrev pub IsHeadedRow : List Item → Row → Type 0
IsHeadedRow items row = AreRowsOf items (row ∷ []) × (is_headed row ≡ true)

-- ---- classes

pub neither : (s t : Bool) → cond s true t ≡ false → (s ≡ false) × (t ≡ false)
neither true t e = absurd cc
neither false t e = (refl, e)

abbrev IsClassHead : Place → List Item → HeadWords × List ℕ → Type 0
IsClassHead p items r = (before : List (List ℕ)) × Words p (start (kind_at p)) before r.0 × (items ≡ map Word before ++ Word r.1 ∷ []) × IsClassName r.1 × (is_access_at p r.1 ≡ false) × AreWords items

class_ok : (p : Place) (items : List Item) (r : HeadWords × List ℕ) → class_from p items ≡ Ok r → IsClassHead p items r
unfolding class_from
class_ok p items r e =
    let found = bind_ok (named_from p (start (kind_at p)) items) _ r e in
    let x = found.0 in
    let n = named_ok p (start (kind_at p)) items x found.1 in
    let one = bind_ok (class_name_in x.1.0) _ r found.2 in
    let two = bind_ok (within_limit x.1.0) _ r one.2 in
    let three = bind_ok (ended_at x.1.1) _ r two.2 in
    let c = checked_ok is_class_name x.1.0 one.0 one.1 in
    let fit = n.3 (within_ok x.1.0 two.0 two.1, rw (ended_ok x.1.1 three.0 three.1) tt) in
    given (IsClassHead p items) three.2 (n.0, n.1, cc (n.2, c.1, ended_ok x.1.1 three.0 three.1), c.0, rw (← c.1) n.4, fit)

pub class_taken : (items : List Item) (r : HeadWords × List ℕ) → class_from place.Class items ≡ Ok r → IsHeadedRow (Word (codes ".class") ∷ items) (ClassRow r.0.kind r.0.access r.1)
class_taken items r e =
    let (before, words, parts, is_name, free, fit) = class_ok place.Class items r e in
    let none_of = neither (bytes_eq r.1 (codes "interface")) (is_access_word r.1) free in
    (of_words (refl, fit) (class (map Word before) parts (class_access words) is_name none_of.0), elim r.0.kind as (λ k. not (is_taken k r.1) ≡ true) [ kind.Class ↦ ap not free | kind.Interface ↦ ap not none_of.1 ])

pub interface_taken : (items : List Item) (r : HeadWords × List ℕ) → class_from place.Interface items ≡ Ok r → IsHeadedRow (Word (codes ".interface") ∷ items) (ClassRow r.0.kind r.0.access r.1)
interface_taken items r e =
    let (before, words, parts, is_name, free, fit) = class_ok place.Interface items r e in
    let are = simple_access place.Interface access_of knows.0 words in
    let all : AreWords (Word (codes ".interface") ∷ items) = (refl, fit) in
    rw (are.1, free) (of_words all (interface (map Word before) parts are.0 is_name), refl)

-- the words of a line within their limit, by those before a name, and the name itself
name_fits : {items : List Item} (before : List Item) (ws : List (List ℕ)) (name : List ℕ) (rest : List Item) → items ≡ before ++ Word name ∷ rest → before ≡ map Word ws → AreWords items → AreWords (map Word ws ++ Word name ∷ rest) × (fits name ≡ true)
name_fits before ws name rest e parts good =
    let fit : AreWords (map Word ws ++ Word name ∷ rest) = subst AreWords (e ∙ ap (λ (l : List Item). l ++ Word name ∷ rest) parts) good in
    (fit, (words_behind (map Word ws) (Word name ∷ rest) fit).0)

pub class_head : (items before : List Item) (k : ClassKind) (a : Access) (name : List ℕ) → items ≡ before ++ Word name ∷ [] → IsClassAccess kind.Class no_access before k a → IsClassName name → is_taken kind.Class name ≡ false → AreWords items
    → class_from place.Class items ≡ Ok (record { kind = k; access = a }, name)
unfolding class_from
class_head items before k a name e is h free good =
    let (ws, parts, words) = class_words is in
    let (fit, short) = name_fits before ws name [] e parts good in
    rw (e, parts, named_read place.Class name [] free refl (word_behind name) words fit, h, short) refl

pub interface_head : (items before : List Item) (a : Access) (name : List ℕ) → items ≡ before ++ Word name ∷ [] → IsAccess before a → IsClassName name → is_taken kind.Interface name ≡ false → AreWords items
    → class_from place.Interface items ≡ Ok (record { kind = kind.Interface; access = a }, name)
unfolding class_from
interface_head items before a name e is h free good =
    let (ws, parts, (words, _)) = simple_words place.Interface access_of knows.0 kind.Interface is refl in
    let (fit, short) = name_fits before ws name [] e parts good in
    rw (e, parts, named_read place.Interface name [] free refl (word_behind name) words fit, h, short) refl

-- ---- the value of a field

string_ok : (items : List Item) (x : List ℕ × List Item) → string_from items ≡ Ok x → items ≡ Text x.0 ∷ x.1
string_ok (Text t ∷ rest) x e = given (λ z. Text t ∷ rest ≡ Text z.0 ∷ z.1) e refl
string_ok items x e = absurd cc

-- a value of its type after a descriptor
abbrev IsTypedValue : FieldType → List Item → Option Constant → Type 0
IsTypedValue type items v = IsValue items v × (is_typed type v ≡ true) × AreWords items

value_as : (type : FieldType) {items others : List Item} {v : Option Constant} → items ≡ others → IsTypedValue type (Equals ∷ others) v → IsTypedValue type (Equals ∷ items) v
value_as type e is = rw e is

constant_ok : (type : FieldType) (items : List Item) (x : Constant × List Item) → constant_for type items ≡ Ok x → x.1 ≡ [] → IsTypedValue type (Equals ∷ items) (Some x.0)
unfolding constant_for
constant_ok type items x e n = by (is_int_type type) (is_string_type type) refl refl e
  where
    by : (s t : Bool) → is_int_type type ≡ s → is_string_type type ≡ t → cond s (operand integer_in items >>= λ n. Ok (constant.Int n.0, n.1)) (cond t (string_from items >>= λ s. Ok (constant.Text s.0, s.1)) (ended_at items >>= λ _. Err fault.BadOperand)) ≡ Ok x
        → IsTypedValue type (Equals ∷ items) (Some x.0)
    by true t p q h =
        let one = bind_ok (operand integer_in items) _ x h in
        let a = operand_ok integer_in items one.0 one.1 in
        given (λ z. IsTypedValue type (Equals ∷ items) (Some z.0)) one.2 (value_as type (cc (a.parts, one.2, n)) (int (integer_ok a.word one.0.0 a.value), p, (tt, (a.short, tt))))
    by false true p q h =
        let one = bind_ok (string_from items) _ x h in
        given (λ z. IsTypedValue type (Equals ∷ items) (Some z.0)) one.2 (value_as type {others = Text one.0.0 ∷ []} (cc (string_ok items one.0 one.1, one.2, n)) (text, q, (tt, (tt, tt))))
    by false false p q h = let one = bind_ok (ended_at items) _ x h in absurd (cc one.2)

value_at_ok : (type : FieldType) (items : List Item) (v : Option Constant) → value_at type items ≡ Ok v → IsTypedValue type items v × (grammar_word items ≡ false)
value_at_ok type [] v e = given (λ w. IsTypedValue type [] w × (false ≡ false)) e ((none, refl, tt), refl)
value_at_ok type (Equals ∷ rest) v e =
    let one = bind_ok (constant_for type rest) _ v e in
    let two = bind_ok (ended_at one.0.1) _ v one.2 in
    (given (IsTypedValue type (Equals ∷ rest)) two.2 (constant_ok type rest one.0 one.1 (ended_ok one.0.1 two.0 two.1)), refl)
value_at_ok type items v e = absurd cc

value_ok : (type : FieldType) (items : List Item) (v : Option Constant) → value_from type items ≡ Ok v → IsTypedValue type items v
unfolding value_from
value_ok type (Word w ∷ rest) v e = elim (cases_Bool (bytes_eq w (codes "signature"))) [
  | inl y ↦
      let one = bind_ok (string_from rest >>= λ t. Ok t.1) _ v (rw y at e) in
      let two = bind_ok (string_from rest) _ one.0 one.1 in
      let behind = value_at_ok type one.0 v one.2 in
      let parts : rest ≡ Text two.0.0 ∷ one.0 = cc (string_ok rest two.0 two.1, two.2) in
      rw ((bytes_eq-Decides w (codes "signature")).0 y, parts) (signature behind.0.0 behind.1, behind.0.1, (refl, (tt, behind.0.2)))
  | inr y ↦ absurd (let h = rw y at e in cc)
]
value_ok type items v e = (value_at_ok type items v e).0

string_no_int : (t : FieldType) → is_string_type t ≡ true → is_int_type t ≡ false
string_no_int t h = elim t.element as (λ e. is_string_type (record t { element = e }) ≡ true → is_int_type (record t { element = e }) ≡ false) [ element.Base b ↦ λ h. absurd cc | element.Class name ↦ λ h. refl ] h

value_read : (t : FieldType) (rest : List Item) (v : Option Constant) → IsValue rest v → is_typed t v ≡ true → AreWords rest
    → (begins_with_part rest ≡ false) × (value_from t rest ≡ Ok v) × (grammar_word rest ≡ false → value_at t rest ≡ Ok v)
unfolding value_from constant_for
value_read t rest v none ok good = (refl, refl, λ h. refl)
value_read t rest v (int e) ok good = rw (ok, e, good.1.0) (refl, refl, λ h. refl)
value_read t rest v text ok good = rw (string_no_int t ok, ok) (refl, refl, λ h. refl)
value_read t rest v (signature {items} {value} is e) ok good = (refl, (value_read t items value is ok good.1.1).2 e, λ h. absurd cc)

-- ---- fields

pub field_taken : (items : List Item) (f : Field) → field_from items ≡ Ok f → IsHeadedRow (Word (codes ".field") ∷ items) (FieldRow f)
unfolding field_from
field_taken items f e =
    let found = bind_ok (named_from place.Field (start kind.Class) items) _ f e in
    let x = found.0 in
    let n = named_ok place.Field (start kind.Class) items x found.1 in
    let one = bind_ok (member_name_in x.1.0) _ f found.2 in
    let two = bind_ok (within_limit x.1.0) _ f one.2 in
    let three = bind_ok (described_from x.1.1) _ f two.2 in
    let four = bind_ok (value_from three.0.0 three.0.1) _ f three.2 in
    let c = checked_ok is_member_name x.1.0 one.0 one.1 in
    let t = operand_ok type_in x.1.1 three.0 (not_refused (is_signature x.1.1) fault.BadOperand (operand type_in x.1.1) three.0 three.1).1 in
    let parts : items ≡ map Word n.0 ++ Word one.0 ∷ Word t.word ∷ three.0.1 = cc (n.2, c.1, t.parts) in
    let free : is_member_word one.0 ≡ false = rw (← c.1) n.4 in
    let v = value_ok three.0.0 three.0.1 four.0 four.1 in
    let are = (simple_access place.Field member_access_of knows.1 n.1).0 in
    let fit = n.3 (within_ok x.1.0 two.0 two.1, subst AreWords (sym t.parts) (t.short, v.2)) in
    given (λ g. IsHeadedRow (Word (codes ".field") ∷ items) (FieldRow g)) four.2
    (of_words (refl, fit) (field (map Word n.0) three.0.1 t.word parts are c.0 (type_ok t.word three.0.0 t.value) v.0), and_from _ _ (not_from_false _ free) v.1)

descriptor_no_signature : (w : List ℕ) (t : FieldType) → field_of_text w ≡ Ok t → bytes_eq w (codes "signature") ≡ false
unfolding type_in field_of_text array_at element_at
descriptor_no_signature w t d = false_from_ne_true _ (λ e.
    let read : type_in (codes "signature") ≡ Ok t = ap type_in (sym ((bytes_eq-Decides w (codes "signature")).0 e)) ∙ type_read w t d in
    let unread : type_in (codes "signature") ≡ Err fault.BadDescriptor = refl in
    absurd cc)

-- a word before a word is a part
part : (w v : List ℕ) (items : List Item) → begins_with_part (Word w ∷ Word v ∷ items) ≡ true
part w v items = elim (cases_Bool (bytes_eq w (codes "signature"))) [ inl y ↦ rw y refl | inr y ↦ rw y refl ]

field_before : (name w : List ℕ) (rest : List Item) → begins_with_part (Word w ∷ rest) ≡ true → (ws : List (List ℕ)) → is_before_name place.Field (map Word ws ++ Word name ∷ Word w ∷ rest) ≡ true
field_before name w rest last [] = rw (part name w rest) last
field_before name w rest last (u ∷ []) = rw (part u name (Word w ∷ rest)) (part name w rest)
field_before name w rest last (u ∷ v ∷ []) = rw (part u v (Word name ∷ Word w ∷ rest)) (part v name (Word w ∷ rest))
field_before name w rest last (u ∷ v ∷ x ∷ ws) = rw (part u v (map Word (x ∷ ws) ++ Word name ∷ Word w ∷ rest)) (part v x (map Word ws ++ Word name ∷ Word w ∷ rest))

pub field_head : (items before rest : List Item) (a : Access) (name w : List ℕ) (type : FieldType) (value : Option Constant) → items ≡ before ++ Word name ∷ Word w ∷ rest
    → IsMemberAccess before a → IsMemberName name → field_of_text w ≡ Ok type → IsValue rest value → not (is_member_word name) ≡ true → is_typed type value ≡ true → AreWords items
    → field_from items ≡ Ok (record { access = a; name = name; field_type = type; value = value })
unfolding field_from
field_head items before rest a name w type value e is h d v free ok good =
    let other = descriptor_no_signature w type d in
    let part : begins_with_part (Word w ∷ rest) ≡ true = rw other refl in
    let after = words_behind before (Word name ∷ Word w ∷ rest) (subst AreWords e good) in
    let behind = value_read type rest value v ok after.1.1 in
    let at : is_before_name place.Field (Word w ∷ rest) ≡ false = rw (other, behind.0) refl in
    let (ws, parts, (words, _)) = simple_words place.Field member_access_of knows.1 kind.Class is refl in
    let (fit, short) = name_fits before ws name (Word w ∷ rest) e parts good in
    rw (e, parts, named_read place.Field name (Word w ∷ rest) (not-true _ free) at (field_before name w rest part) words fit, h, short, other, type_read w type d, after.1.0, behind.1) refl

-- ---- methods

pub method_taken : (items : List Item) (r : Access × (List ℕ × Signature)) → method_from items ≡ Ok r → IsHeadedRow (Word (codes ".method") ∷ items) (MethodRow r.0 r.1.0 r.1.1)
unfolding method_from
method_taken items r e =
    let found = bind_ok (named_from place.Method (start kind.Class) items) _ r e in
    let x = found.0 in
    let n = named_ok place.Method (start kind.Class) items x found.1 in
    let one = bind_ok (typed_in member_name_in x.1.0) _ r found.2 in
    let two = bind_ok (within_limit x.1.0) _ r one.2 in
    let three = bind_ok (fits_initializer x.0.access one.0) _ r two.2 in
    let four = bind_ok (ended_at x.1.1) _ r three.2 in
    let t = typed_ok member_name_in x.1.0 one.0 one.1 in
    let c = checked_ok is_member_name (before_type x.1.0) one.0.0 t.0 in
    let parts : items ≡ map Word n.0 ++ Word x.1.0 ∷ [] = cc (n.2, ended_ok x.1.1 four.0 four.1) in
    let fit = n.3 (within_ok x.1.0 two.0 two.1, rw (ended_ok x.1.1 four.0 four.1) tt) in
    let starts = not_refused (bytes_eq one.0.0 (codes "<clinit>") && not (may_initialize x.0.access one.0.1)) fault.BadInitializer (Ok tt) three.0 three.1 in
    let are = simple_access place.Method member_access_of knows.2 n.1 in
    let head : fits_head x.0.access one.0.0 one.0.1 ≡ true = and_from _ _ (are.2 refl) (not_from_false _ starts.0) in
    given (λ m. IsHeadedRow (Word (codes ".method") ∷ items) (MethodRow m.0 m.1.0 m.1.1)) four.2 (of_words (refl, fit) (method (map Word n.0) x.1.0 parts c.1 are.0 c.0 t.1), head)

pub method_head : (items before : List Item) (w : List ℕ) (a : Access) (name : List ℕ) (type : Signature) → items ≡ before ++ Word w ∷ [] → before_type w ≡ name
    → IsMemberAccess before a → IsMemberName name → method_of_text (type_part w) ≡ Ok type → fits_head a name type ≡ true → AreWords items → method_from items ≡ Ok (a, (name, type))
unfolding method_from
method_head items before w a name type e at is h m fits_all good =
    let p = and_parts (not (a.is_abstract && a.is_static)) (not (bytes_eq name (codes "<clinit>") && not (may_initialize a type))) fits_all in
    let bare = member_lacks 40 refl refl refl name h in
    let name_read : member_name_in (before_type w) ≡ Ok name = rw (at, h) refl in
    let typed = typed_read member_name_in w name type name_read m in
    let spelled : w ≡ name ++ method_spelling type = cc ((signature_found w type m).0, at) in
    let parenthesis : lacks 40 w ≡ false = ap (lacks 40) spelled ∙ list_all-append _ name (method_spelling type) ∙ rw bare refl in
    let no_word : is_member_word w ≡ false = rw (access_lacks w parenthesis) refl in
    let (ws, parts, (words, none_wrong)) = simple_words place.Method member_access_of knows.2 kind.Class is p.0 in
    let (fit, short) = name_fits before ws w [] e parts good in
    rw (e, parts, named_read place.Method w [] no_word refl (word_behind w) words fit, typed, short, not-true _ p.1) refl
