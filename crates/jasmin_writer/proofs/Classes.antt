-- The canonical spelling of a class text is a file that spells it.
use Rattle.std.proofs.Common.{◌≡◌, ℕ, ◌-◌, Bool, true, not, ◌&&◌, List, [], ◌∷◌, ◌++◌, map, length, Option, Some, None, cond, refl, sym, subst, append_assoc, append-nil, false}
use Rattle.std.specs.Prelude.{nat_le, codes}
use Rattle.std.specs.List.{list_all, flat_map}
use Rattle.std.proofs.lemmas.Bool.{and_parts, not-true}
use Rattle.std.specs.Str.{bytes_eq}
use Rattle.descriptors.specs.ClassName.{is_class_name}
use Rattle.descriptors.specs.Spelling.{method_spelling}
use Rattle.jasmin_words.specs.Lexing.{fits}
use Rattle.jasmin_words.specs.Names.{is_member_name}
use Rattle.jasmin_writer.specs.Keywords.{spelled}
use Rattle.jasmin_text.specs.Lines.{lines_of}
use Rattle.jasmin_writer.specs.Canonical.{class_line, super_line, implements_line, field_line, method_line, optional_code_lines, method_lines, class_lines, canonical_text}
use Rattle.jasmin_text.specs.Spellable.{is_class_word, is_method_type, is_optional_code, may_initialize, is_code, is_field, is_method, is_taken, is_spellable, IsSpellable}
use Rattle.jasmin_text.specs.Grammar.{Row, ClassRow, SuperRow, ImplementsRow, FieldRow, MethodRow, EndRow, Body, empty_body, IsBody, IsCodeOrNone, Members, IsHeader, AreMembers, IsClass, Spells, none, super, implements, field, method}
use Rattle.jasmin_writer.specs.declared.keyword.Keyword.TheVariants as keyword
use Rattle.jasmin_text.specs.declared.class_text.Code.{Code}
use Rattle.jasmin_text.specs.declared.class_text.Field.{Field}
use Rattle.jasmin_text.specs.declared.class_text.Method.{Method}
use Rattle.jasmin_text.specs.declared.class_text.ClassParts.{ClassParts}
use Rattle.jasmin_text.proofs.Conditions.{six, nine}
use Rattle.jasmin_writer.proofs.Rows.{super_row, implements_row, end_row}
use Rattle.jasmin_writer.proofs.AccessLines.{class_row, field_row, method_row}
use Rattle.jasmin_writer.proofs.Lines.{AreLines, no_lines, one_line, line_before, lines_joined, each_row, all_lines, cut_lines}
use Rattle.jasmin_writer.proofs.Places.{good_code}
use Rattle.jasmin_writer.proofs.Bodies.{code_rows, code_body, code_are, code_is_body, code_is_code}

-- ---- methods

abbrev optional_rows : Option Code → List Row
optional_rows None = []
optional_rows (Some c) = code_rows c

abbrev optional_body : Option Code → Body
optional_body None = empty_body
optional_body (Some c) = code_body c

code_good : (b : Bool) (c : Code) → is_optional_code b (Some c) ≡ true → is_code c ≡ true
code_good b c h = (and_parts (not b) (is_code c) h).1

optional_are : (b : Bool) (o : Option Code) → is_optional_code b o ≡ true → AreLines (optional_code_lines o) (optional_rows o)
optional_are b None h = no_lines
optional_are b (Some c) h = code_are c (good_code c (code_good b c h))

optional_is_body : (b : Bool) (o : Option Code) → is_optional_code b o ≡ true → IsBody empty_body (optional_rows o) (optional_body o)
optional_is_body b None h = none
optional_is_body b (Some c) h = code_is_body c (good_code c (code_good b c h))

optional_is_code : (b : Bool) (o : Option Code) → is_optional_code b o ≡ true → IsCodeOrNone (optional_body o) o
optional_is_code b None h = record { labels = refl; catches = refl; instructions = refl }
optional_is_code b (Some c) h = code_is_code c (good_code c (code_good b c h))

abbrev method_rows : Method → List Row
method_rows m = MethodRow m.access m.name m.method_type ∷ (optional_rows m.code ++ EndRow ∷ [])

-- what the conditions on a method say
record IsGoodMethod (m : Method) : Type 0 where
  name : is_member_name m.name ≡ true
  type : is_method_type m.method_type ≡ true
  fit : fits (m.name ++ method_spelling m.method_type) ≡ true
  code : is_optional_code m.access.is_abstract m.code ≡ true

good_method : (m : Method) → is_method m ≡ true → IsGoodMethod m
unfolding is_method
good_method m h =
    let p = six (is_member_name m.name) (is_method_type m.method_type) (fits (m.name ++ method_spelling m.method_type)) (not (m.access.is_abstract && m.access.is_static))
    (cond (bytes_eq m.name (codes "<clinit>")) (may_initialize m.access m.method_type) true) (is_optional_code m.access.is_abstract m.code) h in
    record { name = p.0; type = p.1; fit = p.2; code = p.5 }

method_are : (m : Method) → is_method m ≡ true → AreLines (method_lines m) (method_rows m)
unfolding method_lines
method_are m h =
    let good = good_method m h in
    line_before (method_line m) (optional_code_lines m.code ++ spelled keyword.EndMethod ∷ []) (MethodRow m.access m.name m.method_type ∷ []) (optional_rows m.code ++ EndRow ∷ []) (method_row m good.name good.type good.fit)
    (lines_joined (optional_code_lines m.code) (spelled keyword.EndMethod ∷ []) (optional_rows m.code) (EndRow ∷ []) (optional_are m.access.is_abstract m.code good.code) (one_line (spelled keyword.EndMethod) EndRow end_row))

methods_are : (ms : List Method) (m : Members) → list_all is_method ms ≡ true → AreMembers m (flat_map method_rows ms) (record m { methods = m.methods ++ ms })
methods_are [] m h = subst (λ (l : List Method). AreMembers m [] (record m { methods = l })) (sym (append-nil m.methods)) none
methods_are (x ∷ ms) m h =
    let p = and_parts (is_method x) (list_all is_method ms) h in
    let good = good_method x p.0 in
    method (optional_rows x.code) (flat_map method_rows ms) (optional_body x.code) x.code (append_assoc (optional_rows x.code) (EndRow ∷ []) (flat_map method_rows ms))
    (optional_is_body x.access.is_abstract x.code good.code) (optional_is_code x.access.is_abstract x.code good.code)
    (subst (λ (l : List Method). AreMembers (record m { methods = m.methods ++ x ∷ [] }) (flat_map method_rows ms) (record m { methods = l })) (append_assoc m.methods (x ∷ []) ms) (methods_are ms (record m { methods = m.methods ++ x ∷ [] }) p.1))

-- ---- fields and interfaces

fields_are : (fs : List Field) (rows : List Row) (m n : Members) → AreMembers (record m { fields = m.fields ++ fs }) rows n → AreMembers m (map FieldRow fs ++ rows) n
fields_are [] rows m n h = subst (λ (l : List Field). AreMembers (record m { fields = l }) rows n) (append-nil m.fields) h
fields_are (f ∷ fs) rows m n h = field (fields_are fs rows (record m { fields = m.fields ++ f ∷ [] }) n (subst (λ (l : List Field). AreMembers (record m { fields = l }) rows n) (sym (append_assoc m.fields (f ∷ []) fs)) h))

interfaces_are : (names : List (List ℕ)) (rows : List Row) (m n : Members) → IsHeader m → AreMembers (record m { interfaces = m.interfaces ++ names }) rows n → AreMembers m (map ImplementsRow names ++ rows) n
interfaces_are [] rows m n head h = subst (λ (l : List (List ℕ)). AreMembers (record m { interfaces = l }) rows n) (append-nil m.interfaces) h
interfaces_are (name ∷ names) rows m n head h =
    implements head (interfaces_are names rows (record m { interfaces = m.interfaces ++ name ∷ [] }) n head (subst (λ (l : List (List ℕ)). AreMembers (record m { interfaces = l }) rows n) (sym (append_assoc m.interfaces (name ∷ []) names)) h))

-- ---- classes

abbrev header_rows : ClassParts → List Row
header_rows c = SuperRow c.superclass ∷ map ImplementsRow c.interfaces

abbrev member_rows : ClassParts → List Row
member_rows c = map FieldRow c.fields ++ flat_map method_rows c.methods

abbrev class_rows : ClassParts → List Row
class_rows c = ClassRow c.kind c.access c.name ∷ (header_rows c ++ member_rows c)

-- what the conditions on a class say
record IsGoodClass (c : ClassParts) : Type 0 where
  name : is_class_word c.name ≡ true
  free : is_taken c.kind c.name ≡ false
  superclass : is_class_word c.superclass ≡ true
  interfaces : list_all is_class_word c.interfaces ≡ true
  fields : list_all is_field c.fields ≡ true
  methods : list_all is_method c.methods ≡ true

good_class : (c : ClassParts) → IsSpellable c → IsGoodClass c
unfolding is_spellable
good_class c h =
    let p = nine (is_class_word c.name) (not (is_taken c.kind c.name)) (is_class_word c.superclass) (nat_le (length c.interfaces) 255) (list_all is_class_word c.interfaces)
    (nat_le (length c.fields) 1024) (nat_le (length c.methods) (1024 - length c.fields)) (list_all is_field c.fields) (list_all is_method c.methods) h in
    record { name = p.0; free = not-true (is_taken c.kind c.name) p.1; superclass = p.2; interfaces = p.4; fields = p.7; methods = p.8 }

class_are : (c : ClassParts) → IsSpellable c → AreLines (class_lines c) (class_rows c)
unfolding class_lines
class_are c h =
    let good = good_class c h in
    let name = and_parts (is_class_name c.name) (fits c.name) good.name in
    let superclass = and_parts (is_class_name c.superclass) (fits c.superclass) good.superclass in
    line_before (class_line c.kind c.access c.name) _ (ClassRow c.kind c.access c.name ∷ []) _ (class_row c.kind c.access c.name name.0 name.1 good.free) (
    line_before (super_line c.superclass) _ (SuperRow c.superclass ∷ []) _ (super_row c.superclass superclass.0 superclass.1) (
    subst (λ (ls : List (List ℕ)). AreLines ls (map ImplementsRow c.interfaces ++ member_rows c)) (sym (append_assoc (map implements_line c.interfaces) (map field_line c.fields) (flat_map method_lines c.methods)))
    (lines_joined (map implements_line c.interfaces) (map field_line c.fields ++ flat_map method_lines c.methods) (map ImplementsRow c.interfaces) (member_rows c)
    (each_row implements_line ImplementsRow is_class_word c.interfaces (λ n e. let p = and_parts (is_class_name n) (fits n) e in implements_row n p.0 p.1) good.interfaces)
    (lines_joined (map field_line c.fields) (flat_map method_lines c.methods) (map FieldRow c.fields) (flat_map method_rows c.methods)
    (each_row field_line FieldRow is_field c.fields field_row good.fields)
    (all_lines method_lines method_rows is_method c.methods method_are good.methods)))))

is_class : (c : ClassParts) → IsSpellable c → IsClass (class_rows c) c
is_class c h =
    let good = good_class c h in
    let before : Members = record { superclass = Some c.superclass; interfaces = c.interfaces; fields = []; methods = [] } in
    record {
      members = header_rows c ++ member_rows c;
      given = Some c.superclass;
      parts = refl;
      are_members = super (refl, refl) refl (interfaces_are c.interfaces (member_rows c) (record before { interfaces = [] }) _ (refl, refl)
          (fields_are c.fields (flat_map method_rows c.methods) before _ (methods_are c.methods (record before { fields = c.fields }) good.methods)));
      superclass = refl;
      spellable = h;
    }

pub lines_again : (c : ClassParts) → IsSpellable c → lines_of (canonical_text c) ≡ class_lines c
lines_again c h = cut_lines (class_lines c) (class_are c h).inner

pub spelled_again : (c : ClassParts) → IsSpellable c → Spells (lines_of (canonical_text c)) c
spelled_again c h =
    subst (λ (lines : List (List ℕ)). Spells lines c) (sym (lines_again c h)) (record { rows = class_rows c; are_rows = (class_are c h).are_rows; is_class = is_class c h })
