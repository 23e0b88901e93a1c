-- Canonical lines with access words say their rows.
use Rattle.std.proofs.Common.{◌≡◌, ℕ, Bool, true, false, not, ◌&&◌, eqb, List, [], ◌∷◌, ◌++◌, Option, Some, None, refl, sym, subst, append_assoc}
use Rattle.std.specs.Prelude.{codes, nat_le}
use Rattle.std.specs.List.{list_all}
use Rattle.std.specs.Fmt.{signed_decimal}
use Rattle.std.specs.Str.{is_utf8, bytes_eq}
use Rattle.std.proofs.lemmas.Bool.{and_parts, leb-true, not-true, false_from_ne_true}
use Rattle.std.proofs.lemmas.Slice.Eq.{bytes_eq-Decides}
use Rattle.descriptors.specs.ClassName.{is_class_name}
use Rattle.descriptors.specs.Spelling.{field_spelling, method_spelling}
use Rattle.descriptors.proofs.FieldLaws.{field_only}
use Rattle.descriptors.specs.declared.field.FieldType.{FieldType}
use Rattle.jasmin_words.specs.Lexing.{Item, Word, Equals, Text, fits}
use Rattle.jasmin_words.specs.Names.{is_name_byte, is_member_name}
use Rattle.sequence.specs.Parts.{is_some_byte}
use Rattle.jasmin_words.specs.Spelling.{Ends, is_word_byte, IsWord}
use Rattle.jasmin_words.proofs.Numbers.{written_again}
use Rattle.jasmin_writer.specs.Keywords.{spelled}
use Rattle.jasmin_text.specs.Tables.{access_of, access_words, member_access_of, is_member_word}
use Rattle.jasmin_writer.specs.Canonical.{word_if, visibility_text, binding_text, storage_text, access_text, class_line, constant_text, value_text, field_end, field_line, method_line}
use Rattle.jasmin_text.specs.Spellable.{is_taken, is_int, is_string, is_element_type, is_type, is_field_type, is_method_type, is_int_type, is_string_type, is_value_of, is_field}
use Rattle.jasmin_text.specs.Grammar.{no_access, with_word, is_taken_in, IsAccessBy, IsAccess, IsClassAccess, IsValue, ClassRow, FieldRow, MethodRow, none, more, int, text, class, interface, field, method}
use Rattle.jasmin_text.specs.declared.access.Access.{Access}
use Rattle.jasmin_text.specs.declared.table.AccessWord.{AccessWord}
use Rattle.jasmin_text.specs.declared.table.AccessWord.TheVariants as word
use Rattle.jasmin_writer.specs.declared.keyword.Keyword.{Keyword}
use Rattle.jasmin_writer.specs.declared.keyword.Keyword.TheVariants as keyword
use Rattle.jasmin_text.specs.declared.class_text.ClassKind.{ClassKind}
use Rattle.jasmin_text.specs.declared.class_text.ClassKind.TheVariants as kind
use Rattle.jasmin_text.specs.declared.class_text.Constant.{Constant}
use Rattle.jasmin_text.specs.declared.class_text.Constant.TheVariants as constant
use Rattle.jasmin_text.specs.declared.class_text.Field.{Field}
use Rattle.jasmin_text.specs.declared.class_text.Method.{Method}
use Rattle.jasmin_text.proofs.Conditions.{five, nine}
use Rattle.jasmin_text.proofs.Integers.{int_of}
use Rattle.jasmin_text.proofs.Tables.{access_not_interface}
use Rattle.jasmin_writer.proofs.Written.{IsWritten, IsLine, said, last_word, last_text, ends, blank, equals, word as a_word}
use Rattle.jasmin_text.proofs.WordBytes.{IsWordText, joined_words, member_name_word, method_word, one_of}
use Rattle.jasmin_writer.proofs.Rows.{IsFixed, class_is_word}
use Rattle.jasmin_text.proofs.MemberWords.{member_lacks, signature_only}
use Rattle.jasmin_writer.proofs.Operands.{int_fixed, descriptor_is_word, is_type_of, class_first, is_signature}

-- ---- access words

abbrev word_items : Bool → List ℕ → List Item
word_items true w = Word w ∷ []
word_items false w = []

abbrev access_with : Bool → Bool → Bool → Bool → Bool → Bool → Bool → Bool → Bool → Access
access_with a b c d e f g h i = record { public = a; private = b; protected = c; is_static = d; is_final = e; synchronized = f; volatile = g; transient = h; is_abstract = i }

-- the words of an access before others
abbrev items_before : Access → List Item → List Item
items_before a items =
    word_items a.public (codes "public") ++ (word_items a.private (codes "private") ++ (word_items a.protected (codes "protected")
    ++ (word_items a.is_static (codes "static") ++ (word_items a.is_final (codes "final") ++ (word_items a.synchronized (codes "synchronized")
    ++ (word_items a.volatile (codes "volatile") ++ (word_items a.transient (codes "transient") ++ (word_items a.is_abstract (codes "abstract") ++ items))))))))

access_items : Access → List Item
access_items a = items_before a []

items_joined : (a : Access) (items : List Item) → access_items a ++ items ≡ items_before a items
unfolding access_items
items_joined a items = simp append_assoc

one_word : (p : Bool) (w : List ℕ) (k : AccessWord) (f : Bool → Access) (rest : List Item) (a : Access) → access_of w ≡ Some k → is_taken_in k ≡ true → f true ≡ with_word k (f false) → IsAccessBy access_of (f p) rest a → IsAccessBy access_of (f false) (word_items p w ++ rest) a
one_word true w k f rest a e t u h = more e t (subst (λ (b : Access). IsAccessBy access_of b rest a) u h)
one_word false w k f rest a e t u h = h

access_is : (a : Access) → IsAccess (access_items a) a
unfolding access_items access_of access_words
access_is a =
    one_word a.public (codes "public") word.Public (λ p. access_with p false false false false false false false false) _ a refl refl refl (
    one_word a.private (codes "private") word.Private (λ p. access_with a.public p false false false false false false false) _ a refl refl refl (
    one_word a.protected (codes "protected") word.Protected (λ p. access_with a.public a.private p false false false false false false) _ a refl refl refl (
    one_word a.is_static (codes "static") word.Static (λ p. access_with a.public a.private a.protected p false false false false false) _ a refl refl refl (
    one_word a.is_final (codes "final") word.Final (λ p. access_with a.public a.private a.protected a.is_static p false false false false) _ a refl refl refl (
    one_word a.synchronized (codes "synchronized") word.Synchronized (λ p. access_with a.public a.private a.protected a.is_static a.is_final p false false false) _ a refl refl refl (
    one_word a.volatile (codes "volatile") word.Volatile (λ p. access_with a.public a.private a.protected a.is_static a.is_final a.synchronized p false false) _ a refl refl refl (
    one_word a.transient (codes "transient") word.Transient (λ p. access_with a.public a.private a.protected a.is_static a.is_final a.synchronized a.volatile p false) _ a refl refl refl (
    one_word a.is_abstract (codes "abstract") word.Abstract (λ p. access_with a.public a.private a.protected a.is_static a.is_final a.synchronized a.volatile a.transient p) _ a refl refl refl none))))))))

class_access : (a b : Access) (items : List Item) → IsAccessBy access_of a items b → IsClassAccess kind.Class a items kind.Class b
class_access a b items none = none
class_access a b items (more {k} {rest} e t h) = more e t (class_access (with_word k a) b rest h)

member_word : (w : List ℕ) (a : AccessWord) → access_of w ≡ Some a → member_access_of w ≡ Some a
unfolding member_access_of
member_word w a e = rw (access_not_interface w a e) e

member_access : (a b : Access) (items : List Item) → IsAccessBy access_of a items b → IsAccessBy member_access_of a items b
member_access a b items none = none
member_access a b items (more {w} {k} {rest} e t h) = more (member_word w k e) t (member_access (with_word k a) b rest h)

-- ---- access words, as they are written

-- what follows a word
record IsTail (rest : List ℕ) (items : List Item) : Type 0 where
  parts : Ends rest
  written : IsWritten false rest items

text_word : (p : Bool) (k : Keyword) (w rest : List ℕ) (items : List Item) → spelled k ≡ 32 ∷ w → IsFixed w → IsTail rest items → IsTail (word_if p k ++ rest) (word_items p w ++ items)
text_word true k w rest items e h t = subst (λ (z : List ℕ). IsTail (z ++ rest) (Word w ∷ items)) (sym e) (record { parts = refl; written = blank refl (a_word w rest refl h.0 h.1 t.parts t.written) })
text_word false k w rest items e h t = t

abbrev text_before : Access → List ℕ → List ℕ
text_before a rest =
    word_if a.public keyword.Public ++ (word_if a.private keyword.Private ++ (word_if a.protected keyword.Protected
    ++ (word_if a.is_static keyword.Static ++ (word_if a.is_final keyword.Final ++ (word_if a.synchronized keyword.Synchronized
    ++ (word_if a.volatile keyword.Volatile ++ (word_if a.transient keyword.Transient ++ (word_if a.is_abstract keyword.Abstract ++ rest))))))))

text_joined : (a : Access) (rest : List ℕ) → access_text a ++ rest ≡ text_before a rest
unfolding access_text visibility_text binding_text storage_text
text_joined a rest = simp append_assoc

words_before : (a : Access) (rest : List ℕ) (items : List Item) → IsTail rest items → IsTail (text_before a rest) (items_before a items)
unfolding spelled
words_before a rest items t =
    text_word a.public keyword.Public (codes "public") _ _ refl ((refl, refl), refl) (
    text_word a.private keyword.Private (codes "private") _ _ refl ((refl, refl), refl) (
    text_word a.protected keyword.Protected (codes "protected") _ _ refl ((refl, refl), refl) (
    text_word a.is_static keyword.Static (codes "static") _ _ refl ((refl, refl), refl) (
    text_word a.is_final keyword.Final (codes "final") _ _ refl ((refl, refl), refl) (
    text_word a.synchronized keyword.Synchronized (codes "synchronized") _ _ refl ((refl, refl), refl) (
    text_word a.volatile keyword.Volatile (codes "volatile") _ _ refl ((refl, refl), refl) (
    text_word a.transient keyword.Transient (codes "transient") _ _ refl ((refl, refl), refl) (
    text_word a.is_abstract keyword.Abstract (codes "abstract") _ _ refl ((refl, refl), refl) t))))))))

access_tail : (a : Access) (rest : List ℕ) (items : List Item) → IsTail rest items → IsTail (access_text a ++ rest) (access_items a ++ items)
access_tail a rest items t =
    subst (λ (z : List ℕ). IsTail z (access_items a ++ items)) (sym (text_joined a rest))
    (subst (λ (z : List Item). IsTail (text_before a rest) z) (sym (items_joined a items)) (words_before a rest items t))

-- ---- classes

class_tail : (a : Access) (name : List ℕ) → is_class_name name ≡ true → fits name ≡ true → IsTail (access_text a ++ 32 ∷ name) (access_items a ++ Word name ∷ [])
class_tail a name h f = access_tail a (32 ∷ name) (Word name ∷ []) (record { parts = refl; written = blank refl (last_word true name (class_is_word true name h) f) })

not_interface : (name : List ℕ) → is_taken kind.Class name ≡ false → bytes_eq name (codes "interface") ≡ false
not_interface name h = false_from_ne_true (bytes_eq name (codes "interface")) (λ e. let taken : is_taken kind.Class name ≡ true = rw e refl in cc)

pub class_row : (k : ClassKind) (a : Access) (name : List ℕ) → is_class_name name ≡ true → fits name ≡ true → is_taken k name ≡ false → IsLine (class_line k a name) (ClassRow k a name ∷ [])
unfolding class_line spelled
class_row kind.Class a name h f free =
    let t = class_tail a name h f in
    said (codes ".class" ++ (access_text a ++ 32 ∷ name)) (Word (codes ".class") ∷ (access_items a ++ Word name ∷ [])) (ClassRow kind.Class a name ∷ [])
    (a_word (codes ".class") (access_text a ++ 32 ∷ name) refl (refl, refl) refl t.parts t.written)
    (class (access_items a) refl (class_access no_access a (access_items a) (access_is a)) h (not_interface name free))
class_row kind.Interface a name h f free =
    let t = class_tail a name h f in
    said (codes ".interface" ++ (access_text a ++ 32 ∷ name)) (Word (codes ".interface") ∷ (access_items a ++ Word name ∷ [])) (ClassRow kind.Interface a name ∷ [])
    (a_word (codes ".interface") (access_text a ++ 32 ∷ name) refl (refl, refl) refl t.parts t.written)
    (interface (access_items a) refl (access_is a) h)

-- ---- fields

name_start : (b : ℕ) → is_name_byte b ≡ true → eqb b 59 ≡ false
name_start b h = not-true (eqb b 59) (nine (is_word_byte b) (not (eqb b 46)) (not (eqb b 59)) (not (eqb b 91)) (not (eqb b 47)) (not (eqb b 40)) (not (eqb b 41)) (not (eqb b 60)) (not (eqb b 62)) h).2

plain_name : (fresh : Bool) (name : List ℕ) → (is_some_byte name && list_all is_name_byte name) ≡ true → IsWordText name → IsWord fresh name
plain_name fresh [] h w = absurd cc
plain_name fresh (b ∷ bs) h w = (rw (name_start b (and_parts (is_name_byte b) (list_all is_name_byte bs) h).0) refl, w)

pub member_is_word : (fresh : Bool) (name : List ℕ) → is_member_name name ≡ true → IsWord fresh name
unfolding is_member_name
member_is_word fresh name h =
    one_of (bytes_eq name (codes "<init>")) (bytes_eq name (codes "<clinit>")) (is_some_byte name && list_all is_name_byte name) (IsWord fresh name) h
    (λ e. subst (IsWord fresh) (sym ((bytes_eq-Decides name (codes "<init>")).0 e)) (refl, refl))
    (λ e. subst (IsWord fresh) (sym ((bytes_eq-Decides name (codes "<clinit>")).0 e)) (refl, refl))
    (λ e. plain_name fresh name e (member_name_word name h))

abbrev value_items : Option Constant → List Item
value_items None = []
value_items (Some (constant.Int n)) = Equals ∷ Word (signed_decimal n) ∷ []
value_items (Some (constant.Text t)) = Equals ∷ Text t ∷ []

value_tail : (t : FieldType) (v : Option Constant) → is_value_of t v ≡ true → IsTail (value_text v) (value_items v)
unfolding spelled constant_text
value_tail t None h = record { parts = tt; written = ends }
value_tail t (Some (constant.Int n)) h =
    let i = int_of n (and_parts (is_int_type t) (is_int n) h).1 in
    record { parts = refl; written = blank refl (equals (blank refl (last_word true (signed_decimal n) (int_fixed n i).0 (int_fixed n i).1))) }
value_tail t (Some (constant.Text s)) h =
    let p = and_parts (is_utf8 s) (fits s) (and_parts (is_string_type t) (is_string s) h).1 in
    record { parts = refl; written = blank refl (equals (blank refl (last_text true s p.0 p.1))) }

value_is : (t : FieldType) (v : Option Constant) → is_value_of t v ≡ true → IsValue (value_items v) v
value_is t None h = none
value_is t (Some (constant.Int n)) h = int (written_again n (int_of n (and_parts (is_int_type t) (is_int n) h).1))
value_is t (Some (constant.Text s)) h = text

field_spaced : (f : Field) → field_line f ≡ codes ".field" ++ (access_text f.access ++ 32 ∷ (f.name ++ 32 ∷ (field_spelling f.field_type ++ value_text f.value)))
unfolding field_line field_end spelled
field_spaced f = simp append_assoc

pub field_row : (f : Field) → is_field f ≡ true → IsLine (field_line f) (FieldRow f ∷ [])
unfolding is_field is_field_type
field_row f h =
    let n : List ℕ = f.name in
    let d : List ℕ = field_spelling f.field_type in
    let v : List ℕ = value_text f.value in
    let p = five (is_member_name n) (fits n) (not (is_member_word n)) (is_field_type f.field_type) (is_value_of f.field_type f.value) h in
    let q = and_parts (is_type f.field_type) (fits d) p.3 in
    let r = and_parts (nat_le f.field_type.dimensions 255) (is_element_type f.field_type.element) q.0 in
    let e = value_tail f.field_type f.value p.4 in
    let t = access_tail f.access (32 ∷ (n ++ 32 ∷ (d ++ v))) (Word n ∷ Word d ∷ value_items f.value)
    (record { parts = refl; written = blank refl (a_word n (32 ∷ (d ++ v)) refl (member_is_word true n p.0) p.1 refl (blank refl (a_word d v refl (descriptor_is_word true f.field_type r.1) q.1 e.parts e.written))) }) in
    subst (λ (line : List ℕ). IsLine line (FieldRow f ∷ [])) (sym (field_spaced f))
    (said (codes ".field" ++ (access_text f.access ++ 32 ∷ (n ++ 32 ∷ (d ++ v)))) (Word (codes ".field") ∷ (access_items f.access ++ Word n ∷ Word d ∷ value_items f.value)) (FieldRow f ∷ [])
    (a_word (codes ".field") (access_text f.access ++ 32 ∷ (n ++ 32 ∷ (d ++ v))) refl (refl, refl) refl t.parts t.written)
    (field (access_items f.access) (value_items f.value) d refl (member_access no_access f.access (access_items f.access) (access_is f.access)) p.0 (field_only f.field_type (is_type_of f.field_type (leb-true f.field_type.dimensions 255 r.0) r.1)) (value_is f.field_type f.value p.4)))

-- ---- methods

method_spaced : (m : Method) → method_line m ≡ codes ".method" ++ (access_text m.access ++ 32 ∷ (m.name ++ method_spelling m.method_type))
unfolding method_line spelled
method_spaced m = simp append_assoc

pub method_row : (m : Method) → is_member_name m.name ≡ true → is_method_type m.method_type ≡ true → fits (m.name ++ method_spelling m.method_type) ≡ true → IsLine (method_line m) (MethodRow m.access m.name m.method_type ∷ [])
method_row m h k f =
    let w : List ℕ = m.name ++ method_spelling m.method_type in
    let s = signature_only m.name m.method_type (member_lacks 40 refl refl refl m.name h) (is_signature m.method_type k) in
    let text = joined_words m.name (method_spelling m.method_type) (member_name_word m.name h) (method_word m.method_type k) in
    let t = access_tail m.access (32 ∷ w) (Word w ∷ []) (record { parts = refl; written = blank refl (last_word true w (class_first true m.name (method_spelling m.method_type) (member_is_word true m.name h) text) f) }) in
    subst (λ (line : List ℕ). IsLine line (MethodRow m.access m.name m.method_type ∷ [])) (sym (method_spaced m))
    (said (codes ".method" ++ (access_text m.access ++ 32 ∷ w)) (Word (codes ".method") ∷ (access_items m.access ++ Word w ∷ [])) (MethodRow m.access m.name m.method_type ∷ [])
    (a_word (codes ".method") (access_text m.access ++ 32 ∷ w) refl (refl, refl) refl t.parts t.written)
    (method (access_items m.access) w refl s.0 (member_access no_access m.access (access_items m.access) (access_is m.access)) h s.1))
