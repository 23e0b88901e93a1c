-- Canonical lines of instructions with operands say their rows.
use Rattle.std.proofs.Common.{◌≡◌, ℕ, zero, suc, ◌≤◌, Bool, true, false, ◌&&◌, eqb, List, [], ◌∷◌, ◌++◌, length, replicate, Option, Some, None, refl, arith}
use Rattle.std.specs.Prelude.{ℤ, pos, negsuc, nat_le, FitsSigned, IfSome}
use Rattle.std.specs.List.{list_all, AllByRecursion}
use Rattle.std.specs.Int.{w32}
use Rattle.std.specs.Fmt.{decimal, signed_decimal}
use Rattle.std.specs.Str.{is_utf8}
use Rattle.std.proofs.lemmas.Bool.{and_parts, le-leb, leb-true}
use Rattle.std.proofs.lemmas.Fmt.{length-decimal-le}
use Rattle.descriptors.specs.ClassName.{is_class_name}
use Rattle.descriptors.specs.Signature.{Signature}
use Rattle.descriptors.specs.Spelling.{element_spelling, field_spelling, method_spelling, IsElementType, IsFieldType, IsMethodType}
use Rattle.descriptors.specs.declared.base.BaseType.{BaseType}
use Rattle.descriptors.specs.declared.base.BaseType.TheVariants as base
use Rattle.descriptors.specs.declared.field.ElementType.{ElementType}
use Rattle.descriptors.specs.declared.field.ElementType.TheVariants as element
use Rattle.descriptors.specs.declared.field.FieldType.{FieldType}
use Rattle.descriptors.proofs.FieldLaws.{field_only}
use Rattle.jasmin_words.specs.Lexing.{Word, Text, fits}
use Rattle.jasmin_words.specs.Names.{is_member_name}
use Rattle.jasmin_words.specs.Quoting.{quoted}
use Rattle.jasmin_words.specs.Spelling.{IsWord}
use Rattle.jasmin_words.proofs.Numbers.{written_again}
use Rattle.jasmin_text.specs.Forms.{form_at, forms}
use Rattle.jasmin_writer.specs.CanonicalWords.{word_of}
use Rattle.jasmin_text.specs.BaseWords.{base_word}
use Rattle.jasmin_writer.specs.Canonical.{constant_text, field_text, method_text}
use Rattle.jasmin_text.specs.Spellable.{is_element_type, is_type, is_result_type, is_method_type}
use Rattle.jasmin_text.specs.Grammar.{InstructionRow, int, text, field as op_field, call as op_call, new, new_array, class as op_class, array, simple, operation}
use Rattle.jasmin_text.specs.declared.class_text.Constant.TheVariants as constant
use Rattle.jasmin_text.specs.declared.form.Form.TheVariants as form
use Rattle.jasmin_text.specs.declared.instruction.Instruction.TheVariants as instruction
use Rattle.jasmin_text.specs.declared.instruction.FieldAccess.{FieldAccess}
use Rattle.jasmin_text.specs.declared.instruction.FieldAccess.TheVariants as access
use Rattle.jasmin_text.specs.declared.instruction.FieldReference.{FieldReference}
use Rattle.jasmin_text.specs.declared.instruction.Call.{Call}
use Rattle.jasmin_text.specs.declared.instruction.Call.TheVariants as a_call
use Rattle.jasmin_text.specs.declared.instruction.MethodReference.{MethodReference}
use Rattle.jasmin_text.specs.declared.instruction.TypeUse.{TypeUse}
use Rattle.jasmin_text.specs.declared.instruction.TypeUse.TheVariants as type_use
use Rattle.jasmin_text.specs.declared.instruction.ReferenceType.TheVariants as reference
use Rattle.jasmin_text.proofs.MemberWords.{member_only, call_only}
use Rattle.jasmin_writer.proofs.FormWords.{field_again, call_again, types_again}
use Rattle.jasmin_text.proofs.WordBytes as bytes
use Rattle.jasmin_text.proofs.WordBytes.{IsWordText, joined_words}
use Rattle.jasmin_writer.proofs.Written.{IsLine, said, last_text}
use Rattle.jasmin_writer.proofs.Rows.{IsFixed, word_before, two_words, three_words, class_is_word, number_is_word}

-- ---- ints and strings

pub int_fixed : (z : ℤ) → FitsSigned w32 z → IsFixed (signed_decimal z)
int_fixed (pos n) h =
    let short = length-decimal-le 10 n (omega arith) (omega (arith, h.sfits)) (omega (arith, h.sfits)) in
    (number_is_word true n (omega (arith, h.sfits)), le-leb (length (decimal n)) 65535 (omega arith))
int_fixed (negsuc n) h =
    let short = length-decimal-le 10 (suc n) (omega arith) (omega (arith, h.sfits)) (omega (arith, h.sfits)) in
    ((refl, bytes.decimal_word (suc n) (omega (arith, h.sfits))), le-leb (length (45 ∷ decimal (suc n))) 65535 (omega arith))

pub int_row : (z : ℤ) → FitsSigned w32 z → IsLine (word_of form.Constant ++ 32 ∷ constant_text (constant.Int z)) (InstructionRow (instruction.Constant (constant.Int z)) ∷ [])
unfolding word_of constant_text form_at forms
int_row z h = two_words (word_of form.Constant) (signed_decimal z) _ ((refl, refl), refl) (int_fixed z h) (operation (simple {f = form.Constant} refl (int (written_again z h))))

pub text_row : (t : List ℕ) → is_utf8 t ≡ true → fits t ≡ true → IsLine (word_of form.Constant ++ 32 ∷ constant_text (constant.Text t)) (InstructionRow (instruction.Constant (constant.Text t)) ∷ [])
unfolding word_of constant_text form_at forms
text_row t u f =
    said (word_of form.Constant ++ 32 ∷ quoted t) (Word (word_of form.Constant) ∷ Text t ∷ []) (InstructionRow (instruction.Constant (constant.Text t)) ∷ [])
    (word_before (word_of form.Constant) (quoted t) _ ((refl, refl), refl) (last_text true t u f))
    (operation (simple {f = form.Constant} refl text))

-- ---- classes and arrays

pub new_row : (name : List ℕ) → is_class_name name ≡ true → fits name ≡ true → IsLine (word_of form.New ++ 32 ∷ name) (InstructionRow (instruction.New name) ∷ [])
unfolding word_of form_at forms
new_row name h f = two_words (word_of form.New) name _ ((refl, refl), refl) (class_is_word true name h, f) (operation (simple {f = form.New} refl (new h)))

base_fixed : (b : BaseType) → IsFixed (base_word b)
base_fixed base.Boolean = ((refl, refl), refl)
base_fixed b = ((refl, refl), refl)

pub new_array_row : (b : BaseType) → IsLine (word_of form.NewArray ++ 32 ∷ base_word b) (InstructionRow (instruction.NewArray b) ∷ [])
unfolding word_of form_at forms
new_array_row b = two_words (word_of form.NewArray) (base_word b) _ ((refl, refl), refl) (base_fixed b) (operation (simple {f = form.NewArray} refl new_array))

types_fixed : (t : TypeUse) → IsFixed (word_of (form.TypeUse t))
unfolding word_of forms
types_fixed type_use.ANewArray = ((refl, refl), refl)
types_fixed t = ((refl, refl), refl)

pub class_use_row : (t : TypeUse) (name : List ℕ) → is_class_name name ≡ true → fits name ≡ true → IsLine (word_of (form.TypeUse t) ++ 32 ∷ name) (InstructionRow (instruction.TypeUse t (reference.Class name)) ∷ [])
class_use_row t name h f = two_words (word_of (form.TypeUse t)) name _ (types_fixed t) (class_is_word true name h, f) (operation (simple (types_again t) (op_class h)))

-- ---- descriptors and members

element_start : (fresh : Bool) (t : ElementType) → IsWordText (element_spelling t) → IsWord fresh (element_spelling t)
element_start fresh (element.Base base.Boolean) h = (refl, h)
element_start fresh other h = (refl, h)

brackets_start : (fresh : Bool) (n : ℕ) (t : ElementType) → IsWordText (replicate n 91 ++ element_spelling t) → IsWord fresh (replicate n 91 ++ element_spelling t)
brackets_start fresh zero t h = element_start fresh t h
brackets_start fresh (suc n) t h = (refl, h)

pub descriptor_is_word : (fresh : Bool) (t : FieldType) → is_element_type t.element ≡ true → IsWord fresh (field_spelling t)
descriptor_is_word fresh t h = brackets_start fresh t.dimensions t.element (bytes.field_word t h)

pub is_type_of : (t : FieldType) → t.dimensions ≤ 255 → is_element_type t.element ≡ true → IsFieldType t
is_type_of t d h = record { dimensions = d; element = is_element t.element h }
  where
    is_element : (e : ElementType) → is_element_type e ≡ true → IsElementType e
    is_element (element.Base b) h = tt
    is_element (element.Class name) h = h

pub array_use_row : (t : TypeUse) (a : FieldType) → a.dimensions ≤ 255 → (eqb a.dimensions 0) ≡ false → is_element_type a.element ≡ true → fits (field_spelling a) ≡ true → IsLine (word_of (form.TypeUse t) ++ 32 ∷ field_spelling a) (InstructionRow (instruction.TypeUse t (reference.Array a)) ∷ [])
array_use_row t a d n h f =
    two_words (word_of (form.TypeUse t)) (field_spelling a) _ (types_fixed t) (descriptor_is_word true a h, f)
    (operation (simple (types_again t) (array (field_only a (is_type_of a d h)) n)))

pub class_first : (fresh : Bool) (name rest : List ℕ) → IsWord fresh name → IsWordText (name ++ rest) → IsWord fresh (name ++ rest)
class_first fresh [] rest w h = absurd w
class_first fresh (b ∷ name) rest w h = (w.0, h)

member_is_word : (fresh : Bool) (class name : List ℕ) → is_class_name class ≡ true → is_member_name name ≡ true → IsWord fresh (class ++ 47 ∷ name)
member_is_word fresh class name h k = class_first fresh class (47 ∷ name) (class_is_word fresh class h) (joined_words class (47 ∷ name) (bytes.class_name_word class h) (bytes.member_name_word name k))

fields_fixed : (f : FieldAccess) → IsFixed (word_of (form.Field f))
unfolding word_of forms
fields_fixed access.GetStatic = ((refl, refl), refl)
fields_fixed f = ((refl, refl), refl)

pub field_row : (a : FieldAccess) (r : FieldReference) → is_class_name r.class ≡ true → is_member_name r.name ≡ true → fits (r.class ++ 47 ∷ r.name) ≡ true → r.field_type.dimensions ≤ 255 → is_element_type r.field_type.element ≡ true → fits (field_spelling r.field_type) ≡ true
    → IsLine (word_of (form.Field a) ++ 32 ∷ field_text r) (InstructionRow (instruction.Field a r) ∷ [])
unfolding field_text
field_row a r c m f d e g =
    three_words (word_of (form.Field a)) (r.class ++ 47 ∷ r.name) (field_spelling r.field_type) _ (fields_fixed a) (member_is_word true r.class r.name c m, f) (descriptor_is_word true r.field_type e, g)
    (operation (simple (field_again a) (op_field (member_only r.class r.name c m) (field_only r.field_type (is_type_of r.field_type d e)))))

-- ---- calls

and_all : {A : Type 0} (f : A → Bool) (P : A → Type 0) (xs : List A) → ((x : A) → f x ≡ true → P x) → list_all f xs ≡ true → AllByRecursion P xs
and_all f P [] g h = tt
and_all f P (x ∷ xs) g h = let p = and_parts (f x) (list_all f xs) h in (g x p.0, and_all f P xs g p.1)

is_known : (t : FieldType) → is_type t ≡ true → IsFieldType t
is_known t h = let p = and_parts (nat_le t.dimensions 255) (is_element_type t.element) h in is_type_of t (leb-true t.dimensions 255 p.0) p.1

is_result : (r : Option FieldType) → is_result_type r ≡ true → IfSome r IsFieldType
is_result None h = tt
is_result (Some t) h = is_known t h

pub is_signature : (m : Signature) → is_method_type m ≡ true → IsMethodType m
unfolding is_method_type
is_signature m h =
    let p = and_parts (nat_le (length m.parameters) 255 && list_all is_type m.parameters) (is_result_type m.result) h in
    let q = and_parts (nat_le (length m.parameters) 255) (list_all is_type m.parameters) p.0 in
    record { limit = leb-true (length m.parameters) 255 q.0; parameters = and_all is_type IsFieldType m.parameters is_known q.1; result = is_result m.result p.1 }

calls_fixed : (c : Call) → IsFixed (word_of (form.Call c))
unfolding word_of forms
calls_fixed a_call.InvokeStatic = ((refl, refl), refl)
calls_fixed c = ((refl, refl), refl)

pub method_is_word : (fresh : Bool) (class name : List ℕ) (m : Signature) → is_class_name class ≡ true → is_member_name name ≡ true → is_method_type m ≡ true → IsWord fresh (class ++ 47 ∷ name ++ method_spelling m)
method_is_word fresh class name m h k t =
    let front = member_is_word fresh class name h k in
    class_first fresh (class ++ 47 ∷ name) (method_spelling m) front
    (joined_words (class ++ 47 ∷ name) (method_spelling m) (joined_words class (47 ∷ name) (bytes.class_name_word class h) (bytes.member_name_word name k)) (bytes.method_word m t))

pub call_row : (c : Call) (r : MethodReference) → is_class_name r.class ≡ true → is_member_name r.name ≡ true → is_method_type r.method_type ≡ true → fits (r.class ++ 47 ∷ r.name ++ method_spelling r.method_type) ≡ true
    → IsLine (word_of (form.Call c) ++ 32 ∷ method_text r) (InstructionRow (instruction.Call c r) ∷ [])
unfolding method_text
call_row c r h k t f =
    two_words (word_of (form.Call c)) (r.class ++ 47 ∷ r.name ++ method_spelling r.method_type) _ (calls_fixed c) (method_is_word true r.class r.name r.method_type h k t, f)
    (operation (simple (call_again c) (op_call (call_only r.class r.name r.method_type h k (is_signature r.method_type t)))))
