-- Which lines spell which class: the file form of the Jasmin user guide. "Own choice" marks this project's own
-- choice (docs/JASMIN.md), where the form is described in words.
use Rattle.std.specs.Prelude.{◌≡◌, ℕ, Bool, true, false, ◌&&◌, ◌||◌, ◌==◌, List, [], ◌∷◌, ◌++◌, length, map, Option, Some, None, unwrap_or, Ok, ℤ, pos, ◌+ℤ◌, int_lt, int_le, neg_ℤ, if◌then◌else◌, codes}
use Rattle.std.specs.Str.{bytes_eq}
use Rattle.descriptors.specs.ClassName.{IsClassName}
use Rattle.descriptors.specs.Signature.{Signature}
use Rattle.descriptors.specs.Reading.{field_of_text, method_of_text}
use Rattle.descriptors.specs.declared.base.BaseType.{BaseType}
use Rattle.descriptors.specs.declared.field.FieldType.{FieldType}
use Rattle.jasmin_words.specs.Lexing.{Item, Word, Equals, Colon, Text, words_of}
use Rattle.jasmin_words.specs.Integers.{integer_of}
use Rattle.jasmin_words.specs.Names.{is_label, IsMemberName}
use Rattle.jasmin_words.specs.Spelling.{AreWords}
use Rattle.jasmin_text.specs.BaseWords.{base_word}
use Rattle.jasmin_text.specs.MemberWords.{member_in, before_type, type_part}
use Rattle.jasmin_text.specs.Tables.{find_row, access_of, member_access_of}
use Rattle.jasmin_text.specs.Forms.{form_at, directive_at}
use Rattle.jasmin_text.specs.Spellable.{IsSpellable}
use Rattle.jasmin_text.specs.declared.access.Access.{Access}
use Rattle.jasmin_text.specs.declared.table.AccessWord.{AccessWord}
use Rattle.jasmin_text.specs.declared.table.AccessWord.TheVariants as word
use Rattle.jasmin_text.specs.declared.form.Form.{Form}
use Rattle.jasmin_text.specs.declared.form.Form.TheVariants as form
use Rattle.jasmin_text.specs.declared.form.Directive.TheVariants as directive
use Rattle.jasmin_text.specs.declared.class_text.ClassKind.{ClassKind}
use Rattle.jasmin_text.specs.declared.class_text.ClassKind.TheVariants as kind
use Rattle.jasmin_text.specs.declared.class_text.Constant.{Constant}
use Rattle.jasmin_text.specs.declared.class_text.Constant.TheVariants as constant
use Rattle.jasmin_text.specs.declared.class_text.Field.{Field}
use Rattle.jasmin_text.specs.declared.class_text.Handler.{Handler}
use Rattle.jasmin_text.specs.declared.class_text.Code.{Code}
use Rattle.jasmin_text.specs.declared.class_text.Method.{Method}
use Rattle.jasmin_text.specs.declared.class_text.ClassParts.{ClassParts}
use Rattle.jasmin_text.specs.declared.instruction.Instruction.{Instruction}
use Rattle.jasmin_text.specs.declared.instruction.Instruction.TheVariants as instruction
use Rattle.jasmin_text.specs.declared.instruction.ReferenceType.TheVariants as reference

-- ---- access words

abbrev pub no_access : Access
no_access = record { public = false; private = false; protected = false; is_static = false; is_final = false; synchronized = false; volatile = false; transient = false; is_abstract = false }

-- a word more; one that is there already counts once
abbrev pub with_word : AccessWord → Access → Access
with_word word.Public a = record a { public = true }
with_word word.Private a = record a { private = true }
with_word word.Protected a = record a { protected = true }
with_word word.Static a = record a { is_static = true }
with_word word.Final a = record a { is_final = true }
with_word word.Synchronized a = record a { synchronized = true }
with_word word.Volatile a = record a { volatile = true }
with_word word.Transient a = record a { transient = true }
with_word word.Abstract a = record a { is_abstract = true }
with_word word.Dropped a = a
with_word word.LeftOut a = a

-- native is left out
abbrev pub is_taken_in : AccessWord → Bool
is_taken_in word.LeftOut = false
is_taken_in other = true

-- access words, in any order, after those that are there already; own choice: any of them may come before any name, and some say nothing
pub data IsAccessBy (says : List ℕ → Option AccessWord) : Access → List Item → Access → Type 0 where
  none : {a : Access} → IsAccessBy says a [] a
  more : {w : List ℕ} {k : AccessWord} {rest : List Item} {a b : Access} → says w ≡ Some k → is_taken_in k ≡ true → IsAccessBy says (with_word k a) rest b → IsAccessBy says a (Word w ∷ rest) b

-- after .interface, where the word interface is no access word
abbrev pub IsAccess : List Item → Access → Type 0
IsAccess = IsAccessBy access_of no_access

-- before the name of a field or a method, where the word interface is one that says nothing
abbrev pub IsMemberAccess : List Item → Access → Type 0
IsMemberAccess = IsAccessBy member_access_of no_access

-- after .class the word interface makes an interface
pub data IsClassAccess : ClassKind → Access → List Item → ClassKind → Access → Type 0 where
  none : {k : ClassKind} {a : Access} → IsClassAccess k a [] k a
  more : {w : List ℕ} {word : AccessWord} {rest : List Item} {k l : ClassKind} {a b : Access} → access_of w ≡ Some word → is_taken_in word ≡ true → IsClassAccess k (with_word word a) rest l b → IsClassAccess k a (Word w ∷ rest) l b
  interface : {rest : List Item} {k l : ClassKind} {a b : Access} → IsClassAccess kind.Interface a rest l b → IsClassAccess k a (Word (codes "interface") ∷ rest) l b

-- ---- operands

-- an int of this range
pub record IsIntIn (low high : ℤ) (w : List ℕ) (n : ℤ) : Type 0 where
  pub value : integer_of w ≡ Some n
  pub from : int_le low n ≡ true
  pub to : int_le n high ≡ true

-- the number of a local, or a limit, or a count
abbrev pub IsNumberIn : ℕ → ℕ → List ℕ → ℕ → Type 0
IsNumberIn low high w n = IsIntIn (pos low) (pos high) w (pos n)

-- a class, a slash and the name of a method, and its descriptor from the first ( on
pub record IsMethodWord (w class name : List ℕ) (type : Signature) : Type 0 where
  pub member : member_in (before_type w) ≡ Ok (class, name)
  pub method_type : method_of_text (type_part w) ≡ Ok type

abbrev pub byte_low : ℤ
byte_low = neg_ℤ (pos 128)

abbrev pub short_low : ℤ
short_low = neg_ℤ (pos 32768)

-- The operands of an instruction, by what its word asks for, with labels as targets. Switches have lines of
-- their own. Own choice: several forms of one instruction are read as one.
pub data IsOperands : Form → List Item → Instruction (List ℕ) → Type 0 where
  plain : {p : _} → IsOperands (form.Plain p) [] (instruction.Plain p)
  number : {n : ℤ} → IsOperands (form.Number n) [] (instruction.Constant (constant.Int n))
  byte : {w : List ℕ} {n : ℤ} → IsIntIn byte_low (pos 127) w n → IsOperands form.Byte (Word w ∷ []) (instruction.Constant (constant.Int n))
  short : {w : List ℕ} {n : ℤ} → IsIntIn short_low (pos 32767) w n → IsOperands form.Short (Word w ∷ []) (instruction.Constant (constant.Int n))
  int : {w : List ℕ} {n : ℤ} → integer_of w ≡ Some n → IsOperands form.Constant (Word w ∷ []) (instruction.Constant (constant.Int n))
  text : {t : List ℕ} → IsOperands form.Constant (Text t ∷ []) (instruction.Constant (constant.Text t))
  local : {l : _} {w : List ℕ} {n : ℕ} → IsNumberIn 0 65535 w n → IsOperands (form.Local l) (Word w ∷ []) (instruction.Local l n)
  local_at : {l : _} {n : ℕ} → IsOperands (form.LocalAt l n) [] (instruction.Local l n)
  increment : {v w : List ℕ} {n : ℕ} {by : ℤ} → IsNumberIn 0 65535 v n → IsIntIn short_low (pos 32767) w by → IsOperands form.Increment (Word v ∷ Word w ∷ []) (instruction.Increment n by)
  jump : {j : _} {l : List ℕ} → is_label l ≡ true → IsOperands (form.Jump j) (Word l ∷ []) (instruction.Jump j l)
  field : {f : _} {v w class name : List ℕ} {type : FieldType} → member_in v ≡ Ok (class, name) → field_of_text w ≡ Ok type → IsOperands (form.Field f) (Word v ∷ Word w ∷ []) (instruction.Field f (record { class = class; name = name; field_type = type }))
  call : {c : _} {w class name : List ℕ} {type : Signature} → IsMethodWord w class name type → IsOperands (form.Call c) (Word w ∷ []) (instruction.Call c (record { class = class; name = name; method_type = type }))
  interface : {w class name : List ℕ} {type : Signature} → IsMethodWord w class name type → IsOperands form.CallInterface (Word w ∷ []) (instruction.CallInterface (record { class = class; name = name; method_type = type }))
  -- the count has no effect
  counted : {w v class name : List ℕ} {type : Signature} {n : ℕ} → IsMethodWord w class name type → IsNumberIn 1 255 v n → IsOperands form.CallInterface (Word w ∷ Word v ∷ []) (instruction.CallInterface (record { class = class; name = name; method_type = type }))
  new : {name : List ℕ} → IsClassName name → IsOperands form.New (Word name ∷ []) (instruction.New name)
  new_array : {b : BaseType} → IsOperands form.NewArray (Word (base_word b) ∷ []) (instruction.NewArray b)
  class : {t : _} {name : List ℕ} → IsClassName name → IsOperands (form.TypeUse t) (Word name ∷ []) (instruction.TypeUse t (reference.Class name))
  -- the descriptor of an array represents a class here alone
  array : {t : _} {w : List ℕ} {type : FieldType} → field_of_text w ≡ Ok type → (type.dimensions == 0) ≡ false → IsOperands (form.TypeUse t) (Word w ∷ []) (instruction.TypeUse t (reference.Array type))

-- ---- lines

-- What a line says. A line with a label before an instruction says two things.
pub data Row : Type 0 where
  ClassRow : ClassKind → Access → List ℕ → Row
  SuperRow : List ℕ → Row
  ImplementsRow : List ℕ → Row
  FieldRow : Field → Row
  MethodRow : Access → List ℕ → Signature → Row
  EndRow : Row
  StackRow : ℕ → Row
  LocalsRow : ℕ → Row
  CatchRow : Option (List ℕ) → List ℕ → List ℕ → List ℕ → Row
  LabelRow : List ℕ → Row
  InstructionRow : Instruction (List ℕ) → Row
  TableRow : ℤ → Option ℤ → Row
  LookupRow : Row
  TargetRow : List ℕ → Row
  CaseRow : ℤ → List ℕ → Row
  DefaultRow : List ℕ → Row

abbrev pub begins_with_word : List Item → Bool
begins_with_word (Word w ∷ rest) = true
begins_with_word other = false

-- what a field's line has after its descriptor; one signature is skipped
pub data IsValue : List Item → Option Constant → Type 0 where
  none : IsValue [] None
  int : {w : List ℕ} {n : ℤ} → integer_of w ≡ Some n → IsValue (Equals ∷ Word w ∷ []) (Some (constant.Int n))
  text : {t : List ℕ} → IsValue (Equals ∷ Text t ∷ []) (Some (constant.Text t))
  signature : {t : List ℕ} {items : List Item} {value : Option Constant} → IsValue items value → begins_with_word items ≡ false → IsValue (Word (codes "signature") ∷ Text t ∷ items) value

-- the class that a row of a handler table catches; the word all always represents every class
pub data IsCaught : List ℕ → Option (List ℕ) → Type 0 where
  all : IsCaught (codes "all") None
  class : {name : List ℕ} → bytes_eq name (codes "all") ≡ false → IsClassName name → IsCaught name (Some name)

-- an instruction's line
pub data IsInstructionLine : List Item → Row → Type 0 where
  simple : {w : List ℕ} {f : Form} {operands : List Item} {i : Instruction (List ℕ)} → form_at w ≡ Some f → IsOperands f operands i → IsInstructionLine (Word w ∷ operands) (InstructionRow i)
  table : {w v : List ℕ} {low : ℤ} → form_at w ≡ Some form.TableSwitch → integer_of v ≡ Some low → IsInstructionLine (Word w ∷ Word v ∷ []) (TableRow low None)
  table_to : {w u v : List ℕ} {low high : ℤ} → form_at w ≡ Some form.TableSwitch → integer_of u ≡ Some low → integer_of v ≡ Some high → IsInstructionLine (Word w ∷ Word u ∷ Word v ∷ []) (TableRow low (Some high))
  lookup : {w : List ℕ} → form_at w ≡ Some form.LookupSwitch → IsInstructionLine (Word w ∷ []) LookupRow

-- a line, by its words
pub data IsRow : List Item → List Row → Type 0 where
  blank : IsRow [] []
  -- after .class the word interface is an access word and no name
  class : {items : List Item} {k : ClassKind} {a : Access} {name : List ℕ} → (access : List Item) → items ≡ access ++ Word name ∷ [] → IsClassAccess kind.Class no_access access k a → IsClassName name
      → bytes_eq name (codes "interface") ≡ false → IsRow (Word (codes ".class") ∷ items) (ClassRow k a name ∷ [])
  interface : {items : List Item} {a : Access} {name : List ℕ} → (access : List Item) → items ≡ access ++ Word name ∷ [] → IsAccess access a → IsClassName name
      → IsRow (Word (codes ".interface") ∷ items) (ClassRow kind.Interface a name ∷ [])
  super : {name : List ℕ} → IsClassName name → IsRow (Word (codes ".super") ∷ Word name ∷ []) (SuperRow name ∷ [])
  implements : {name : List ℕ} → IsClassName name → IsRow (Word (codes ".implements") ∷ Word name ∷ []) (ImplementsRow name ∷ [])
  field : {items : List Item} {a : Access} {name : List ℕ} {type : FieldType} {value : Option Constant} → (access rest : List Item) (w : List ℕ) → items ≡ access ++ Word name ∷ Word w ∷ rest
      → IsMemberAccess access a → IsMemberName name → field_of_text w ≡ Ok type → IsValue rest value
      → IsRow (Word (codes ".field") ∷ items) (FieldRow (record { access = a; name = name; field_type = type; value = value }) ∷ [])
  method : {items : List Item} {a : Access} {name : List ℕ} {type : Signature} → (access : List Item) (w : List ℕ) → items ≡ access ++ Word w ∷ [] → before_type w ≡ name
      → IsMemberAccess access a → IsMemberName name → method_of_text (type_part w) ≡ Ok type → IsRow (Word (codes ".method") ∷ items) (MethodRow a name type ∷ [])
  end : IsRow (Word (codes ".end") ∷ Word (codes "method") ∷ []) (EndRow ∷ [])
  stack : {w : List ℕ} {n : ℕ} → IsNumberIn 0 1024 w n → IsRow (Word (codes ".limit") ∷ Word (codes "stack") ∷ Word w ∷ []) (StackRow n ∷ [])
  locals : {w : List ℕ} {n : ℕ} → IsNumberIn 0 1024 w n → IsRow (Word (codes ".limit") ∷ Word (codes "locals") ∷ Word w ∷ []) (LocalsRow n ∷ [])
  catch : {w from to using : List ℕ} {class : Option (List ℕ)} → IsCaught w class → is_label from ≡ true → is_label to ≡ true → is_label using ≡ true
      → IsRow (Word (codes ".catch") ∷ Word w ∷ Word (codes "from") ∷ Word from ∷ Word (codes "to") ∷ Word to ∷ Word (codes "using") ∷ Word using ∷ []) (CatchRow class from to using ∷ [])
  label : {l : List ℕ} → is_label l ≡ true → IsRow (Word l ∷ Colon ∷ []) (LabelRow l ∷ [])
  labelled : {l : List ℕ} {items : List Item} {row : Row} → is_label l ≡ true → IsInstructionLine items row → IsRow (Word l ∷ Colon ∷ items) (LabelRow l ∷ row ∷ [])
  operation : {items : List Item} {row : Row} → IsInstructionLine items row → IsRow items (row ∷ [])
  target : {l : List ℕ} → is_label l ≡ true → IsRow (Word l ∷ []) (TargetRow l ∷ [])
  case : {w l : List ℕ} {key : ℤ} → integer_of w ≡ Some key → is_label l ≡ true → IsRow (Word w ∷ Colon ∷ Word l ∷ []) (CaseRow key l ∷ [])
  default : {l : List ℕ} → is_label l ≡ true → IsRow (Word (codes "default") ∷ Colon ∷ Word l ∷ []) (DefaultRow l ∷ [])

-- The rows of a line, by its words, none of which is wrong or too long. Where a directive is skipped, nothing
-- after it is looked at.
pub data AreRowsOf : List Item → List Row → Type 0 where
  skipped : {w : List ℕ} {rest : List Item} → directive_at w ≡ Some directive.Skipped → AreRowsOf (Word w ∷ rest) []
  of_words : {items : List Item} {rows : List Row} → AreWords items → IsRow items rows → AreRowsOf items rows

-- lines one after the other
pub data AreRows : List (List ℕ) → List Row → Type 0 where
  none : AreRows [] []
  more : {line : List ℕ} {lines : List (List ℕ)} {all : List Row} → (rows rest : List Row) → AreRowsOf (words_of line) rows → AreRows lines rest → all ≡ rows ++ rest → AreRows (line ∷ lines) all

-- ---- bodies

-- A row of the handler table, by labels.
pub record Catch : Type 0 where
  pub class : Option (List ℕ)
  pub from : List ℕ
  pub to : List ℕ
  pub handler : List ℕ

-- What is in a method so far, with labels as targets.
pub record Body : Type 0 where
  pub stack : ℕ
  pub locals : ℕ
  pub labels : List (List ℕ × ℕ)
  pub catches : List Catch
  pub instructions : List (Instruction (List ℕ))

-- limits that no line gives are the most: own choice
abbrev pub empty_body : Body
empty_body = record { stack = 1024; locals = 1024; labels = []; catches = []; instructions = [] }

abbrev pub with_instruction : Body → Instruction (List ℕ) → Body
with_instruction b i = record b { instructions = b.instructions ++ i ∷ [] }

-- the place of a label
abbrev pub place_of : List (List ℕ × ℕ) → List ℕ → Option ℕ
place_of labels l = find_row l labels

-- the last key of a tableswitch, where it is given, fits the number of labels; own choice: no label is needed
abbrev pub FitsHigh : ℤ → Option ℤ → ℕ → Type 0
FitsHigh low None count = Unit {0}
FitsHigh low (Some high) count = high +ℤ pos 1 ≡ low +ℤ pos count

abbrev pub Cases : Type 0
Cases = List (ℤ × List ℕ)

abbrev pub case_row : ℤ × List ℕ → Row
case_row c = CaseRow c.0 c.1

-- a case at its place among those with rising keys
abbrev pub with_case : ℤ × List ℕ → Cases → Cases
with_case c [] = c ∷ []
with_case c (d ∷ ds) = if int_lt c.0 d.0 then c ∷ d ∷ ds else d ∷ with_case c ds

-- no case has this key
abbrev pub lacks_key : ℤ → Cases → Bool
lacks_key key [] = true
lacks_key key (c ∷ cs) = (int_lt key c.0 || int_lt c.0 key) && lacks_key key cs

-- cases, each at its place among those before it: the keys may come in any order, and none comes twice
pub data AreSorted : Cases → Cases → Cases → Type 0 where
  none : {sorted : Cases} → AreSorted sorted [] sorted
  more : {c : ℤ × List ℕ} {cs sorted all : Cases} → lacks_key c.0 sorted ≡ true → AreSorted (with_case c sorted) cs all → AreSorted sorted (c ∷ cs) all

-- what rows add to what is in a method: the last limit counts, and no label comes twice
pub data IsBody : Body → List Row → Body → Type 0 where
  none : {b : Body} → IsBody b [] b
  stack : {n : ℕ} {rows : List Row} {b c : Body} → IsBody (record b { stack = n }) rows c → IsBody b (StackRow n ∷ rows) c
  locals : {n : ℕ} {rows : List Row} {b c : Body} → IsBody (record b { locals = n }) rows c → IsBody b (LocalsRow n ∷ rows) c
  catch : {class : Option (List ℕ)} {from to using : List ℕ} {rows : List Row} {b c : Body} → IsBody (record b { catches = b.catches ++ record { class = class; from = from; to = to; handler = using } ∷ [] }) rows c
      → IsBody b (CatchRow class from to using ∷ rows) c
  label : {l : List ℕ} {rows : List Row} {b c : Body} → place_of b.labels l ≡ None → IsBody (record b { labels = b.labels ++ (l, length b.instructions) ∷ [] }) rows c → IsBody b (LabelRow l ∷ rows) c
  operation : {i : Instruction (List ℕ)} {rows : List Row} {b c : Body} → IsBody (with_instruction b i) rows c → IsBody b (InstructionRow i ∷ rows) c
  table : {low : ℤ} {high : Option ℤ} {rows : List Row} {b c : Body} → (labels : List (List ℕ)) (default : List ℕ) (rest : List Row) → rows ≡ map TargetRow labels ++ DefaultRow default ∷ rest
      → FitsHigh low high (length labels) → IsBody (with_instruction b (instruction.TableSwitch low labels default)) rest c → IsBody b (TableRow low high ∷ rows) c
  lookup : {rows : List Row} {b c : Body} → (cases sorted : Cases) (default : List ℕ) (rest : List Row) → rows ≡ map case_row cases ++ DefaultRow default ∷ rest
      → AreSorted [] cases sorted → IsBody (with_instruction b (instruction.LookupSwitch sorted default)) rest c → IsBody b (LookupRow ∷ rows) c

-- R holds of each two at the same place, and the lists are equally long
pub data Each {A B : Type 0} (R : A → B → Type 0) : List A → List B → Type 0 where
  none : Each R [] []
  more : {x : A} {y : B} {xs : List A} {ys : List B} → R x y → Each R xs ys → Each R (x ∷ xs) (y ∷ ys)

abbrev pub IsPlaceOf : List (List ℕ × ℕ) → List ℕ → ℕ → Type 0
IsPlaceOf labels l place = place_of labels l ≡ Some place

abbrev pub IsPlacedCase : List (List ℕ × ℕ) → ℤ × List ℕ → ℤ × ℕ → Type 0
IsPlacedCase labels c d = (d.0 ≡ c.0) × IsPlaceOf labels c.1 d.1

-- an instruction with places for its labels
pub data IsPlaced (labels : List (List ℕ × ℕ)) : Instruction (List ℕ) → Instruction ℕ → Type 0 where
  plain : {p : _} → IsPlaced labels (instruction.Plain p) (instruction.Plain p)
  pushes : {c : Constant} → IsPlaced labels (instruction.Constant c) (instruction.Constant c)
  local : {l : _} {n : ℕ} → IsPlaced labels (instruction.Local l n) (instruction.Local l n)
  increment : {n : ℕ} {by : ℤ} → IsPlaced labels (instruction.Increment n by) (instruction.Increment n by)
  jump : {j : _} {l : List ℕ} {place : ℕ} → IsPlaceOf labels l place → IsPlaced labels (instruction.Jump j l) (instruction.Jump j place)
  table : {low : ℤ} {ls : List (List ℕ)} {d : List ℕ} {places : List ℕ} {place : ℕ} → Each (IsPlaceOf labels) ls places → IsPlaceOf labels d place → IsPlaced labels (instruction.TableSwitch low ls d) (instruction.TableSwitch low places place)
  lookup : {cs : Cases} {d : List ℕ} {cases : List (ℤ × ℕ)} {place : ℕ} → Each (IsPlacedCase labels) cs cases → IsPlaceOf labels d place → IsPlaced labels (instruction.LookupSwitch cs d) (instruction.LookupSwitch cases place)
  field : {f : _} {r : _} → IsPlaced labels (instruction.Field f r) (instruction.Field f r)
  call : {c : _} {r : _} → IsPlaced labels (instruction.Call c r) (instruction.Call c r)
  interface : {r : _} → IsPlaced labels (instruction.CallInterface r) (instruction.CallInterface r)
  new : {name : List ℕ} → IsPlaced labels (instruction.New name) (instruction.New name)
  new_array : {b : BaseType} → IsPlaced labels (instruction.NewArray b) (instruction.NewArray b)
  type_use : {t : _} {r : _} → IsPlaced labels (instruction.TypeUse t r) (instruction.TypeUse t r)

pub record IsPlacedRow (labels : List (List ℕ × ℕ)) (c : Catch) (h : Handler) : Type 0 where
  pub class : h.class ≡ c.class
  pub from : IsPlaceOf labels c.from h.from
  pub to : IsPlaceOf labels c.to h.to
  pub handler : IsPlaceOf labels c.handler h.handler

pub record IsCodeOf (b : Body) (code : Code) : Type 0 where
  pub stack : code.stack ≡ b.stack
  pub locals : code.locals ≡ b.locals
  pub handlers : Each (IsPlacedRow b.labels) b.catches code.handlers
  pub instructions : Each (IsPlaced b.labels) b.instructions code.instructions

-- own choice: under abstract only limits are allowed, and they say nothing
pub record IsNoBody (b : Body) : Type 0 where
  pub labels : b.labels ≡ []
  pub catches : b.catches ≡ []
  pub instructions : b.instructions ≡ []

abbrev pub IsCodeOrNone : Body → Option Code → Type 0
IsCodeOrNone b None = IsNoBody b
IsCodeOrNone b (Some code) = IsCodeOf b code

-- ---- the class

-- What is in a class so far, after the line that names it.
pub record Members : Type 0 where
  pub superclass : Option (List ℕ)
  pub interfaces : List (List ℕ)
  pub fields : List Field
  pub methods : List Method

abbrev pub no_members : Members
no_members = record { superclass = None; interfaces = []; fields = []; methods = [] }

-- before the first field or method
abbrev pub IsHeader : Members → Type 0
IsHeader m = (m.fields ≡ []) × (m.methods ≡ [])

-- what rows add to what is in a class: at most one superclass; fields and methods are mixed
pub data AreMembers : Members → List Row → Members → Type 0 where
  none : {m : Members} → AreMembers m [] m
  super : {name : List ℕ} {rows : List Row} {m n : Members} → IsHeader m → m.superclass ≡ None → AreMembers (record m { superclass = Some name }) rows n → AreMembers m (SuperRow name ∷ rows) n
  implements : {name : List ℕ} {rows : List Row} {m n : Members} → IsHeader m → AreMembers (record m { interfaces = m.interfaces ++ name ∷ [] }) rows n → AreMembers m (ImplementsRow name ∷ rows) n
  field : {f : Field} {rows : List Row} {m n : Members} → AreMembers (record m { fields = m.fields ++ f ∷ [] }) rows n → AreMembers m (FieldRow f ∷ rows) n
  method : {a : Access} {name : List ℕ} {type : Signature} {rows : List Row} {m n : Members} → (body rest : List Row) (b : Body) (code : Option Code) → rows ≡ body ++ EndRow ∷ rest
      → IsBody empty_body body b → IsCodeOrNone b code → AreMembers (record m { methods = m.methods ++ record { access = a; name = name; method_type = type; code = code } ∷ [] }) rest n
      → AreMembers m (MethodRow a name type ∷ rows) n

-- The rows of a class. Absent, the superclass is java/lang/Object.
pub record IsClass (rows : List Row) (c : ClassParts) : Type 0 where
  pub members : List Row
  pub given : Option (List ℕ)
  pub parts : rows ≡ ClassRow c.kind c.access c.name ∷ members
  pub are_members : AreMembers no_members members (record { superclass = given; interfaces = c.interfaces; fields = c.fields; methods = c.methods })
  pub superclass : c.superclass ≡ unwrap_or given (codes "java/lang/Object")
  pub spellable : IsSpellable c

-- The lines spell the class: each line says its rows, and the rows are those of the class.
pub record Spells (lines : List (List ℕ)) (c : ClassParts) : Type 0 where
  pub rows : List Row
  pub are_rows : AreRows lines rows
  pub is_class : IsClass rows c
