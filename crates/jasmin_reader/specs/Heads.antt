-- The lines that name a class, a field or a method: access words, then the name.
use Rattle.std.specs.Prelude.{ℕ, Bool, true, false, not, ◌&&◌, List, [], ◌∷◌, Option, Some, None, Result, Ok, Err, if◌then◌else◌, codes}
use Rattle.std.specs.List.{list_any}
use Rattle.std.specs.Option.{option_map, ok_or}
use Rattle.std.specs.Str.{bytes_eq}
use Rattle.descriptors.specs.Signature.{Signature}
use Rattle.descriptors.specs.declared.field.FieldType.{FieldType}
use Rattle.jasmin_words.specs.declared.fault.FaultKind.{FaultKind}
use Rattle.jasmin_words.specs.declared.fault.FaultKind.TheVariants as fault
use Rattle.sequence.specs.Gives.{◌>>=◌}
use Rattle.jasmin_words.specs.Lexing.{Item, Word, BadWord, Equals}
use Rattle.jasmin_text.specs.Spellable.{is_int_type, is_string_type, may_initialize}
use Rattle.jasmin_text.specs.Tables.{access_of, member_access_of}
use Rattle.jasmin_text.specs.Grammar.{no_access, with_word as more_access, is_taken_in}
use Rattle.jasmin_text.specs.declared.access.Access.{Access}
use Rattle.jasmin_text.specs.declared.class_text.ClassKind.{ClassKind}
use Rattle.jasmin_text.specs.declared.class_text.ClassKind.TheVariants.{Class, Interface}
use Rattle.jasmin_text.specs.declared.class_text.Constant.{Constant}
use Rattle.jasmin_text.specs.declared.class_text.Constant.TheVariants as constant
use Rattle.jasmin_text.specs.declared.class_text.Field.{Field}
use Rattle.jasmin_text.specs.declared.table.AccessWord.{AccessWord}
use Rattle.jasmin_text.specs.declared.table.AccessWord.TheVariants.{LeftOut}
use Rattle.jasmin_reader.specs.declared.head.Place.{Place}
use Rattle.jasmin_reader.specs.declared.head.Place.TheVariants as place
use Rattle.jasmin_reader.specs.declared.head.HeadWords.{HeadWords}
use Rattle.jasmin_reader.specs.declared.table.ClassWord.{ClassWord}
use Rattle.jasmin_reader.specs.declared.table.ClassWord.TheVariants as class_word
use Rattle.jasmin_reader.specs.Places.{misplaced, word_of, within_limit, operand, string_from, ended_at}
use Rattle.jasmin_reader.specs.Operands.{integer_in, type_in, typed_in}
use Rattle.jasmin_text.specs.MemberWords.{class_name_in, member_name_in}

-- ---- access words

-- no word yet
abbrev pub start : ClassKind → HeadWords
start k = record { kind = k; access = no_access }

-- the access words with one more
abbrev pub with_access : Access → AccessWord → Result Access FaultKind
with_access a w = if is_taken_in w then Ok (more_access w a) else Err fault.LeftOut

-- abstract and static are on no method together
abbrev pub stand_together : Place → Access → Bool
stand_together place.Method a = not (a.is_abstract && a.is_static)
stand_together other a = true

abbrev pub fits_place : Place → Access → Result Access FaultKind
fits_place p a = if stand_together p a then Ok a else Err fault.BadOperand

abbrev pub with_class_word : Place → HeadWords → ClassWord → Result HeadWords FaultKind
with_class_word p words class_word.Interface = Ok (record words { kind = Interface })
with_class_word p words (class_word.Access a) = with_access words.access a >>= λ x. fits_place p x >>= λ y. Ok (record words { access = y })

-- what a word says before a name: the word interface is one more access word, but not after .interface
unfoldable pub head_word_at : Place → List ℕ → Option ClassWord
head_word_at place.Class w = if bytes_eq w (codes "interface") then Some class_word.Interface else option_map class_word.Access (access_of w)
head_word_at place.Interface w = option_map class_word.Access (access_of w)
head_word_at member w = option_map class_word.Access (member_access_of w)

-- the words before a name, with one more
unfoldable pub with_word : Place → HeadWords → List ℕ → Result HeadWords FaultKind
with_word p words w = ok_or (head_word_at p w) fault.BadOperand >>= with_class_word p words

abbrev pub is_word : Item → Bool
is_word (Word w) = true
is_word BadWord = true
is_word other = false

abbrev pub has_word : List Item → Bool
has_word items = list_any is_word items

abbrev pub begins_with_word : List Item → Bool
begins_with_word [] = false
begins_with_word (t ∷ rest) = is_word t

-- what follows the word signature, where it comes next
abbrev pub behind_signature : List Item → Option (List Item)
behind_signature (Word w ∷ rest) = if bytes_eq w (codes "signature") then Some rest else None
behind_signature other = None

abbrev pub ends_words : Option (List Item) → Bool
ends_words None = false
ends_words (Some rest) = not (begins_with_word rest)

-- signature ends the words of a field unless a word follows
abbrev pub is_signature : List Item → Bool
is_signature items = ends_words (behind_signature items)

-- a word that belongs to the access words, the name and the descriptor of a field
abbrev pub begins_with_part : List Item → Bool
begins_with_part items = begins_with_word items && not (is_signature items)

abbrev pub behind : List Item → List Item
behind [] = []
behind (t ∷ rest) = rest

-- whether the name is still to come, after the word before these: a field's name is the last word but one of
-- its words, every other name the last word of its line
abbrev pub is_before_name : Place → List Item → Bool
is_before_name place.Field items = begins_with_part items && begins_with_part (behind items)
is_before_name other items = has_word items

abbrev pub no_access_by : Option ClassWord → Result (Unit {0}) FaultKind
no_access_by None = Ok tt
no_access_by (Some (class_word.Access LeftOut)) = Err fault.LeftOut
no_access_by other = Err fault.BadOperand

-- Whether a word in the name's place is an access word is decided first: it is then taken as one, and the name is missing.
unfoldable pub no_access_in : Place → List ℕ → Result (Unit {0}) FaultKind
no_access_in p w = no_access_by (head_word_at p w)

-- the access words, the word in the name's place, which is none of them, and what follows it
unfoldable pub named_from : Place → HeadWords → List Item → Result (HeadWords × (List ℕ × List Item)) FaultKind
named_from p words [] = Err fault.BadOperand
named_from p words (t ∷ rest) = word_of t >>= λ w.
    if is_before_name p rest then (with_word p words w >>= λ more. within_limit w >>= λ _. named_from p more rest)
    else (no_access_in p w >>= λ _. Ok (words, (w, rest)))

-- ---- classes

abbrev pub kind_at : Place → ClassKind
kind_at place.Interface = Interface
kind_at other = Class

-- after .class or .interface
unfoldable pub class_from : Place → List Item → Result (HeadWords × List ℕ) FaultKind
class_from p items = named_from p (start (kind_at p)) items >>= λ n.
    class_name_in n.1.0 >>= λ name. within_limit n.1.0 >>= λ _. ended_at n.1.1 >>= λ _. Ok (n.0, name)

-- ---- fields

-- one signature may follow the descriptor; it is skipped
abbrev pub skipped_from : List Item → Option (List Item) → Result (List Item) FaultKind
skipped_from items None = Ok items
skipped_from items (Some rest) = string_from rest >>= λ t. Ok t.1

-- a value of a type
unfoldable pub constant_for : FieldType → List Item → Result (Constant × List Item) FaultKind
constant_for t items =
    if is_int_type t then (operand integer_in items >>= λ n. Ok (constant.Int n.0, n.1))
    else if is_string_type t then (string_from items >>= λ s. Ok (constant.Text s.0, s.1))
    else (ended_at items >>= λ _. Err fault.BadOperand)

abbrev pub value_at : FieldType → List Item → Result (Option Constant) FaultKind
value_at t [] = Ok None
value_at t (Equals ∷ rest) = constant_for t rest >>= λ c. ended_at c.1 >>= λ _. Ok (Some c.0)
value_at t (other ∷ rest) = Err (misplaced other)

-- what follows a field's descriptor
unfoldable pub value_from : FieldType → List Item → Result (Option Constant) FaultKind
value_from t items = skipped_from items (behind_signature items) >>= value_at t

-- a field's descriptor; it is missing where a signature is in its place
abbrev pub described_from : List Item → Result (FieldType × List Item) FaultKind
described_from items = if is_signature items then Err fault.BadOperand else operand type_in items

-- the field with these access words and this name, by its descriptor and value
abbrev pub field_named : Access → List ℕ → List Item → Result Field FaultKind
field_named a name items = described_from items >>= λ t. value_from t.0 t.1 >>= λ value. Ok (record { access = a; name = name; field_type = t.0; value = value })

-- after .field
unfoldable pub field_from : List Item → Result Field FaultKind
field_from items = named_from place.Field (start Class) items >>= λ n.
    member_name_in n.1.0 >>= λ name. within_limit n.1.0 >>= λ _.
    field_named n.0.access name n.1.1

-- ---- methods

abbrev pub fits_initializer : Access → List ℕ × Signature → Result (Unit {0}) FaultKind
fits_initializer a m = if bytes_eq m.0 (codes "<clinit>") && not (may_initialize a m.1) then Err fault.BadInitializer else Ok tt

-- the method with this name and type, at the line's end
abbrev pub method_there : Access → List ℕ × Signature → List ℕ → List Item → Result (Access × (List ℕ × Signature)) FaultKind
method_there a m w rest = within_limit w >>= λ _. fits_initializer a m >>= λ _. ended_at rest >>= λ _. Ok (a, m)

-- the method with these access words, by the word in the name's place and what follows it
abbrev pub method_named : Access → List ℕ × List Item → Result (Access × (List ℕ × Signature)) FaultKind
method_named a n = typed_in member_name_in n.0 >>= λ m. method_there a m n.0 n.1

-- after .method: the access words, the name and the type
unfoldable pub method_from : List Item → Result (Access × (List ℕ × Signature)) FaultKind
method_from items = named_from place.Method (start Class) items >>= λ n. method_named n.0.access n.1
