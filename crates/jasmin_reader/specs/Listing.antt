-- The instructions of a method, as far as they are read.
use Rattle.std.specs.Prelude.{ℕ, ◌+◌, ◌-◌, ◌≤◌, Bool, not, List, [], ◌∷◌, ◌++◌, length, Option, Some, None, is_some, Result, Ok, Err, ◌==◌, if◌then◌else◌, nat_lt, ℤ, codes}
use Rattle.std.specs.BTreeMap.{insert_entry, is_at}
use Rattle.std.specs.Map.{lookup}
use Rattle.std.specs.Ordering.{int_cmp}
use Rattle.std.specs.Str.{bytes_eq}
use Rattle.jasmin_words.specs.declared.fault.FaultKind.{FaultKind}
use Rattle.jasmin_words.specs.declared.fault.FaultKind.TheVariants as fault
use Rattle.sequence.specs.Gives.{◌>>=◌}
use Rattle.jasmin_words.specs.Lexing.{Item, Colon}
use Rattle.jasmin_text.specs.Forms.{form_at, is_left_out}
use Rattle.jasmin_text.specs.Grammar.{Row, InstructionRow, TableRow, LookupRow, TargetRow, CaseRow, DefaultRow}
use Rattle.jasmin_text.specs.declared.form.Form.{Form}
use Rattle.jasmin_text.specs.declared.instruction.Instruction.{Instruction}
use Rattle.jasmin_text.specs.declared.instruction.Instruction.TheVariants as instruction
use Rattle.jasmin_reader.specs.declared.said.Listed.{Listed}
use Rattle.jasmin_reader.specs.declared.said.Listed.TheVariants as listed
use Rattle.jasmin_reader.specs.declared.switch.Switch.{Switch}
use Rattle.jasmin_reader.specs.declared.switch.Switch.TheVariants as switch
use Rattle.jasmin_reader.specs.declared.switch.Table.{Table}
use Rattle.jasmin_reader.specs.Places.{wanted_or, misplaced, within_limit, ended_at}
use Rattle.jasmin_reader.specs.Operands.{label_in, integer_in, labels_between, last_operand, begun_at}

-- with labels as targets; the switch that is not at its end; and how many instructions, labels and keys of
-- switches may still come
pub record Listing : Type 0 where
  pub instructions : List (Instruction (List ℕ))
  pub switch : Option Switch
  pub room : ℕ

abbrev pub empty_listing : Listing
empty_listing = record { instructions = []; switch = None; room = 16384 }

abbrev pub opened : Option Switch → ℕ
opened None = 0
opened (Some s) = 1

-- what has come took its room
abbrev pub IsWithinRoom : Listing → Type 0
IsWithinRoom l = length l.instructions + opened l.switch + l.room ≤ 16384

-- ---- what a row adds

-- the keys that are there already, rising
abbrev pub Cases : Type 0
Cases = List (ℤ × List ℕ)

abbrev pub case_of : Cases → ℤ → Option (List ℕ)
case_of cases key = lookup (is_at (int_cmp key)) cases

abbrev pub with_key : Cases → ℤ → List ℕ → Cases
with_key cases key label = insert_entry int_cmp cases key label

-- in a switch, where there is room for one
abbrev pub with_switch : Listing → Switch → Listing
with_switch l s = if l.room == 0 then l else record l { switch = Some s; room = l.room - 1 }

-- a switch, with the label for all other keys
abbrev pub end_of : Switch → List ℕ → Instruction (List ℕ)
end_of (switch.Table t) label = instruction.TableSwitch t.low t.labels label
end_of (switch.Lookup cases) label = instruction.LookupSwitch cases label

-- with a row, by the switch that is not at its end; whether the row is allowed there is asked before
abbrev pub listed_by : Listing → Option Switch → Row → Listing
listed_by l o (InstructionRow i) = if l.room == 0 then l else record l { instructions = l.instructions ++ i ∷ []; room = l.room - 1 }
listed_by l o (TableRow low high) = with_switch l (switch.Table (record { low = low; high = high; labels = [] }))
listed_by l o LookupRow = with_switch l (switch.Lookup [])
listed_by l (Some (switch.Table t)) (TargetRow label) = record l { switch = Some (switch.Table (record t { labels = t.labels ++ label ∷ [] })); room = l.room - 1 }
listed_by l (Some (switch.Lookup cases)) (CaseRow key label) = record l { switch = Some (switch.Lookup (with_key cases key label)); room = l.room - 1 }
listed_by l (Some s) (DefaultRow label) = record l { instructions = l.instructions ++ end_of s label ∷ []; switch = None }
listed_by l o row = l

abbrev pub with_listed : Listing → Row → Listing
with_listed l row = listed_by l l.switch row

-- what the code says of such a line, as the grammar's row
abbrev pub listed_row : Listed → Row
listed_row (listed.Instruction i) = InstructionRow i
listed_row (listed.Table low high) = TableRow low high
listed_row listed.Lookup = LookupRow
listed_row (listed.Target label) = TargetRow label
listed_row (listed.Case key label) = CaseRow key label
listed_row (listed.Default label) = DefaultRow label

-- ---- outside of switches

abbrev pub has_room : ℕ → Result (Unit {0}) FaultKind
has_room room = if room == 0 then Err fault.LimitExceeded else Ok tt

-- a word that begins no instruction
abbrev pub unknown_word : List ℕ → FaultKind
unknown_word w = if is_left_out w then fault.LeftOut else fault.UnknownInstruction

abbrev pub instruction_by : ℕ → List ℕ → List Item → Option Form → Result Row FaultKind
instruction_by room w rest None = Err (unknown_word w)
instruction_by room w rest (Some f) = within_limit w >>= λ _. has_room room >>= λ _. begun_at f rest

-- what a line says that begins with this word, outside of a switch
unfoldable pub instruction_at : ℕ → List ℕ → List Item → Result Row FaultKind
instruction_at room w rest = instruction_by room w rest (form_at w)

-- ---- in switches

-- what follows a colon
abbrev pub behind_colon : List Item → Option (List Item)
behind_colon [] = None
behind_colon (Colon ∷ rest) = Some rest
behind_colon (other ∷ rest) = None

-- a colon, and what follows it
abbrev pub colon_from : List Item → Result (List Item) FaultKind
colon_from [] = Err fault.BadOperand
colon_from (Colon ∷ rest) = Ok rest
colon_from (other ∷ rest) = Err (misplaced other)

abbrev pub is_default : List ℕ → Bool
is_default w = bytes_eq w (codes "default")

-- where a last key is given, each key has one label: one more may come after so many
abbrev pub takes_label : ℤ → ℕ → Option ℤ → Result (Unit {0}) FaultKind
takes_label low count None = Ok tt
takes_label low count (Some high) = labels_between low high >>= λ n. wanted_or (nat_lt count n) fault.BadOperand

-- and so many are all
abbrev pub is_full : ℤ → ℕ → Option ℤ → Result (Unit {0}) FaultKind
is_full low count None = Ok tt
is_full low count (Some high) = labels_between low high >>= λ n. wanted_or (count == n) fault.BadOperand

-- one label of a tableswitch
unfoldable pub target_at : ℕ → Table → List ℕ → List Item → Result Row FaultKind
target_at room t w rest = label_in w >>= λ label. takes_label t.low (length t.labels) t.high >>= λ _. within_limit w >>= λ _. has_room room >>= λ _.
    ended_at rest >>= λ _. Ok (TargetRow label)

-- the last line of a tableswitch, after default and its colon
unfoldable pub table_end : Table → List Item → Result Row FaultKind
table_end t rest = is_full t.low (length t.labels) t.high >>= λ _. last_operand label_in rest >>= λ label. Ok (DefaultRow label)

abbrev pub table_by : ℕ → Table → List ℕ → List Item → Option (List Item) → Result Row FaultKind
table_by room t w rest None = target_at room t w rest
table_by room t w rest (Some after) = if is_default w then table_end t after else target_at room t w rest

-- a new key
abbrev pub key_in : Cases → List ℕ → Result ℤ FaultKind
key_in cases w = integer_in w >>= λ key. wanted_or (not (is_some (case_of cases key))) fault.BadOperand >>= λ _. Ok key

-- one key of a lookupswitch, a colon, and its label; the keys may come in any order
unfoldable pub case_at : ℕ → Cases → List ℕ → List Item → Result Row FaultKind
case_at room cases w rest = key_in cases w >>= λ key. within_limit w >>= λ _. has_room room >>= λ _.
    colon_from rest >>= λ after. last_operand label_in after >>= λ label. Ok (CaseRow key label)

-- the last line of a lookupswitch, after default
unfoldable pub lookup_end : List Item → Result Row FaultKind
lookup_end rest = colon_from rest >>= λ after. last_operand label_in after >>= λ label. Ok (DefaultRow label)

-- what a line says in a switch that begins with this word; in a tableswitch default may be a label
unfoldable pub switch_at : ℕ → Switch → List ℕ → List Item → Result Row FaultKind
switch_at room (switch.Table t) w rest = table_by room t w rest (behind_colon rest)
switch_at room (switch.Lookup cases) w rest = if is_default w then lookup_end rest else case_at room cases w rest
