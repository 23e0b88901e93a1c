-- What the lines in a method add to it.
use Rattle.std.specs.Prelude.{ℕ, Bool, true, false, ◌&&◌, List, [], ◌∷◌, ◌++◌, length, Option, Some, None, is_some, Result, Ok, Err, ◌==◌, if◌then◌else◌, ℤ, codes}
use Rattle.std.specs.Option.{ok_or}
use Rattle.std.specs.Str.{bytes_eq}
use Rattle.jasmin_words.specs.declared.fault.FaultKind.{FaultKind}
use Rattle.jasmin_words.specs.declared.fault.FaultKind.TheVariants as fault
use Rattle.sequence.specs.Gives.{◌>>=◌}
use Rattle.jasmin_words.specs.Lexing.{Item}
use Rattle.jasmin_words.specs.Names.{is_label}
use Rattle.jasmin_text.specs.Forms.{directive_at}
use Rattle.jasmin_text.specs.Grammar.{Row, StackRow, LocalsRow, CatchRow, LabelRow, place_of}
use Rattle.jasmin_text.specs.declared.class_text.Code.{Code}
use Rattle.jasmin_text.specs.declared.class_text.Handler.{Handler}
use Rattle.jasmin_text.specs.declared.class_text.Method.{Method}
use Rattle.jasmin_text.specs.declared.form.Directive.{Directive}
use Rattle.jasmin_text.specs.declared.form.Directive.TheVariants as directive
use Rattle.jasmin_text.specs.declared.instruction.Instruction.{Instruction}
use Rattle.jasmin_text.specs.declared.instruction.Instruction.TheVariants as instruction
use Rattle.jasmin_reader.specs.declared.body.Body.{Body}
use Rattle.jasmin_reader.specs.declared.body.Catch.{Catch}
use Rattle.jasmin_reader.specs.declared.body.Setting.{Setting}
use Rattle.jasmin_reader.specs.declared.body.Setting.TheVariants as setting
use Rattle.jasmin_reader.specs.declared.switch.Switch.{Switch}
use Rattle.jasmin_reader.specs.Places.{within_limit, next_word, operand, ended_at, first_word}
use Rattle.jasmin_reader.specs.Operands.{label_in, limit_in, last_operand, begins_with}
use Rattle.jasmin_text.specs.MemberWords.{class_name_in}
use Rattle.jasmin_reader.specs.Listing.{with_listed, instruction_at, switch_at, behind_colon}

-- ---- what a row adds

-- an instruction, or a line of a switch
abbrev pub listed_with : Body → Row → Body
listed_with b row = record b { listing = with_listed b.listing row }

-- what the code says of the line of a directive, as the grammar's row
abbrev pub setting_row : Setting → Row
setting_row (setting.Stack n) = StackRow n
setting_row (setting.Locals n) = LocalsRow n
setting_row (setting.Catch c) = CatchRow c.class c.from c.to c.handler

-- The method with what a row says: the last limit counts, and a label comes before the next instruction.
abbrev pub with_setting : Body → Row → Body
with_setting b (StackRow n) = record b { stack = n }
with_setting b (LocalsRow n) = record b { locals = n }
with_setting b (CatchRow class from to handler) = record b { catches = b.catches ++ record { class = class; from = from; to = to; handler = handler } ∷ [] }
with_setting b (LabelRow l) = record b { labels = b.labels ++ (l, length b.listing.instructions) ∷ [] }
with_setting b row = listed_with b row

-- ---- labels and instructions

abbrev pub new_label : Option ℕ → Result (Unit {0}) FaultKind
new_label None = Ok tt
new_label (Some place) = Err fault.RepeatedLabel

-- a label that is nowhere else
unfoldable pub label_at : Body → List ℕ → Result Row FaultKind
label_at b w =
    if is_label w then (new_label (place_of b.labels w) >>= λ _. within_limit w >>= λ _. Ok (LabelRow w))
    else Err fault.UnknownInstruction

-- All faults of an instruction, or of a line of a switch, are found before what it says is added. A label before it on its line
-- is added first.
abbrev pub listed : Body → Result Row FaultKind → Result Body FaultKind
listed b read = read >>= λ row. Ok (listed_with b row)

-- what follows .end; anything there but the word method is left out
unfoldable pub end_from : List Item → Result (List Item) FaultKind
end_from [] = Err fault.BadOperand
end_from (t ∷ rest) = first_word fault.LeftOut t >>= λ w. if bytes_eq w (codes "method") then Ok rest else Err fault.LeftOut

-- a directive where none is allowed; of .end the next word is looked at
unfoldable pub no_directive : Directive → List Item → FaultKind
no_directive directive.LeftOut rest = fault.LeftOut
no_directive directive.End rest = elim (end_from rest) [ Ok x ↦ fault.Misplaced | Err k ↦ k ]
no_directive other rest = fault.Misplaced

abbrev pub labelled_by : Body → List ℕ → List Item → Option Directive → Result Body FaultKind
labelled_by b w rest (Some d) = Err (no_directive d rest)
labelled_by b w rest None = if begins_with 46 w then Err fault.UnknownDirective else listed b (instruction_at b.listing.room w rest)

-- what may follow a label on its line
unfoldable pub labelled_at : Body → List Item → Result Body FaultKind
labelled_at b [] = Ok b
labelled_at b (t ∷ rest) = first_word fault.UnknownInstruction t >>= λ w. labelled_by b w rest (directive_at w)

abbrev pub plain_by : Body → List ℕ → List Item → Option (List Item) → Result Body FaultKind
plain_by b w rest None = listed b (instruction_at b.listing.room w rest)
plain_by b w rest (Some after) = label_at b w >>= λ row. labelled_at (with_setting b row) after

abbrev pub statement_by : Body → List ℕ → List Item → Option Switch → Result Body FaultKind
statement_by b w rest None = plain_by b w rest (behind_colon rest)
statement_by b w rest (Some s) = listed b (switch_at b.listing.room s w rest)

-- a line that begins with this word, which is no directive
unfoldable pub statement_at : Body → List ℕ → List Item → Result Body FaultKind
statement_at b w rest = statement_by b w rest b.listing.switch

-- ---- limits and handler tables

-- no directive is in a switch
abbrev pub outside_switch : Body → Result (Unit {0}) FaultKind
outside_switch b = if is_some b.listing.switch then Err fault.Misplaced else Ok tt

abbrev pub limit_by : Bool → Bool → List Item → Result Row FaultKind
limit_by true is_locals rest = last_operand limit_in rest >>= λ n. Ok (StackRow n)
limit_by false true rest = last_operand limit_in rest >>= λ n. Ok (LocalsRow n)
limit_by false false rest = Err fault.BadOperand

-- after .limit
abbrev pub limit_from : List Item → Result Row FaultKind
limit_from items = next_word items >>= λ w. limit_by (bytes_eq w.0 (codes "stack")) (bytes_eq w.0 (codes "locals")) w.1

abbrev pub caught_in : List ℕ → Result (Option (List ℕ)) FaultKind
caught_in w = if bytes_eq w (codes "all") then Ok None else class_name_in w >>= λ name. Ok (Some name)

-- this word
abbrev pub keyword_in : List ℕ → List ℕ → Result (Unit {0}) FaultKind
keyword_in keyword w = if bytes_eq w keyword then Ok tt else Err fault.BadOperand

-- a label after this word
abbrev pub label_behind : List ℕ → List Item → Result (List ℕ × List Item) FaultKind
label_behind keyword items = operand (keyword_in keyword) items >>= λ k. operand label_in k.1

-- the labels of the place after a range and of its handler
abbrev pub last_labels_from : List Item → Result (List ℕ × List ℕ) FaultKind
last_labels_from items = label_behind (codes "to") items >>= λ to. label_behind (codes "using") to.1 >>= λ handler. ended_at handler.1 >>= λ _. Ok (to.0, handler.0)

-- the row that catches these, by the labels that follow
abbrev pub row_from : Option (List ℕ) → List Item → Result Row FaultKind
row_from class items = label_behind (codes "from") items >>= λ from. last_labels_from from.1 >>= λ ends. Ok (CatchRow class from.0 ends.0 ends.1)

-- after .catch: a row of the handler table by labels
unfoldable pub catch_from : List Item → Result Row FaultKind
catch_from items = operand caught_in items >>= λ class. row_from class.0 class.1

-- ---- the end

abbrev pub placed_label : List (List ℕ × ℕ) → List ℕ → Result ℕ FaultKind
placed_label labels l = ok_or (place_of labels l) fault.UnknownLabel

-- what f gives of each, up to the first fault
unfoldable pub each : {A B : Type 0} → (A → Result B FaultKind) → List A → Result (List B) FaultKind
each f [] = Ok []
each f (x ∷ xs) = f x >>= λ y. each f xs >>= λ ys. Ok (y ∷ ys)

abbrev pub placed_labels : List (List ℕ × ℕ) → List (List ℕ) → Result (List ℕ) FaultKind
placed_labels labels ls = each (placed_label labels) ls

abbrev pub placed_case : List (List ℕ × ℕ) → ℤ × List ℕ → Result (ℤ × ℕ) FaultKind
placed_case labels c = placed_label labels c.1 >>= λ place. Ok (c.0, place)

abbrev pub placed_cases : List (List ℕ × ℕ) → List (ℤ × List ℕ) → Result (List (ℤ × ℕ)) FaultKind
placed_cases labels cs = each (placed_case labels) cs

-- an instruction with places for its labels
unfoldable pub placed : List (List ℕ × ℕ) → Instruction (List ℕ) → Result (Instruction ℕ) FaultKind
placed labels (instruction.Plain p) = Ok (instruction.Plain p)
placed labels (instruction.Constant c) = Ok (instruction.Constant c)
placed labels (instruction.Local l n) = Ok (instruction.Local l n)
placed labels (instruction.Increment n by) = Ok (instruction.Increment n by)
placed labels (instruction.Jump j l) = placed_label labels l >>= λ place. Ok (instruction.Jump j place)
placed labels (instruction.TableSwitch low ls d) = placed_labels labels ls >>= λ places. placed_label labels d >>= λ place. Ok (instruction.TableSwitch low places place)
placed labels (instruction.LookupSwitch cs d) = placed_cases labels cs >>= λ cases. placed_label labels d >>= λ place. Ok (instruction.LookupSwitch cases place)
placed labels (instruction.Field f r) = Ok (instruction.Field f r)
placed labels (instruction.Call c r) = Ok (instruction.Call c r)
placed labels (instruction.CallInterface r) = Ok (instruction.CallInterface r)
placed labels (instruction.New name) = Ok (instruction.New name)
placed labels (instruction.NewArray b) = Ok (instruction.NewArray b)
placed labels (instruction.TypeUse t r) = Ok (instruction.TypeUse t r)

abbrev pub all_placed : List (List ℕ × ℕ) → List (Instruction (List ℕ)) → Result (List (Instruction ℕ)) FaultKind
all_placed labels is = each (placed labels) is

abbrev pub handler_of : Option (List ℕ) → ℕ → ℕ → ℕ → Handler
handler_of class from to handler = record { class = class; from = from; to = to; handler = handler }

-- a row of the handler table with places for its labels
unfoldable pub placed_catch : List (List ℕ × ℕ) → Catch → Result Handler FaultKind
placed_catch labels c = placed_label labels c.from >>= λ from. placed_label labels c.to >>= λ to. placed_label labels c.handler >>= λ handler. Ok (handler_of c.class from to handler)

abbrev pub placed_catches : List (List ℕ × ℕ) → List Catch → Result (List Handler) FaultKind
placed_catches labels cs = each (placed_catch labels) cs

-- neither an instruction nor a label nor a row of the handler table
abbrev pub has_nothing : Body → Bool
has_nothing b = length b.listing.instructions == 0 && length b.labels == 0 && length b.catches == 0

-- a body is demanded unless abstract is there, and not allowed under it
abbrev pub body_of : Body → List (Instruction ℕ) → List Handler → Result (Option Code) FaultKind
body_of b is hs =
    if b.access.is_abstract then (if has_nothing b then Ok None else Err fault.BadBody)
    else if length b.listing.instructions == 0 then Err fault.BadBody
    else Ok (Some (record { stack = b.stack; locals = b.locals; handlers = hs; instructions = is }))

abbrev pub method_with : Body → Option Code → Method
method_with b code = record { access = b.access; name = b.name; method_type = b.method_type; code = code }

-- the method, at its end
unfoldable pub closed : Body → Result Method FaultKind
closed b = all_placed b.labels b.listing.instructions >>= λ is. placed_catches b.labels b.catches >>= λ hs. body_of b is hs >>= λ code.
    Ok (method_with b code)
