-- A class, line by line, with the first fault that is met. "Own choice" marks this project's own choice (docs/JASMIN.md).
use Rattle.std.specs.Prelude.{ℕ, Bool, false, not, ◌||◌, ◌+◌, List, [], ◌∷◌, ◌++◌, length, Option, Some, None, is_some, is_none, Result, Ok, Err, ◌==◌, if◌then◌else◌, nat_lt}
use Rattle.std.specs.Option.{option_map}
use Rattle.descriptors.specs.Signature.{Signature}
use Rattle.jasmin_words.specs.declared.fault.FaultKind.{FaultKind}
use Rattle.jasmin_words.specs.declared.fault.FaultKind.TheVariants as fault
use Rattle.sequence.specs.Gives.{◌>>=◌}
use Rattle.jasmin_words.specs.Lexing.{Item}
use Rattle.jasmin_words.specs.Names.{is_label}
use Rattle.jasmin_text.specs.Forms.{form_at, directive_at}
use Rattle.jasmin_text.specs.Grammar.{Row, ClassRow, SuperRow, ImplementsRow, FieldRow, MethodRow}
use Rattle.jasmin_text.specs.declared.access.Access.{Access}
use Rattle.jasmin_text.specs.declared.form.Form.{Form}
use Rattle.jasmin_text.specs.declared.form.Directive.{Directive}
use Rattle.jasmin_text.specs.declared.form.Directive.TheVariants as directive
use Rattle.jasmin_reader.specs.declared.head.Place.TheVariants as place
use Rattle.jasmin_reader.specs.declared.body.Body.{Body}
use Rattle.jasmin_reader.specs.declared.said.Said.{Said}
use Rattle.jasmin_reader.specs.declared.said.Said.TheVariants as said
use Rattle.jasmin_reader.specs.declared.reader.Reader.{Reader}
use Rattle.jasmin_reader.specs.Places.{wanted_or, ended_at, first_word}
use Rattle.jasmin_reader.specs.Operands.{last_operand, begins_with}
use Rattle.jasmin_text.specs.MemberWords.{class_name_in}
use Rattle.jasmin_reader.specs.Heads.{class_from, field_from, method_from}
use Rattle.jasmin_reader.specs.Listing.{empty_listing, behind_colon, unknown_word}
use Rattle.jasmin_reader.specs.Bodies.{statement_at, limit_from, catch_from, setting_row, with_setting, end_from, outside_switch, closed}

-- ---- outside of methods

-- after .class and outside of methods
abbrev pub is_in_class : Reader → Bool
is_in_class r = not (is_none r.class || is_some r.body)

-- and before the first field or method
abbrev pub is_in_header : Reader → Bool
is_in_header r = not (is_none r.class || is_some r.body || not (length r.fields == 0) || not (length r.methods == 0))

-- at most 1,024 fields and methods
abbrev pub member_room : Reader → Bool
member_room r = nat_lt (length r.fields + length r.methods) 1024

-- limits that no line gives are 1,024: own choice
abbrev pub empty_body : Access → List ℕ → Signature → Body
empty_body a name m = record { access = a; name = name; method_type = m; stack = 1024; locals = 1024; labels = []; catches = []; listing = empty_listing }

-- a method is open, and no switch in it
abbrev pub open_at : Option Body → Result (Unit {0}) FaultKind
open_at None = Err fault.Misplaced
open_at (Some b) = outside_switch b

-- Where the line of a directive may stand, and whether there is room for what it says: one line names the class,
-- at most one the superclass, and at most 255 name superinterfaces.
abbrev pub may_stand : Reader → Directive → Result (Unit {0}) FaultKind
may_stand r directive.Class = wanted_or (is_none r.class) fault.Misplaced
may_stand r directive.Interface = wanted_or (is_none r.class) fault.Misplaced
may_stand r directive.Super = wanted_or (is_in_header r) fault.Misplaced >>= λ _. wanted_or (is_none r.superclass) fault.Misplaced
may_stand r directive.Implements = wanted_or (is_in_header r) fault.Misplaced >>= λ _. wanted_or (nat_lt (length r.interfaces) 255) fault.LimitExceeded
may_stand r directive.Field = wanted_or (is_in_class r) fault.Misplaced >>= λ _. wanted_or (member_room r) fault.LimitExceeded
may_stand r directive.Method = wanted_or (is_in_class r) fault.Misplaced >>= λ _. wanted_or (member_room r) fault.LimitExceeded
may_stand r directive.Limit = open_at r.body
may_stand r directive.Catch = open_at r.body
may_stand r other = Ok tt

-- what follows a directive; one that says nothing of a class is left out
unfoldable pub said_in : Directive → List Item → Result Row FaultKind
said_in directive.Class items = class_from place.Class items >>= λ c. Ok (ClassRow c.0.kind c.0.access c.1)
said_in directive.Interface items = class_from place.Interface items >>= λ c. Ok (ClassRow c.0.kind c.0.access c.1)
said_in directive.Super items = last_operand class_name_in items >>= λ name. Ok (SuperRow name)
said_in directive.Implements items = last_operand class_name_in items >>= λ name. Ok (ImplementsRow name)
said_in directive.Field items = field_from items >>= λ f. Ok (FieldRow f)
said_in directive.Method items = method_from items >>= λ m. Ok (MethodRow m.0 m.1.0 m.1.1)
said_in directive.Limit items = limit_from items
said_in directive.Catch items = catch_from items
said_in other items = Err fault.LeftOut

-- the class with what a line says
abbrev pub with_row : Reader → Row → Reader
with_row r (ClassRow k a name) = record r { class = Some (record { kind = k; access = a }, name) }
with_row r (SuperRow name) = record r { superclass = Some name }
with_row r (ImplementsRow name) = record r { interfaces = r.interfaces ++ name ∷ [] }
with_row r (FieldRow f) = record r { fields = r.fields ++ f ∷ [] }
with_row r (MethodRow a name type) = record r { body = Some (empty_body a name type) }
with_row r row = record r { body = option_map (λ b. with_setting b row) r.body }

-- what the code says of such a line, as the grammar's row
abbrev pub said_row : Said → Row
said_row (said.Class c) = ClassRow c.0.kind c.0.access c.1
said_row (said.Super name) = SuperRow name
said_row (said.Implements name) = ImplementsRow name
said_row (said.Field f) = FieldRow f
said_row (said.Method m) = MethodRow m.access m.name m.method_type
said_row (said.Setting s) = setting_row s

-- ---- in methods

abbrev pub ended_by : Reader → List Item → Option Body → Result Reader FaultKind
ended_by r rest None = Err fault.Misplaced
ended_by r rest (Some b) = outside_switch b >>= λ _. closed b >>= λ m. ended_at rest >>= λ _. Ok (record r { methods = r.methods ++ m ∷ []; body = None })

-- .end method: what is wrong with the method as a whole is met there
unfoldable pub end_line : Reader → List Item → Result Reader FaultKind
end_line r items = end_from items >>= λ rest. ended_by r rest r.body

-- A line that begins with this directive: all its faults are found before what it says is added. At the end of a
-- method the two are one.
unfoldable pub directive_line : Reader → Directive → List Item → Result Reader FaultKind
directive_line r directive.End items = end_line r items
directive_line r directive.Skipped items = Ok r
directive_line r d items = may_stand r d >>= λ _. said_in d items >>= λ row. Ok (with_row r row)

-- an instruction or a label outside of a method
abbrev pub stray_by : List ℕ → Option (List Item) → Option Form → FaultKind
stray_by w (Some after) form = if is_label w then fault.Misplaced else fault.UnknownInstruction
stray_by w None (Some f) = fault.Misplaced
stray_by w None None = unknown_word w

abbrev pub statement_line : Reader → List ℕ → List Item → Option Body → Result Reader FaultKind
statement_line r w rest None = Err (stray_by w (behind_colon rest) (form_at w))
statement_line r w rest (Some b) = statement_at b w rest >>= λ c. Ok (record r { body = Some c })

abbrev pub line_by : Reader → List ℕ → List Item → Option Directive → Result Reader FaultKind
line_by r w rest (Some d) = directive_line r d rest
line_by r w rest None = if begins_with 46 w then Err fault.UnknownDirective else statement_line r w rest r.body

abbrev pub is_in_switch : Option Body → Bool
is_in_switch None = false
is_in_switch (Some b) = is_some b.listing.switch

-- the fault of a line that begins with no word: in a switch a label or a key is wanted there
abbrev pub no_word : Option Body → FaultKind
no_word body = if is_in_switch body then fault.BadOperand else fault.UnknownInstruction

-- what a line adds
unfoldable pub line_at : Reader → List Item → Result Reader FaultKind
line_at r [] = Ok r
line_at r (t ∷ rest) = first_word (no_word r.body) t >>= λ w. line_by r w rest (directive_at w)
