-- What a row of the grammar does to what is read.
use Rattle.std.proofs.Common.{◌≡◌, ℕ, Bool, true, not, false, List, [], ◌∷◌, ◌++◌, length, Option, Some, None, is_some, Result, Ok, Err, ℤ, refl, ap, ◌∙◌}
use Rattle.std.proofs.lemmas.Bool.{and_parts}
use Rattle.std.specs.List.{list_all}
use Rattle.jasmin_words.specs.declared.fault.FaultKind.{FaultKind}
use Rattle.jasmin_words.specs.declared.fault.FaultKind.TheVariants as fault
use Rattle.sequence.specs.Gives.{◌>>=◌}
use Rattle.sequence.proofs.Results.{bind_ok, done, given, then}
use Rattle.jasmin_text.specs.Grammar.{Row, ClassRow, SuperRow, ImplementsRow, FieldRow, MethodRow, EndRow, StackRow, LocalsRow, CatchRow, LabelRow, InstructionRow, TableRow, LookupRow, TargetRow, CaseRow, DefaultRow, place_of}
use Rattle.jasmin_text.specs.declared.form.Directive.TheVariants as directive
use Rattle.jasmin_reader.specs.declared.body.Body.{Body}
use Rattle.jasmin_reader.specs.declared.reader.Reader.{Reader}
use Rattle.jasmin_reader.specs.declared.switch.Switch.{Switch}
use Rattle.jasmin_reader.specs.declared.switch.Switch.TheVariants as switch
use Rattle.jasmin_reader.specs.Places.{wanted_or}
use Rattle.jasmin_reader.specs.Operands.{labels_between}
use Rattle.jasmin_reader.specs.Listing.{has_room, takes_label, is_full, case_of}
use Rattle.jasmin_reader.specs.Bodies.{new_label, outside_switch, with_setting}
use Rattle.jasmin_reader.specs.Reading.{may_stand, with_row, ended_by}

-- ---- where a row may come in a method

-- a last key is at least just below the first
abbrev pub may_reach : ℤ → Option ℤ → Result (Unit {0}) FaultKind
may_reach low None = Ok tt
may_reach low (Some high) = labels_between low high >>= λ _. Ok tt

-- in the listing, by its room and the switch that is not at its end
abbrev pub may_list : ℕ → Option Switch → Row → Result (Unit {0}) FaultKind
may_list room None (InstructionRow i) = has_room room
may_list room None (TableRow low high) = has_room room >>= λ _. may_reach low high
may_list room None LookupRow = has_room room
may_list room (Some (switch.Table t)) (TargetRow label) = takes_label t.low (length t.labels) t.high >>= λ _. has_room room
may_list room (Some (switch.Table t)) (DefaultRow label) = is_full t.low (length t.labels) t.high
may_list room (Some (switch.Lookup cases)) (CaseRow key label) = wanted_or (not (is_some (case_of cases key))) fault.BadOperand >>= λ _. has_room room
may_list room (Some (switch.Lookup cases)) (DefaultRow label) = Ok tt
may_list room o row = Err fault.Misplaced

abbrev pub may_set : Body → Row → Result (Unit {0}) FaultKind
may_set b (StackRow n) = outside_switch b
may_set b (LocalsRow n) = outside_switch b
may_set b (CatchRow class from to using) = outside_switch b
may_set b (LabelRow l) = outside_switch b >>= λ _. new_label (place_of b.labels l)
may_set b row = may_list b.listing.room b.listing.switch row

abbrev pub body_row : Body → Row → Result Body FaultKind
body_row b row = may_set b row >>= λ _. Ok (with_setting b row)

abbrev pub body_rows : Body → List Row → Result Body FaultKind
body_rows b [] = Ok b
body_rows b (row ∷ rows) = body_row b row >>= λ c. body_rows c rows

-- ---- in a class

abbrev pub is_body_row : Row → Bool
is_body_row (ClassRow k a name) = false
is_body_row (SuperRow name) = false
is_body_row (ImplementsRow name) = false
is_body_row (FieldRow f) = false
is_body_row (MethodRow a name type) = false
is_body_row EndRow = false
is_body_row other = true

abbrev pub may_set_in : Option Body → Row → Result (Unit {0}) FaultKind
may_set_in None row = Err fault.Misplaced
may_set_in (Some b) row = may_set b row

abbrev pub may_add : Reader → Row → Result (Unit {0}) FaultKind
may_add r (ClassRow k a name) = may_stand r directive.Class
may_add r (SuperRow name) = may_stand r directive.Super
may_add r (ImplementsRow name) = may_stand r directive.Implements
may_add r (FieldRow f) = may_stand r directive.Field
may_add r (MethodRow a name type) = may_stand r directive.Method
may_add r (StackRow n) = may_stand r directive.Limit
may_add r (LocalsRow n) = may_stand r directive.Limit
may_add r (CatchRow class from to using) = may_stand r directive.Catch
may_add r row = may_set_in r.body row

abbrev pub row_at : Reader → Row → Result Reader FaultKind
row_at r EndRow = ended_by r [] r.body
row_at r row = may_add r row >>= λ _. Ok (with_row r row)

abbrev pub rows_at : Reader → List Row → Result Reader FaultKind
rows_at r [] = Ok r
rows_at r (row ∷ rows) = row_at r row >>= λ s. rows_at s rows

pub rows_append : (r : Reader) (xs ys : List Row) → rows_at r (xs ++ ys) ≡ (rows_at r xs >>= λ s. rows_at s ys)
rows_append r [] ys = refl
rows_append r (x ∷ xs) ys = by (row_at r x) (λ s. rows_append s xs ys)
  where
    by : (y : Result Reader FaultKind) → ((s : Reader) → rows_at s (xs ++ ys) ≡ (rows_at s xs >>= λ t. rows_at t ys)) → (y >>= λ s. rows_at s (xs ++ ys)) ≡ ((y >>= λ s. rows_at s xs) >>= λ t. rows_at t ys)
    by (Ok s) h = h s
    by (Err k) h = refl

-- a row in a method that is open
pub row_in_method : (row : Row) → is_body_row row ≡ true → (r : Reader) (b : Body) → row_at (record r { body = Some b }) row ≡ (may_set b row >>= λ _. done (record r { body = Some (with_setting b row) }))
row_in_method EndRow h r b = absurd cc
row_in_method row h r b = cc

-- the rows of a method
pub rows_in_method : (rows : List Row) → list_all is_body_row rows ≡ true → (r : Reader) (b last : Body) → body_rows b rows ≡ Ok last → rows_at (record r { body = Some b }) rows ≡ Ok (record r { body = Some last })
rows_in_method [] h r b last e = given (λ (x : Body). rows_at (record r { body = Some b }) [] ≡ Ok (record r { body = Some x })) e refl
rows_in_method (row ∷ rows) h r b last e =
    let p = and_parts (is_body_row row) (list_all is_body_row rows) h in
    let one = bind_ok (body_row b row) _ last e in
    let may = bind_ok (may_set b row) _ one.0 one.1 in
    let here = ap (λ (x : Result Body FaultKind). x >>= λ c. done (record r { body = Some c })) may.2 in
    let step : row_at (record r { body = Some b }) row ≡ Ok (record r { body = Some one.0 }) = row_in_method row p.0 r b ∙ then (may_set b row) _ may.0 _ may.1 here in
    ap (λ (x : Result Reader FaultKind). x >>= λ s. rows_at s rows) step ∙ rows_in_method rows p.1 r one.0 last one.2
