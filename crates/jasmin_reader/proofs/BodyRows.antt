-- The rows of a method, and what they add to the body of the grammar. Both ways.
use Rattle.std.proofs.Common.{◌≡◌, ℕ, zero, suc, ◌+◌, ◌-◌, ◌<◌, ◌≤◌, true, not, false, cond, eqb, List, [], ◌∷◌, ◌++◌, length, map, Option, Some, None, is_some, Result, Ok, Err, ℤ, refl, sym, ap, subst, ◌∙◌, arith, append_assoc, append-nil, length-append, lt-ltb}
use Rattle.std.proofs.Math.Dec.{eqb-suc-zero}
use Rattle.std.specs.List.{list_all}
use Rattle.std.proofs.lemmas.Bool.{eqb-true, eq-eqb, and_parts}
use Rattle.std.proofs.lemmas.List.{length_push, map_push}
use Rattle.descriptors.specs.Signature.{Signature}
use Rattle.jasmin_words.specs.declared.fault.FaultKind.{FaultKind}
use Rattle.jasmin_words.specs.declared.fault.FaultKind.TheVariants as fault
use Rattle.sequence.specs.Gives.{◌>>=◌}
use Rattle.sequence.proofs.Results.{bind_ok, done, back, test_passed, not_refused}
use Rattle.jasmin_text.specs.Grammar.{Row, StackRow, LocalsRow, CatchRow, LabelRow, InstructionRow, TableRow, LookupRow, TargetRow, CaseRow, DefaultRow, Body as Added, Catch, with_instruction as and_instruction, Cases, case_row, with_case, AreSorted, FitsHigh, IsBody, none, more, stack, locals, catch, label, operation, table, lookup, place_of}
use Rattle.jasmin_text.specs.declared.access.Access.{Access}
use Rattle.jasmin_text.specs.declared.instruction.Instruction.{Instruction}
use Rattle.jasmin_text.specs.declared.instruction.Instruction.TheVariants as instruction
use Rattle.jasmin_reader.specs.declared.body.Body.{Body}
use Rattle.jasmin_reader.specs.declared.body.Catch.{Catch as ReadCatch}
use Rattle.jasmin_reader.specs.declared.switch.Switch.{Switch}
use Rattle.jasmin_reader.specs.declared.switch.Switch.TheVariants as switch
use Rattle.jasmin_reader.specs.declared.switch.Table.{Table}
use Rattle.jasmin_reader.specs.Places.{wanted_or}
use Rattle.jasmin_reader.specs.Listing.{Listing, has_room, takes_label, is_full, case_of, with_key, listed_by}
use Rattle.jasmin_reader.specs.Operands.{labels_between}
use Rattle.jasmin_reader.specs.Bodies.{new_label, outside_switch}
use Rattle.jasmin_reader.proofs.GoodRows.{is_listed, listed_size, sizes, sizes_push, is_good_row}
use Rattle.jasmin_reader.proofs.OperandForms.{labels_counted, labels_ok}
use Rattle.jasmin_reader.proofs.RowSteps.{may_reach, may_list, may_set, body_row, body_rows}
use Rattle.jasmin_reader.proofs.SortedCases.{new_key_is, new_key_lacks, new_key_ok, with_case_length}

-- ---- labels of a tableswitch

fits_reach : (low : ℤ) (high : Option ℤ) (n : ℕ) → FitsHigh low high n → may_reach low high ≡ Ok tt
fits_reach low None n h = refl
fits_reach low (Some high) n h = rw (labels_counted low high n h) refl

fits_one : (low : ℤ) (high : Option ℤ) (m n : ℕ) → FitsHigh low high n → m < n → takes_label low m high ≡ Ok tt
fits_one low None m n h less = refl
fits_one low (Some high) m n h less = rw (labels_counted low high n h, lt-ltb m n less) refl

fits_full : (low : ℤ) (high : Option ℤ) (n : ℕ) → FitsHigh low high n → is_full low n high ≡ Ok tt
fits_full low None n h = refl
fits_full low (Some high) n h = rw (labels_counted low high n h, eq-eqb n n refl) refl

full_fits : (low : ℤ) (high : Option ℤ) (n : ℕ) (u : Unit {0}) → is_full low n high ≡ Ok u → FitsHigh low high n
full_fits low None n u e = tt
full_fits low (Some high) n u e =
    let one = bind_ok (labels_between low high) _ u e in
    let same = eqb-true n one.0 (test_passed (eqb n one.0) tt fault.BadOperand u one.2).0 in
    labels_ok low high n (one.1 ∙ ap done (sym same))

-- ---- what is in a method, in the reader and in the grammar

abbrev pub caught : ReadCatch → Catch
caught c = record { class = c.class; from = c.from; to = c.to; handler = c.handler }

abbrev pub read_catch : Catch → ReadCatch
read_catch c = record { class = c.class; from = c.from; to = c.to; handler = c.handler }

abbrev pub added : Body → Added
added b = record { stack = b.stack; locals = b.locals; labels = b.labels; catches = map caught b.catches; instructions = b.listing.instructions }

-- ---- rows that are taken are those of the grammar

-- up to the end of a tableswitch: the labels, the last one, and the rows after it
abbrev InTable : Added → Table → List Row → Added → Type 0
InTable g t rows h = (targets : List (List ℕ)) × (to : List ℕ) × (rest : List Row) × (rows ≡ map TargetRow targets ++ DefaultRow to ∷ rest)
    × FitsHigh t.low t.high (length (t.labels ++ targets)) × IsBody (and_instruction g (instruction.TableSwitch t.low (t.labels ++ targets) to)) rest h

-- up to the end of a lookupswitch: the cases, the same in order, the last label, and the rows after it
abbrev InLookup : Added → Cases → List Row → Added → Type 0
InLookup g acc rows h = (cases : Cases) × (sorted : Cases) × (to : List ℕ) × (rest : List Row) × (rows ≡ map case_row cases ++ DefaultRow to ∷ rest)
    × AreSorted acc cases sorted × IsBody (and_instruction g (instruction.LookupSwitch sorted to)) rest h

-- the rows that follow, in a switch or outside of one
abbrev Runs : Option Switch → Added → List Row → Added → Type 0
Runs None g rows h = IsBody g rows h
Runs (Some (switch.Table t)) g rows h = InTable g t rows h
Runs (Some (switch.Lookup acc)) g rows h = InLookup g acc rows h

pub outside_ok : {A : Type 0} (b : Body) (c : A) (x : Result A FaultKind) → (outside_switch b >>= λ _. x) ≡ Ok c → (b.listing.switch ≡ None) × (x ≡ Ok c)
outside_ok {A} b c x e = by b.listing.switch e
  where
    by : (o : Option Switch) → ((cond {A = Result (Unit {0}) FaultKind} (is_some o) (Err fault.Misplaced) (Ok tt)) >>= λ _. x) ≡ Ok c → (o ≡ None) × (x ≡ Ok c)
    by (Some s) e = absurd cc
    by None e = (refl, e)

-- the switch takes room as well
abbrev open_size : Option Switch → ℕ
open_size None = 0
open_size (Some (switch.Table t)) = length t.labels + 1
open_size (Some (switch.Lookup cases)) = length cases + 1

abbrev pub head_of : Body → Access × (List ℕ × Signature)
head_of b = (b.access, (b.name, b.method_type))

-- the rows lead from b to the last; there was room for what they added, and the head is the same
abbrev pub From : Option Switch → Body → List Row → Body → Type 0
From o b rows last = Runs o (added b) rows (added last) × (sizes last.listing.instructions ≤ sizes b.listing.instructions + open_size o + b.listing.room) × (head_of last ≡ head_of b)

abbrev Follows : List Row → Body → Body → Type 0
Follows rows last b = From b.listing.switch b rows last

-- a row that is outside of switches, and what it sets
plain_step : (row : Row) (rows : List Row) (b c last : Body) (s t : ℕ) (labels : List (List ℕ × ℕ)) (catches : List ReadCatch)
    → b.listing.switch ≡ None → done {F = FaultKind} (record b { stack = s; locals = t; labels = labels; catches = catches }) ≡ Ok c
    → (IsBody (added (record b { stack = s; locals = t; labels = labels; catches = catches })) rows (added last) → IsBody (added b) (row ∷ rows) (added last)) → Follows rows last c → Follows (row ∷ rows) last b
plain_step row rows b c last s t labels catches out e step follows =
    let d : Body = record b { stack = s; locals = t; labels = labels; catches = catches } in
    let f = subst (λ (o : Option Switch). From o d rows last) out (back (Follows rows last) e follows) in
    subst (λ (o : Option Switch). From o b (row ∷ rows) last) (sym out) (step f.0, f.1, f.2)

room_taken : (room : ℕ) (u : Unit {0}) → has_room room ≡ Ok u → 1 ≤ room
room_taken zero u e = absurd cc
room_taken (suc n) u e = omega arith

-- where there is room, what takes room is added
in_room : {A B : Type 0} (room : ℕ) (u : Unit {0}) (f : A → B) (full added : A) (z : B) → has_room room ≡ Ok u → done {F = FaultKind} (f (cond (eqb room 0) full added)) ≡ Ok z → (1 ≤ room) × (done {F = FaultKind} (f added) ≡ Ok z)
in_room room u f full it z h e = let some = not_refused (eqb room 0) _ _ u h in (room_taken room u h, rw some.0 at e)

-- a row of the listing
listing_step : (o : Option Switch) (row : Row) (rows : List Row) (b c last : Body) → b.listing.switch ≡ o → is_good_row row ≡ true → (may_list b.listing.room o row >>= λ _. done (record b { listing = listed_by b.listing o row })) ≡ Ok c → Follows rows last c
    → From o b (row ∷ rows) last
unfolding is_good_row
listing_step o row rows b c last here good e follows = let m = bind_ok (may_list b.listing.room o row) _ c e in by o row m.0 here good m.1 m.2
  where
    with_it : Listing → Body
    with_it l = record b { listing = l }

    -- what follows a listing
    after : (l : Listing) → done {F = FaultKind} (with_it l) ≡ Ok c → Follows rows last (with_it l)
    after l e = back (Follows rows last) e follows

    by : (o : Option Switch) (row : Row) (u : Unit {0}) → b.listing.switch ≡ o → is_good_row row ≡ true → may_list b.listing.room o row ≡ Ok u → done {F = FaultKind} (with_it (listed_by b.listing o row)) ≡ Ok c → From o b (row ∷ rows) last
    by None (InstructionRow i) u here good m e =
        let l : Listing = record b.listing { instructions = b.listing.instructions ++ i ∷ []; room = b.listing.room - 1 } in
        let r = in_room b.listing.room u with_it b.listing l c m e in
        let k = subst (λ (o : Option Switch). From o (with_it l) rows last) here (after l r.1) in
        let size = eqb-true (listed_size i) 1 (and_parts (is_listed i) (eqb (listed_size i) 1) good).1 in
        let n = sizes_push b.listing.instructions i in
        (operation k.0, omega (arith, n, size, r.0, k.1), k.2)
    by None (TableRow low high) u here good m e =
        let t : Table = record { low = low; high = high; labels = [] } in
        let l : Listing = record b.listing { switch = Some (switch.Table t); room = b.listing.room - 1 } in
        let room = bind_ok (has_room b.listing.room) _ u m in
        let r = in_room b.listing.room room.0 with_it b.listing l c room.1 e in
        let k = after l r.1 in
        let s : InTable (added b) t rows (added last) = k.0 in
        (table s.0 s.1 s.2 s.3 s.4 s.5, omega (arith, r.0, k.1), k.2)
    by None LookupRow u here good m e =
        let l : Listing = record b.listing { switch = Some (switch.Lookup []); room = b.listing.room - 1 } in
        let r = in_room b.listing.room u with_it b.listing l c m e in
        let k = after l r.1 in
        let t : InLookup (added b) [] rows (added last) = k.0 in
        (lookup t.0 t.1 t.2 t.3 t.4 t.5 t.6, omega (arith, r.0, k.1), k.2)
    by None row u here good m e = absurd cc
    by (Some (switch.Table t)) (TargetRow to) u here good m e =
        let one = bind_ok (takes_label t.low (length t.labels) t.high) _ u m in
        let r = room_taken b.listing.room u one.2 in
        let k = after (record b.listing { switch = Some (switch.Table (record t { labels = t.labels ++ to ∷ [] })); room = b.listing.room - 1 }) e in
        let n : InTable (added b) (record { low = t.low; high = t.high; labels = t.labels ++ to ∷ [] }) rows (added last) = k.0 in
        let same = append_assoc t.labels (to ∷ []) n.0 in
        let fits = subst (λ (ls : List (List ℕ)). FitsHigh t.low t.high (length ls)) same n.4 in
        let body = subst (λ (ls : List (List ℕ)). IsBody (and_instruction (added b) (instruction.TableSwitch t.low ls n.1)) n.2 (added last)) same n.5 in
        let more_labels = length_push t.labels to in
        ((to ∷ n.0, n.1, n.2, ap (λ (rs : List Row). TargetRow to ∷ rs) n.3, fits, body), omega (arith, more_labels, r, k.1), k.2)
    by (Some (switch.Table t)) (DefaultRow d) u here good m e =
        let i = instruction.TableSwitch t.low t.labels d in
        let k = after (record b.listing { instructions = b.listing.instructions ++ i ∷ []; switch = None }) e in
        let n = sizes_push b.listing.instructions i in
        let none_left = sym (append-nil t.labels) in
        let fits = subst (λ (ls : List (List ℕ)). FitsHigh t.low t.high (length ls)) none_left (full_fits t.low t.high (length t.labels) u m) in
        let body = subst (λ (ls : List (List ℕ)). IsBody (and_instruction (added b) (instruction.TableSwitch t.low ls d)) rows (added last)) none_left k.0 in
        (([], d, rows, refl, fits, body), omega (arith, n, k.1), k.2)
    by (Some (switch.Lookup acc)) (CaseRow key to) u here good m e =
        let free = bind_ok (wanted_or (not (is_some (case_of acc key))) fault.BadOperand) _ u m in
        let r = room_taken b.listing.room u free.2 in
        let k = after (record b.listing { switch = Some (switch.Lookup (with_key acc key to)); room = b.listing.room - 1 }) e in
        let n : InLookup (added b) (with_key acc key to) rows (added last) = k.0 in
        let lacks = new_key_lacks acc key (new_key_ok (case_of acc key) free.0 free.1) in
        let put = (new_key_is acc key to lacks).1 in
        let are : AreSorted acc ((key, to) ∷ n.0) n.1 = more lacks (subst (λ (cs : Cases). AreSorted cs n.0 n.1) put n.5) in
        let count = ap (λ (cs : Cases). length cs) put ∙ with_case_length (key, to) acc in
        (((key, to) ∷ n.0, n.1, n.2, n.3, ap (λ (rs : List Row). CaseRow key to ∷ rs) n.4, are, n.6), omega (arith, count, r, k.1), k.2)
    by (Some (switch.Lookup acc)) (DefaultRow d) u here good m e =
        let i = instruction.LookupSwitch acc d in
        let k = after (record b.listing { instructions = b.listing.instructions ++ i ∷ []; switch = None }) e in
        let n = sizes_push b.listing.instructions i in
        (([], acc, d, rows, refl, none, k.0), omega (arith, n, k.1), k.2)
    by (Some s) row u here good m e = absurd cc

new_ok : (o : Option ℕ) (u : Unit {0}) → new_label o ≡ Ok u → o ≡ None
new_ok None u e = refl
new_ok (Some place) u e = absurd cc

row_step : (row : Row) (rows : List Row) (b c last : Body) → is_good_row row ≡ true → body_row b row ≡ Ok c → Follows rows last c → Follows (row ∷ rows) last b
row_step (StackRow n) rows b c last good e follows = let o = outside_ok b c _ e in plain_step (StackRow n) rows b c last n b.locals b.labels b.catches o.0 o.1 (λ k. stack k) follows
row_step (LocalsRow n) rows b c last good e follows = let o = outside_ok b c _ e in plain_step (LocalsRow n) rows b c last b.stack n b.labels b.catches o.0 o.1 (λ k. locals k) follows
row_step (CatchRow class from to using) rows b c last good e follows =
    let x : ReadCatch = record { class = class; from = from; to = to; handler = using } in
    let o = outside_ok b c _ e in
    plain_step (CatchRow class from to using) rows b c last b.stack b.locals b.labels (b.catches ++ x ∷ []) o.0 o.1
    (λ k. catch (subst (λ (l : List Catch). IsBody (record (added b) { catches = l }) rows (added last)) (map_push caught b.catches x) k)) follows
row_step (LabelRow l) rows b c last good e follows =
    let m = bind_ok (may_set b (LabelRow l)) _ c e in
    let o = outside_ok b m.0 (new_label (place_of b.labels l)) m.1 in
    plain_step (LabelRow l) rows b c last b.stack b.locals (b.labels ++ (l, length b.listing.instructions) ∷ []) b.catches o.0 m.2 (λ k. label (new_ok (place_of b.labels l) m.0 o.1) k) follows
row_step row rows b c last good e follows = listing_step b.listing.switch row rows b c last refl good e follows

rows_taken : (rows : List Row) (b last : Body) → last.listing.switch ≡ None → list_all is_good_row rows ≡ true → body_rows b rows ≡ Ok last → Follows rows last b
rows_taken [] b last closes good e = back (Follows [] last) e (subst (λ (o : Option Switch). From o last [] last) (sym closes) (none, omega arith, refl))
rows_taken (row ∷ rows) b last closes good e =
    let q = and_parts (is_good_row row) (list_all is_good_row rows) good in
    let one = bind_ok (body_row b row) (λ c. body_rows c rows) last e in
    row_step row rows b one.0 last q.0 one.1 (rows_taken rows one.0 last closes q.1 one.2)

-- What is in a method that is read is what its rows say.
pub body_taken : (rows : List Row) (b last : Body) → b.listing.switch ≡ None → last.listing.switch ≡ None → list_all is_good_row rows ≡ true → body_rows b rows ≡ Ok last → From None b rows last
body_taken rows b last opens closes good e = subst (λ (o : Option Switch). From o b rows last) opens (rows_taken rows b last closes good e)

-- ---- room for what is read

some_room : (room : ℕ) → 0 < room → eqb room 0 ≡ false
some_room zero h = absurd (omega arith)
some_room (suc n) h = eqb-suc-zero n

is_some_size : (i : Instruction (List ℕ)) → 1 ≤ listed_size i
is_some_size (instruction.New name) = omega arith
is_some_size i = omega arith

-- ---- switches that are read

-- in a switch, and with the switch at its end
abbrev opened : Body → Switch → ℕ → Body
opened h s room = record h { listing = record { instructions = h.listing.instructions; switch = Some s; room = room } }

abbrev closed_by : Body → Instruction (List ℕ) → ℕ → Body
closed_by h i room = record h { listing = record { instructions = h.listing.instructions ++ i ∷ []; switch = None; room = room } }

targets_read : (h : Body) (low : ℤ) (high : Option ℤ) (d : List ℕ) (rest : List Row) (labels seen : List (List ℕ)) (room left : ℕ) → FitsHigh low high (length (seen ++ labels)) → left + length labels ≡ room
    → body_rows (opened h (switch.Table (record { low = low; high = high; labels = seen })) room) (map TargetRow labels ++ DefaultRow d ∷ rest) ≡ body_rows (closed_by h (instruction.TableSwitch low (seen ++ labels) d) left) rest
targets_read h low high d rest [] seen room left fits e =
    let same : room ≡ left = omega arith in
    let all = append-nil seen in
    rw (fits_full low high (length seen) (subst (λ (ls : List (List ℕ)). FitsHigh low high (length ls)) all fits), all, same) refl
targets_read h low high d rest (l ∷ ls) seen room left fits e =
    let same = append_assoc seen (l ∷ []) ls in
    let count = length-append seen (l ∷ ls) in
    let next = targets_read h low high d rest ls (seen ++ l ∷ []) (room - 1) left (subst (λ (all : List (List ℕ)). FitsHigh low high (length all)) (sym same) fits) (omega arith) in
    rw (fits_one low high (length seen) (length (seen ++ l ∷ ls)) fits (omega (arith, count)), some_room room (omega arith))
    (next ∙ ap (λ (all : List (List ℕ)). body_rows (closed_by h (instruction.TableSwitch low all d) left) rest) same)

cases_read : (h : Body) (d : List ℕ) (rest : List Row) (acc cases sorted : Cases) (room left : ℕ) → AreSorted acc cases sorted → left + length cases ≡ room
    → body_rows (opened h (switch.Lookup acc) room) (map case_row cases ++ DefaultRow d ∷ rest) ≡ body_rows (closed_by h (instruction.LookupSwitch sorted d) left) rest
cases_read h d rest acc cases sorted room left none e = let same : room ≡ left = omega arith in rw same refl
cases_read h d rest acc cases sorted room left (more {c} {cs} lacks are) e =
    let new = new_key_is acc c.0 c.1 lacks in
    rw (new.0, some_room room (omega arith), new.1) (cases_read h d rest (with_case c acc) cs sorted (room - 1) left are (omega arith))

sorted_length : (acc cases sorted : Cases) → AreSorted acc cases sorted → length sorted ≡ length acc + length cases
sorted_length acc cases sorted none = omega arith
sorted_length acc cases sorted (more {c} {cs} lacks are) = let ih = sorted_length (with_case c acc) cs sorted are in let n = with_case_length c acc in omega (arith, ih, n)

-- ---- rows that are read

-- the method h with this in its body, outside of switches, and this room
abbrev pub holding : Body → Added → ℕ → Body
holding h g room = record h {
  stack = g.stack;
  locals = g.locals;
  labels = g.labels;
  catches = map read_catch g.catches;
  listing = record { instructions = g.instructions; switch = None; room = room };
}

-- the rows are read, and take no instructions away
abbrev Reads : Body → Added → List Row → Added → ℕ → Type 0
Reads h g rows c room = (left : ℕ) × (body_rows (holding h g room) rows ≡ Ok (holding h c left)) × (sizes g.instructions ≤ sizes c.instructions)

-- What the rows say is read, where there is room for it.
pub body_read : (h : Body) (g c : Added) (rows : List Row) (room : ℕ) → IsBody g rows c → 16384 ≤ sizes g.instructions + room → sizes c.instructions ≤ 16384 → Reads h g rows c room
body_read h g c rows room none before behind = (room, refl, omega arith)
body_read h g c rows room (stack {n} {rows = rest} body) before behind = body_read h (record g { stack = n }) c rest room body before behind
body_read h g c rows room (locals {n} {rows = rest} body) before behind = body_read h (record g { locals = n }) c rest room body before behind
body_read h g c rows room (catch {class} {from} {to} {using} {rows = rest} body) before behind =
    let x : Catch = record { class = class; from = from; to = to; handler = using } in
    let ih = body_read h (record g { catches = g.catches ++ x ∷ [] }) c rest room body before behind in
    (ih.0, ap (λ (l : List ReadCatch). body_rows (record (holding h g room) { catches = l }) rest) (sym (map_push read_catch g.catches x)) ∙ ih.1, ih.2)
body_read h g c rows room (label {l} {rows = rest} e body) before behind =
    let ih = body_read h (record g { labels = g.labels ++ (l, length g.instructions) ∷ [] }) c rest room body before behind in
    (ih.0, rw e ih.1, ih.2)
body_read h g c rows room (operation {i} {rows = rest} body) before behind =
    let n = sizes_push g.instructions i in
    let some = is_some_size i in
    let ih = body_read h (and_instruction g i) c rest (room - 1) body (omega (arith, n, some, before)) behind in
    let grown = ih.2 in
    (ih.0, rw (some_room room (omega (arith, n, some, grown, before, behind))) ih.1, omega (arith, n, grown))
body_read h g c rows room (table {low} {high} labels d rest e fits body) before behind =
    let n = sizes_push g.instructions (instruction.TableSwitch low labels d) in
    let left : ℕ = (room - 1) - length labels in
    let ih = body_read h (and_instruction g (instruction.TableSwitch low labels d)) c rest left body (omega (arith, n, before)) behind in
    let grown = ih.2 in
    let run = targets_read (holding h g room) low high d rest labels [] (room - 1) left fits (omega (arith, n, grown, before, behind)) in
    (ih.0, rw (e, some_room room (omega (arith, n, grown, before, behind)), fits_reach low high (length labels) fits) (run ∙ ih.1), omega (arith, n, grown))
body_read h g c rows room (lookup cases sorted d rest e are body) before behind =
    let n = sizes_push g.instructions (instruction.LookupSwitch sorted d) in
    let count = sorted_length [] cases sorted are in
    let left : ℕ = (room - 1) - length cases in
    let ih = body_read h (and_instruction g (instruction.LookupSwitch sorted d)) c rest left body (omega (arith, n, count, before)) behind in
    let grown = ih.2 in
    let run = cases_read (holding h g room) d rest [] cases sorted (room - 1) left are (omega (arith, n, count, grown, before, behind)) in
    (ih.0, rw (e, some_room room (omega (arith, n, count, grown, before, behind))) (run ∙ ih.1), omega (arith, n, grown))
