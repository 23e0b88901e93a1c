-- Where a method ends: labels get their places, and the method is that of the grammar, both ways; what good rows lead to can be spelled.
use Rattle.std.proofs.Common.{◌≡◌, ℕ, suc, ◌+◌, ◌-◌, ◌≤◌, Bool, true, false, not, ◌&&◌, cond, eqb, nat_le, List, [], ◌∷◌, ◌++◌, length, map, Option, Some, None, Result, Ok, Err, ℤ, refl, sym, ap, subst, ◌∙◌, arith, codes}
use Rattle.std.specs.List.{list_all}
use Rattle.std.proofs.lemmas.Bool.{eqb-true, leb-true, le-leb, and_from, and_parts, not-true}
use Rattle.std.proofs.lemmas.List.{nil_from_length, length_push}
use Rattle.std.proofs.lemmas.List.Folds.{list_all-append, list_all-map}
use Rattle.std.specs.Str.{bytes_eq}
use Rattle.sequence.proofs.Results.{bind_ok, done, given, some_ok}
use Rattle.jasmin_words.specs.declared.fault.FaultKind.{FaultKind}
use Rattle.jasmin_words.specs.declared.fault.FaultKind.TheVariants as fault
use Rattle.jasmin_text.specs.Grammar.{Row, TargetRow, DefaultRow, case_row, Cases, Catch, with_case, with_instruction as and_instruction, AreSorted, IsBody, stack, locals, catch, label, operation, Body as Added, Each, none, more, place_of, IsPlaceOf, IsPlacedCase, IsPlaced, plain, pushes, local, increment, jump, table, lookup, field, call, interface, new, new_array, type_use, IsPlacedRow, IsCodeOf, IsNoBody, IsCodeOrNone}
use Rattle.jasmin_text.specs.Spellable.{is_int, is_caught, is_instruction, instruction_size, have_room, is_handler, is_code, is_optional_code, may_initialize, is_method}
use Rattle.jasmin_text.specs.declared.class_text.Code.{Code}
use Rattle.jasmin_text.specs.declared.class_text.Handler.{Handler}
use Rattle.jasmin_text.specs.declared.class_text.Method.{Method}
use Rattle.jasmin_text.specs.declared.instruction.Instruction.{Instruction}
use Rattle.jasmin_text.specs.declared.instruction.Instruction.TheVariants as instruction
use Rattle.jasmin_text.proofs.Conditions.{three, four, six, all_weaker}
use Rattle.jasmin_reader.specs.declared.body.Body.{Body}
use Rattle.jasmin_reader.specs.declared.body.Catch.{Catch as ReadCatch}
use Rattle.jasmin_reader.specs.Bodies.{each, placed_label, placed_labels, placed_case, placed_cases, placed, all_placed, placed_catch, placed_catches, has_nothing, body_of, method_with, closed}
use Rattle.jasmin_reader.proofs.BodyRows.{added, caught, read_catch, holding}
use Rattle.jasmin_reader.proofs.GoodRows.{keys_rise, are_keys, is_listed, listed_size, sizes, fits_head, is_head, is_good_row, find_good}
use Rattle.jasmin_reader.proofs.SortedCases.{with_case_all, with_case_rises, same_rise}

-- ---- lists

each_ok : {A B : Type 0} (f : A → Result B FaultKind) (R : A → B → Type 0) → ((x : A) (y : B) → f x ≡ Ok y → R x y) → (xs : List A) (ys : List B) → each f xs ≡ Ok ys → Each R xs ys
unfolding each
each_ok f R h [] ys e = given (Each R []) e none
each_ok f R h (x ∷ xs) ys e =
    let y = bind_ok (f x) _ ys e in
    let rest = bind_ok (each f xs) _ ys y.2 in
    given (Each R (x ∷ xs)) rest.2 (more (h x y.0 y.1) (each_ok f R h xs rest.0 rest.1))

each_read : {A B : Type 0} (f : A → Result B FaultKind) (R : A → B → Type 0) → ((x : A) (y : B) → R x y → f x ≡ Ok y) → (xs : List A) (ys : List B) → Each R xs ys → each f xs ≡ Ok ys
unfolding each
each_read f R h xs ys none = refl
each_read f R h xs ys (more {x} {y} {xs = others} {ys = rest} r rs) = rw (h x y r, each_read f R h others rest rs) refl

each_map : {A B C : Type 0} (f : A → B) (R : B → C → Type 0) (xs : List A) (ys : List C) → Each (λ x. R (f x)) xs ys → Each R (map f xs) ys
each_map f R xs ys none = none
each_map f R xs ys (more {xs = others} {ys = rest} r rs) = more r (each_map f R others rest rs)

pub each_length : {A B : Type 0} (R : A → B → Type 0) (xs : List A) (ys : List B) → Each R xs ys → length ys ≡ length xs
each_length R xs ys none = refl
each_length R xs ys (more {xs = others} {ys = rest} r rs) = ap suc (each_length R others rest rs)

-- what R relates to what passes one test passes the other
each_all : {A B : Type 0} (R : A → B → Type 0) (p : A → Bool) (q : B → Bool) → ((x : A) (y : B) → R x y → p x ≡ true → q y ≡ true)
    → (xs : List A) (ys : List B) → Each R xs ys → list_all p xs ≡ true → list_all q ys ≡ true
each_all R p q f xs ys none h = refl
each_all R p q f xs ys (more {x} {y} {xs = others} {ys = rest} r rs) h =
    let t = and_parts (p x) _ h in
    and_from _ _ (f x y r t.0) (each_all R p q f others rest rs t.1)

-- ---- places

label_ok : (labels : List (List ℕ × ℕ)) (l : List ℕ) (place : ℕ) → placed_label labels l ≡ Ok place → IsPlaceOf labels l place
label_ok labels l place e = some_ok (place_of labels l) fault.UnknownLabel place e

case_ok : (labels : List (List ℕ × ℕ)) (c : ℤ × List ℕ) (d : ℤ × ℕ) → placed_case labels c ≡ Ok d → IsPlacedCase labels c d
case_ok labels c d e = let place = bind_ok (placed_label labels c.1) _ d e in given (IsPlacedCase labels c) place.2 (refl, label_ok labels c.1 place.0 place.1)

case_read : (labels : List (List ℕ × ℕ)) (c : ℤ × List ℕ) (d : ℤ × ℕ) → IsPlacedCase labels c d → placed_case labels c ≡ Ok d
case_read labels c d is = rw (is.1) (ap (λ (key : ℤ). Ok (key, d.1)) (sym is.0))

instruction_ok : (labels : List (List ℕ × ℕ)) (i : Instruction (List ℕ)) (j : Instruction ℕ) → placed labels i ≡ Ok j → IsPlaced labels i j
unfolding placed
instruction_ok labels (instruction.Plain p) j e = given (IsPlaced labels (instruction.Plain p)) e plain
instruction_ok labels (instruction.Constant c) j e = given (IsPlaced labels (instruction.Constant c)) e pushes
instruction_ok labels (instruction.Local l n) j e = given (IsPlaced labels (instruction.Local l n)) e local
instruction_ok labels (instruction.Increment n by) j e = given (IsPlaced labels (instruction.Increment n by)) e increment
instruction_ok labels (instruction.Jump k l) j e = let place = bind_ok (placed_label labels l) _ j e in given (IsPlaced labels (instruction.Jump k l)) place.2 (jump (label_ok labels l place.0 place.1))
instruction_ok labels (instruction.TableSwitch low ls d) j e =
    let places = bind_ok (placed_labels labels ls) _ j e in
    let place = bind_ok (placed_label labels d) _ j places.2 in
    given (IsPlaced labels (instruction.TableSwitch low ls d)) place.2 (table (each_ok (placed_label labels) (IsPlaceOf labels) (label_ok labels) ls places.0 places.1) (label_ok labels d place.0 place.1))
instruction_ok labels (instruction.LookupSwitch cs d) j e =
    let cases = bind_ok (placed_cases labels cs) _ j e in
    let place = bind_ok (placed_label labels d) _ j cases.2 in
    given (IsPlaced labels (instruction.LookupSwitch cs d)) place.2 (lookup (each_ok (placed_case labels) (IsPlacedCase labels) (case_ok labels) cs cases.0 cases.1) (label_ok labels d place.0 place.1))
instruction_ok labels (instruction.Field f r) j e = given (IsPlaced labels (instruction.Field f r)) e field
instruction_ok labels (instruction.Call c r) j e = given (IsPlaced labels (instruction.Call c r)) e call
instruction_ok labels (instruction.CallInterface r) j e = given (IsPlaced labels (instruction.CallInterface r)) e interface
instruction_ok labels (instruction.New name) j e = given (IsPlaced labels (instruction.New name)) e new
instruction_ok labels (instruction.NewArray b) j e = given (IsPlaced labels (instruction.NewArray b)) e new_array
instruction_ok labels (instruction.TypeUse t r) j e = given (IsPlaced labels (instruction.TypeUse t r)) e type_use

instruction_read : (labels : List (List ℕ × ℕ)) (i : Instruction (List ℕ)) (j : Instruction ℕ) → IsPlaced labels i j → placed labels i ≡ Ok j
unfolding placed
instruction_read labels i j (jump e) = rw e refl
instruction_read labels i j (table {ls} {places} is e) = rw (each_read (placed_label labels) (IsPlaceOf labels) (λ l place e. rw e refl) ls places is, e) refl
instruction_read labels i j (lookup {cs} {cases} is e) = rw (each_read (placed_case labels) (IsPlacedCase labels) (case_read labels) cs cases is, e) refl
instruction_read labels i j other = refl

-- a row of the handler table by labels, as the reader has it
abbrev pub IsPlacedCatch : List (List ℕ × ℕ) → ReadCatch → Handler → Type 0
IsPlacedCatch labels c h = IsPlacedRow labels (caught c) h

handler_ok : (labels : List (List ℕ × ℕ)) (c : ReadCatch) (h : Handler) → placed_catch labels c ≡ Ok h → IsPlacedCatch labels c h
unfolding placed_catch
handler_ok labels c h e =
    let from = bind_ok (placed_label labels c.from) _ h e in
    let to = bind_ok (placed_label labels c.to) _ h from.2 in
    let handler = bind_ok (placed_label labels c.handler) _ h to.2 in
    given (IsPlacedCatch labels c) handler.2 (record { class = refl; from = label_ok labels c.from from.0 from.1; to = label_ok labels c.to to.0 to.1; handler = label_ok labels c.handler handler.0 handler.1 })

handler_read : (labels : List (List ℕ × ℕ)) (c : ReadCatch) (h : Handler) → IsPlacedCatch labels c h → placed_catch labels c ≡ Ok h
unfolding placed_catch
handler_read labels c h p = rw (p.from, p.to, p.handler) (ap (λ (k : Option (List ℕ)). Ok (record { class = k; from = h.from; to = h.to; handler = h.handler })) (sym p.class))

-- ---- the method that is closed

pub list_empty : {X : Type 0} (xs : List X) → eqb (length xs) 0 ≡ true → xs ≡ []
list_empty xs e = nil_from_length xs (eqb-true (length xs) 0 e)

-- a body is there unless abstract is there, and then it has instructions
abbrev DemandedBy : Bool → Bool → Option Code → Type 0
DemandedBy is_abstract is_empty None = is_abstract ≡ true
DemandedBy is_abstract is_empty (Some c) = (is_abstract ≡ false) × (is_empty ≡ false)

abbrev pub Demanded : Body → Option Code → Type 0
Demanded b o = DemandedBy b.access.is_abstract (eqb (length b.listing.instructions) 0) o

-- What is closed has the code of its body.
pub closed_ok : (b : Body) (m : Method) → closed b ≡ Ok m → IsCodeOrNone (added b) m.code × Demanded b m.code × (method_with b m.code ≡ m)
unfolding closed
closed_ok b m e =
    let is = bind_ok (all_placed b.labels b.listing.instructions) _ m e in
    let hs = bind_ok (placed_catches b.labels b.catches) _ m is.2 in
    let code = bind_ok (body_of b is.0 hs.0) _ m hs.2 in
    let placed_all = each_ok (placed b.labels) (IsPlaced b.labels) (instruction_ok b.labels) b.listing.instructions is.0 is.1 in
    let handlers = each_map caught (IsPlacedRow b.labels) b.catches hs.0 (each_ok (placed_catch b.labels) (IsPlacedCatch b.labels) (handler_ok b.labels) b.catches hs.0 hs.1) in
    let body = by is.0 hs.0 code.0 placed_all handlers b.access.is_abstract (has_nothing b) (eqb (length b.listing.instructions) 0) nothing code.1 in
    given (λ (m : Method). IsCodeOrNone (added b) m.code × Demanded b m.code × (method_with b m.code ≡ m)) code.2 (body.0, body.1, refl)
  where
    nothing : has_nothing b ≡ true → IsNoBody (added b)
    nothing h =
        let p = three (eqb (length b.listing.instructions) 0) (eqb (length b.labels) 0) (eqb (length b.catches) 0) h in
        record { labels = list_empty b.labels p.1; catches = ap (map caught) (list_empty b.catches p.2); instructions = list_empty b.listing.instructions p.0 }

    by : (is : List (Instruction ℕ)) (hs : List Handler) (o : Option Code) → Each (IsPlaced b.labels) b.listing.instructions is → Each (IsPlacedRow b.labels) (map caught b.catches) hs → (s t n : Bool) → (t ≡ true → IsNoBody (added b))
        → cond s (cond t (done None) (Err fault.BadBody)) (cond n (Err fault.BadBody) (Ok (Some (record { stack = b.stack; locals = b.locals; handlers = hs; instructions = is })))) ≡ Ok o → IsCodeOrNone (added b) o × DemandedBy s n o
    by is hs o placed_all handlers true true n none_there e = given (λ (o : Option Code). IsCodeOrNone (added b) o × DemandedBy true n o) e (none_there refl, refl)
    by is hs o placed_all handlers false t false none_there e =
        given (λ (o : Option Code). IsCodeOrNone (added b) o × DemandedBy false false o) e (record { stack = refl; locals = refl; handlers = handlers; instructions = placed_all }, (refl, refl))
    by is hs o placed_all handlers s t n none_there e = absurd cc

-- ---- what holds of a method that can be spelled

-- an initializer of a class, as a head has it and as a method has it
pub starts : (e f : Bool) → not (e && not f) ≡ cond e f true
starts true true = refl
starts e f = refl

pub method_facts : (m : Method) → is_method m ≡ true → (fits_head m.access m.name m.method_type ≡ true) × (is_optional_code m.access.is_abstract m.code ≡ true)
unfolding is_method
method_facts m h =
    let begins = bytes_eq m.name (codes "<clinit>") in
    let p = four _ (not (m.access.is_abstract && m.access.is_static)) (cond begins (may_initialize m.access m.method_type) true) (is_optional_code m.access.is_abstract m.code) h in
    (rw (p.1, starts begins (may_initialize m.access m.method_type), p.2) refl, p.3)

pub placed_size : (labels : List (List ℕ × ℕ)) (i : Instruction (List ℕ)) (j : Instruction ℕ) → IsPlaced labels i j → instruction_size j ≡ listed_size i
placed_size labels i j (table {ls} {places} is e) = ap (λ (n : ℕ). n + 1) (each_length (IsPlaceOf labels) ls places is)
placed_size labels i j (lookup {cs} {cases} is e) = ap (λ (n : ℕ). n + 1) (each_length (IsPlacedCase labels) cs cases is)
placed_size labels i j other = refl

both_fit : (a b room : ℕ) → (nat_le a room && nat_le b (room - a)) ≡ nat_le (a + b) room
both_fit a b room = grind arith

-- there is room for as much as the sizes come to
sizes_fit : (labels : List (List ℕ × ℕ)) (is : List (Instruction (List ℕ))) (js : List (Instruction ℕ)) (room : ℕ) → Each (IsPlaced labels) is js → have_room room js ≡ nat_le (sizes is) room
sizes_fit labels is js room none = sym (le-leb 0 room (omega arith))
sizes_fit labels is js room (more {x = i} {y = j} {xs = others} {ys = rest} p ps) =
    rw (placed_size labels i j p, sizes_fit labels others rest (room - listed_size i) ps) (both_fit (listed_size i) (sizes others) room)

-- code that can be spelled has instructions, and its body had room for them
code_facts : (g : Added) (c : Code) → IsCodeOf g c → is_code c ≡ true → (eqb (length c.instructions) 0 ≡ false) × (sizes g.instructions ≤ 16384)
unfolding is_code
code_facts g c is h =
    let n = length c.instructions in
    let p = six (nat_le c.stack 1024) (nat_le c.locals 1024) (not (eqb n 0)) (have_room 16384 c.instructions) (list_all (is_handler n) c.handlers) (list_all (is_instruction n) c.instructions) h in
    (not-true (eqb n 0) p.2, leb-true _ 16384 (sym (sizes_fit g.labels g.instructions c.instructions 16384 is.instructions) ∙ p.3))

pub body_fits : (is_abstract : Bool) (g : Added) (o : Option Code) → IsCodeOrNone g o → is_optional_code is_abstract o ≡ true → sizes g.instructions ≤ 16384
body_fits is_abstract g None is h = let e = ap sizes is.instructions in omega (arith, e)
body_fits is_abstract g (Some c) is h = (code_facts g c is (and_parts (not is_abstract) (is_code c) h).1).1

-- A method whose body has this code is closed with it.
pub closed_read : (h : Body) (g : Added) (left : ℕ) (o : Option Code) → IsCodeOrNone g o → is_optional_code h.access.is_abstract o ≡ true → closed (holding h g left) ≡ Ok (method_with h o)
unfolding closed each
closed_read h g left None is abstract = rw (is.labels, is.catches, is.instructions, abstract) refl
closed_read h g left (Some c) is ok =
    let p = and_parts (not h.access.is_abstract) (is_code c) ok in
    let f = code_facts g c is p.1 in
    let count : eqb (length g.instructions) 0 ≡ false = ap (λ (n : ℕ). eqb n 0) (sym (each_length (IsPlaced g.labels) g.instructions c.instructions is.instructions)) ∙ f.0 in
    let placed_all = each_read (placed g.labels) (IsPlaced g.labels) (instruction_read g.labels) g.instructions c.instructions is.instructions in
    let handlers = each_read (placed_catch g.labels) (IsPlacedCatch g.labels) (handler_read g.labels) (map read_catch g.catches) c.handlers (each_map read_catch (IsPlacedCatch g.labels) g.catches c.handlers is.handlers) in
    rw (placed_all, handlers, not-true h.access.is_abstract p.0, count, sym is.stack, sym is.locals) refl

-- ---- what good rows lead to

pub all_push : {A : Type 0} (p : A → Bool) (xs : List A) (x : A) → list_all p xs ≡ true → p x ≡ true → list_all p (xs ++ x ∷ []) ≡ true
all_push p xs x h e = rw (list_all-append p xs (x ∷ []), h, e) refl

abbrev has_int : ℤ × List ℕ → Bool
has_int c = is_int c.0

sorted_good : (acc cases sorted : Cases) → AreSorted acc cases sorted → list_all has_int acc ≡ true → keys_rise acc ≡ true → list_all has_int cases ≡ true → are_keys sorted ≡ true
sorted_good acc cases sorted none ints rise good = rw (ints, rise) refl
sorted_good acc cases sorted (more {c} {cs} lacks are) ints rise good =
    let p = and_parts (has_int c) (list_all has_int cs) good in
    sorted_good (with_case c acc) cs sorted are (with_case_all has_int c acc p.0 ints) (with_case_rises c acc lacks rise) p.1

-- no label comes after so many instructions
abbrev Within : ℕ → List (List ℕ × ℕ) → Type 0
Within count labels = list_all (λ (l : List ℕ × ℕ). nat_le l.1 count) labels ≡ true

labels_stay : (m n : ℕ) (labels : List (List ℕ × ℕ)) → m ≤ n → Within m labels → Within n labels
labels_stay m n labels less h = all_weaker _ _ labels (λ l within. let place = leb-true l.1 m within in le-leb l.1 n (omega arith)) h

-- what is in a method can be spelled
pub record IsGoodBody (g : Added) : Type 0 where
  pub stack : nat_le g.stack 1024 ≡ true
  pub locals : nat_le g.locals 1024 ≡ true
  pub labels : Within (length g.instructions) g.labels
  pub catches : list_all (λ c. is_caught c.class) g.catches ≡ true
  pub instructions : list_all is_listed g.instructions ≡ true

instruction_added : (g : Added) (i : Instruction (List ℕ)) → is_listed i ≡ true → IsGoodBody g → IsGoodBody (and_instruction g i)
instruction_added g i p good =
    let n = length_push g.instructions i in
    let labels = labels_stay (length g.instructions) (length (g.instructions ++ i ∷ [])) g.labels (omega (arith, n)) good.labels in
    record { stack = good.stack; locals = good.locals; labels = labels; catches = good.catches; instructions = all_push is_listed g.instructions i good.instructions p }

-- the rows of a switch, and those after it
switch_rows : (xs : List Row) (d : List ℕ) (rest rows : List Row) → rows ≡ xs ++ DefaultRow d ∷ rest → list_all is_good_row rows ≡ true → (list_all is_good_row xs ≡ true) × (list_all is_good_row rest ≡ true)
unfolding is_good_row
switch_rows xs d rest rows e h = and_parts (list_all is_good_row xs) (list_all is_good_row rest) (sym (list_all-append is_good_row xs (DefaultRow d ∷ rest)) ∙ ap (list_all is_good_row) (sym e) ∙ h)

pub body_good : (g h : Added) (rows : List Row) → IsBody g rows h → list_all is_good_row rows ≡ true → IsGoodBody g → IsGoodBody h
unfolding is_good_row is_listed
body_good g h rows none good b = b
body_good g h rows (stack {n} {rows = rest} body) good b =
    let p = and_parts (nat_le n 1024) (list_all is_good_row rest) good in
    body_good (record g { stack = n }) h rest body p.1 (record { stack = p.0; locals = b.locals; labels = b.labels; catches = b.catches; instructions = b.instructions })
body_good g h rows (locals {n} {rows = rest} body) good b =
    let p = and_parts (nat_le n 1024) (list_all is_good_row rest) good in
    body_good (record g { locals = n }) h rest body p.1 (record { stack = b.stack; locals = p.0; labels = b.labels; catches = b.catches; instructions = b.instructions })
body_good g h rows (catch {class} {from} {to} {using} {rows = rest} body) good b =
    let p = and_parts (is_caught class) (list_all is_good_row rest) good in
    let x : Catch = record { class = class; from = from; to = to; handler = using } in
    let catches = all_push (λ (c : Catch). is_caught c.class) g.catches x b.catches p.0 in
    body_good (record g { catches = g.catches ++ x ∷ [] }) h rest body p.1 (record { stack = b.stack; locals = b.locals; labels = b.labels; catches = catches; instructions = b.instructions })
body_good g h rows (label {l} {rows = rest} e body) good b =
    let count = length g.instructions in
    let labels = all_push (λ (l : List ℕ × ℕ). nat_le l.1 count) g.labels (l, count) b.labels (le-leb count count (omega arith)) in
    body_good (record g { labels = g.labels ++ (l, count) ∷ [] }) h rest body good (record { stack = b.stack; locals = b.locals; labels = labels; catches = b.catches; instructions = b.instructions })
body_good g h rows (operation {i} {rows = rest} body) good b =
    let p = and_parts (is_listed i && eqb (listed_size i) 1) (list_all is_good_row rest) good in
    body_good (and_instruction g i) h rest body p.1 (instruction_added g i (and_parts (is_listed i) (eqb (listed_size i) 1) p.0).0 b)
body_good g h rows (table {low} {rows = others} labels d rest e fits body) good b =
    let p = and_parts (is_int low) (list_all is_good_row others) good in
    let i : Instruction (List ℕ) = instruction.TableSwitch low labels d in
    body_good (and_instruction g i) h rest body (switch_rows (map TargetRow labels) d rest others e p.1).1 (instruction_added g i p.0 b)
body_good g h rows (lookup {rows = others} cases sorted d rest e are body) good b =
    let p = switch_rows (map case_row cases) d rest others e good in
    let keys = sorted_good [] cases sorted are refl refl (sym (list_all-map is_good_row case_row cases) ∙ p.0) in
    let i : Instruction (List ℕ) = instruction.LookupSwitch sorted d in
    body_good (and_instruction g i) h rest body p.1 (instruction_added g i keys b)

within : (count : ℕ) (labels : List (List ℕ × ℕ)) (l : List ℕ) (place : ℕ) → Within count labels → IsPlaceOf labels l place → nat_le place count ≡ true
within count labels l place h e = find_good (λ p. nat_le p count) l labels place h e

places_within : (count : ℕ) (labels : List (List ℕ × ℕ)) (ls : List (List ℕ)) (places : List ℕ) → Within count labels → Each (IsPlaceOf labels) ls places → list_all (λ (p : ℕ). nat_le p count) places ≡ true
places_within count labels ls places h none = refl
places_within count labels ls places h (more {x = l} {y = place} {xs = others} {ys = rest} e is) = rw (within count labels l place h e, places_within count labels others rest h is) refl

case_good : (count : ℕ) (labels : List (List ℕ × ℕ)) → Within count labels → (c : ℤ × List ℕ) (d : ℤ × ℕ) → IsPlacedCase labels c d
    → has_int c ≡ true → (is_int d.0 && nat_le d.1 count) ≡ true
case_good count labels h c d e int = rw (ap is_int e.0, int, within count labels c.1 d.1 h e.1) refl

placed_good : (count : ℕ) (labels : List (List ℕ × ℕ)) → Within count labels → (i : Instruction (List ℕ)) (j : Instruction ℕ) → IsPlaced labels i j → is_listed i ≡ true → is_instruction count j ≡ true
unfolding is_listed is_instruction
placed_good count labels h i j (jump {l} {place} e) good = within count labels l place h e
placed_good count labels h i j (table {low} {ls} {d} {places} {place} is e) good = rw (good, places_within count labels ls places h is, within count labels d place h e) refl
placed_good count labels h i j (lookup {cs} {d} {cases} {place} is e) good =
    let p = and_parts (list_all has_int cs) (keys_rise cs) good in
    let all = each_all (IsPlacedCase labels) has_int _ (case_good count labels h) cs cases is p.0 in
    rw (all, same_rise labels cs cases is, p.1, within count labels d place h e) refl
placed_good count labels h i j other good = good

handler_good : (count : ℕ) (labels : List (List ℕ × ℕ)) → Within count labels → (c : Catch) (k : Handler) → IsPlacedRow labels c k
    → is_caught c.class ≡ true → is_handler count k ≡ true
unfolding is_handler
handler_good count labels h c k r p = rw (r.class, p, within count labels c.from k.from h r.from, within count labels c.to k.to h r.to, within count labels c.handler k.handler h r.handler) refl

code_good : (b : Body) (o : Option Code) → IsGoodBody (added b) → sizes b.listing.instructions ≤ 16384 → IsCodeOrNone (added b) o → Demanded b o → is_optional_code b.access.is_abstract o ≡ true
unfolding is_code
code_good b None g room is demanded = demanded
code_good b (Some c) g room is demanded =
    let count = sym (each_length (IsPlaced b.labels) b.listing.instructions c.instructions is.instructions) in
    let some : eqb (length c.instructions) 0 ≡ false = ap (λ (n : ℕ). eqb n 0) (sym count) ∙ demanded.1 in
    let labels = subst (λ (n : ℕ). Within n b.labels) count g.labels in
    let fits = sizes_fit b.labels b.listing.instructions c.instructions 16384 is.instructions ∙ le-leb _ 16384 room in
    let one = placed_good (length c.instructions) b.labels labels in
    let all = each_all (IsPlaced b.labels) is_listed _ one b.listing.instructions c.instructions is.instructions g.instructions in
    let handler = handler_good (length c.instructions) b.labels labels in
    let handlers = each_all (IsPlacedRow b.labels) _ _ handler (map caught b.catches) c.handlers is.handlers g.catches in
    rw (demanded.0, is.stack, is.locals, g.stack, g.locals, some, fits, handlers, all) refl

pub closed_good : (b : Body) (m : Method) → is_head b.access b.name b.method_type ≡ true → IsGoodBody (added b) → sizes b.listing.instructions ≤ 16384 → closed b ≡ Ok m → is_method m ≡ true
unfolding is_method is_head
closed_good b m head g room e =
    let c = closed_ok b m e in
    let p = and_parts _ (fits_head b.access b.name b.method_type) head in
    let begins = bytes_eq b.name (codes "<clinit>") in
    let q = and_parts (not (b.access.is_abstract && b.access.is_static)) (not (begins && not (may_initialize b.access b.method_type))) p.1 in
    subst (λ (m : Method). is_method m ≡ true) c.2 (rw (p.0, q.0, sym (starts begins (may_initialize b.access b.method_type)) ∙ q.1, code_good b m.code g room c.0 c.1) refl)
