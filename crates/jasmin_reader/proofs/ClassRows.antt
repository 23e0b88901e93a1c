-- The rows of a class, and what they add to the class of the grammar; what is read is what the lines spell. Both ways.
use Rattle.std.proofs.Common.{◌≡◌, ℕ, ◌+◌, ◌-◌, ◌≤◌, ◌<◌, Bool, true, not, ◌&&◌, ◌||◌, eqb, nat_le, nat_lt, List, [], ◌∷◌, ◌++◌, length, map, Option, Some, None, IfOk, IfSome, is_none, unwrap_or, Result, Ok, Err, refl, sym, ap, subst, ◌∙◌, arith}
use Rattle.std.specs.List.{list_all}
use Rattle.std.proofs.lemmas.Bool.{and_from, leb-true, le-leb, ltb-true, lt-ltb, and_parts, or_parts, not-true, not-false}
use Rattle.std.proofs.lemmas.List.{length_push}
use Rattle.std.proofs.lemmas.List.Folds.{list_all-append}
use Rattle.descriptors.specs.ClassName.{is_class_name}
use Rattle.descriptors.specs.Signature.{Signature}
use Rattle.jasmin_words.specs.declared.fault.FaultKind.{FaultKind}
use Rattle.jasmin_words.specs.declared.fault.FaultKind.TheVariants as fault
use Rattle.sequence.specs.Gives.{◌>>=◌}
use Rattle.sequence.proofs.Results.{bind_ok, done, given, back}
use Rattle.jasmin_words.specs.Lexing.{words_of}
use Rattle.jasmin_text.specs.Grammar.{Row, ClassRow, SuperRow, ImplementsRow, FieldRow, MethodRow, EndRow, TargetRow, DefaultRow, case_row, Body as Added, empty_body as no_rows, IsBody, none, more, stack, locals, catch, label, operation, table, lookup, IsCodeOrNone, Members, no_members, IsHeader, AreMembers, super, implements, field, method, IsClass, AreRows, Spells}
use Rattle.jasmin_text.specs.Lines.{lines_of}
use Rattle.jasmin_text.specs.Spellable.{is_class_word, is_taken, is_field, is_method, is_spellable, IsSpellable}
use Rattle.jasmin_text.specs.declared.access.Access.{Access}
use Rattle.jasmin_text.specs.declared.class_text.ClassParts.{ClassParts}
use Rattle.jasmin_text.specs.declared.class_text.Code.{Code}
use Rattle.jasmin_text.specs.declared.class_text.Method.{Method}
use Rattle.jasmin_text.proofs.Conditions.{nine}
use Rattle.jasmin_reader.specs.declared.body.Body.{Body}
use Rattle.jasmin_reader.specs.declared.fault.ReadFault.{ReadFault}
use Rattle.jasmin_reader.specs.declared.head.HeadWords.{HeadWords}
use Rattle.jasmin_reader.specs.declared.reader.Reader.{Reader}
use Rattle.jasmin_reader.specs.Bodies.{outside_switch, with_setting, closed}
use Rattle.jasmin_reader.specs.Places.{wanted_or}
use Rattle.jasmin_reader.specs.Reading.{is_in_header, member_room, empty_body, line_at}
use Rattle.jasmin_reader.specs.File.{Reads, fault_at, object_name, parts_of, finished, rest_at, empty_reader, class_at}
use Rattle.jasmin_reader.proofs.BodyRows.{added, outside_ok, body_taken, holding, body_read}
use Rattle.jasmin_reader.proofs.GoodRows.{is_head, is_good_row, is_headed, field_headed, rows_headed}
use Rattle.jasmin_reader.proofs.MethodEnds.{IsGoodBody, all_push, body_good, closed_good, list_empty, closed_ok, body_fits, closed_read, method_facts}
use Rattle.jasmin_reader.proofs.ReadFile.{file_tells, rows_said}
use Rattle.jasmin_reader.proofs.RowSteps.{may_set, body_rows, is_body_row, row_at, rows_at, rows_append, rows_in_method}

-- a class in between: its head, what is in it, and the method that is open
abbrev mid : HeadWords × List ℕ → Members → Option Body → Reader
mid head m o = record { class = Some head; superclass = m.superclass; interfaces = m.interfaces; fields = m.fields; methods = m.methods; body = o }

abbrev members_of : Reader → Members
members_of r = record { superclass = r.superclass; interfaces = r.interfaces; fields = r.fields; methods = r.methods }

-- ---- steps

header_is : (m : Members) → not (not (eqb (length m.fields) 0) || not (eqb (length m.methods) 0)) ≡ true → IsHeader m
header_is m h =
    let p = or_parts (not (eqb (length m.fields) 0)) (not (eqb (length m.methods) 0)) (not-true _ h) in
    (list_empty m.fields (not-false _ p.0), list_empty m.methods (not-false _ p.1))

header_read : (head : HeadWords × List ℕ) (m : Members) → IsHeader m → is_in_header (mid head m None) ≡ true
header_read head m h = rw (h.0, h.1) refl

is_none_of : (o : Option (List ℕ)) → is_none o ≡ true → o ≡ None
is_none_of None e = refl
is_none_of (Some x) e = absurd cc

-- two guards, and what they guard
passed : (k : FaultKind) (a b : Bool) (y last : Reader) (rows : List Row) → (((wanted_or a fault.Misplaced >>= λ _. wanted_or b k) >>= λ _. done y) >>= λ s. rows_at s rows) ≡ Ok last
    → (a ≡ true) × (b ≡ true) × (rows_at y rows ≡ Ok last)
passed k true true y last rows e = (refl, refl, e)
passed k a b y last rows e = absurd cc

-- ---- rows that are taken

-- what there is room for, and what can be spelled
record Fits (m : Members) : Type 0 where
  interfaces : length m.interfaces ≤ 255
  members : length m.fields + length m.methods ≤ 1024
  fields : list_all is_field m.fields ≡ true
  methods : list_all is_method m.methods ≡ true

all_before : {A : Type 0} (p : A → Bool) (xs : List A) (x : A) → list_all p (xs ++ x ∷ []) ≡ true → (list_all p xs ≡ true) × (p x ≡ true)
all_before p xs x h = let q = and_parts (list_all p xs) (p x && true) (sym (list_all-append p xs (x ∷ [])) ∙ h) in (q.0, (and_parts (p x) true q.1).0)

-- its names can be spelled
abbrev Words : Members → Type 0
Words m = IfSome m.superclass (λ name. is_class_word name ≡ true) × (list_all is_class_word m.interfaces ≡ true)

abbrev Adds : HeadWords × List ℕ → Members → List Row → Reader → Type 0
Adds head m rows last = AreMembers m rows (members_of last) × (last.class ≡ Some head) × Fits (members_of last) × Words (members_of last)

-- the rows up to the method's end, and what follows
record InMethod (head : HeadWords × List ℕ) (m : Members) (b : Body) (rows : List Row) (last : Reader) : Type 0 where
  body : List Row
  rest : List Row
  parts : rows ≡ body ++ EndRow ∷ rest
  ended : Body
  good : list_all is_good_row body ≡ true
  runs : body_rows b body ≡ Ok ended
  outside : ended.listing.switch ≡ None
  whole : Method
  closes : closed ended ≡ Ok whole
  next : is_method whole ≡ true → Adds head (record m { methods = m.methods ++ whole ∷ [] }) rest last

abbrev Taken : Option Body → HeadWords × List ℕ → Members → List Row → Reader → Type 0
Taken None head m rows last = Adds head m rows last
Taken (Some b) head m rows last = InMethod head m b rows last

method_taken : (head : HeadWords × List ℕ) (m : Members) (a : Access) (name : List ℕ) (type : Signature) (rows : List Row) (last : Reader) → is_head a name type ≡ true
    → InMethod head m (empty_body a name type) rows last → Adds head m (MethodRow a name type ∷ rows) last
method_taken head m a name type rows last good n =
    let code = closed_ok n.ended n.whole n.closes in
    let body = body_taken n.body (empty_body a name type) n.ended refl n.outside n.good n.runs in
    let here = subst (λ (h : Access × (List ℕ × Signature)). is_head h.0 h.1.0 h.1.1 ≡ true) (sym body.2) good in
    let empty : IsGoodBody no_rows = record { stack = refl; locals = refl; labels = refl; catches = refl; instructions = refl } in
    let next = n.next (closed_good n.ended n.whole here (body_good no_rows (added n.ended) n.body body.0 n.good empty) body.1 n.closes) in
    let kept : n.whole ≡ record { access = a; name = name; method_type = type; code = n.whole.code } =
    sym code.2 ∙ ap (λ (h : Access × (List ℕ × Signature)). record { access = h.0; name = h.1.0; method_type = h.1.1; code = n.whole.code }) body.2 in
    (method n.body n.rest (added n.ended) n.whole.code n.parts body.0 code.0 (subst (λ (x : Method). AreMembers (record m { methods = m.methods ++ x ∷ [] }) n.rest (members_of last)) kept next.0), next.1, next.2, next.3)

-- there is room for the method that is open
abbrev Opened : Option Body → Members → Type 0
Opened None m = Unit {0}
Opened (Some b) m = length m.fields + length m.methods < 1024

members_taken : (rows : List Row) (o : Option Body) (head : HeadWords × List ℕ) (m : Members) (last : Reader) → last.body ≡ None → list_all is_good_row rows ≡ true → Fits m → Words m → Opened o m
    → rows_at (mid head m o) rows ≡ Ok last → Taken o head m rows last
unfolding is_good_row
members_taken [] None head m last closes good f w o e = given (λ (r : Reader). Adds head m [] r) e (none, refl, f, w)
members_taken [] (Some b) head m last closes good f w o e = absurd (let k : Some b ≡ last.body = given (λ (r : Reader). Some b ≡ r.body) e refl in cc)
members_taken (SuperRow name ∷ rows) None head m last closes good f w o e =
    let q = and_parts (is_class_word name) (list_all is_good_row rows) good in
    let p = passed fault.Misplaced (is_in_header (mid head m None)) (is_none m.superclass) (mid head (record m { superclass = Some name }) None) last rows e in
    let ih = members_taken rows None head (record m { superclass = Some name }) last closes q.1 (record { interfaces = f.interfaces; members = f.members; fields = f.fields; methods = f.methods }) (q.0, w.1) tt p.2 in
    (super (header_is m p.0) (is_none_of m.superclass p.1) ih.0, ih.1, ih.2, ih.3)
members_taken (ImplementsRow name ∷ rows) None head m last closes good f w o e =
    let q = and_parts (is_class_word name) (list_all is_good_row rows) good in
    let p = passed fault.LimitExceeded (is_in_header (mid head m None)) (nat_lt (length m.interfaces) 255) (mid head (record m { interfaces = m.interfaces ++ name ∷ [] }) None) last rows e in
    let few = ltb-true (length m.interfaces) 255 p.1 in
    let n = length_push m.interfaces name in
    let fits : Fits (record m { interfaces = m.interfaces ++ name ∷ [] }) = record { interfaces = omega (arith, n, few); members = f.members; fields = f.fields; methods = f.methods } in
    let ih = members_taken rows None head (record m { interfaces = m.interfaces ++ name ∷ [] }) last closes q.1 fits (w.0, all_push is_class_word m.interfaces name w.1 q.0) tt p.2 in
    (implements (header_is m p.0) ih.0, ih.1, ih.2, ih.3)
members_taken (FieldRow x ∷ rows) None head m last closes good f w o e =
    let q = and_parts (is_field x) (list_all is_good_row rows) good in
    let p = passed fault.LimitExceeded true (member_room (mid head m None)) (mid head (record m { fields = m.fields ++ x ∷ [] }) None) last rows e in
    let few = ltb-true (length m.fields + length m.methods) 1024 p.1 in
    let n = length_push m.fields x in
    let fits : Fits (record m { fields = m.fields ++ x ∷ [] }) = record { interfaces = f.interfaces; members = omega (arith, n, few); fields = all_push is_field m.fields x f.fields q.0; methods = f.methods } in
    let ih = members_taken rows None head (record m { fields = m.fields ++ x ∷ [] }) last closes q.1 fits w tt p.2 in
    (field ih.0, ih.1, ih.2, ih.3)
members_taken (MethodRow a name type ∷ rows) None head m last closes good f w o e =
    let q = and_parts (is_head a name type) (list_all is_good_row rows) good in
    let p = passed fault.LimitExceeded true (member_room (mid head m None)) (mid head m (Some (empty_body a name type))) last rows e in
    let few = ltb-true (length m.fields + length m.methods) 1024 p.1 in
    method_taken head m a name type rows last q.0 (members_taken rows (Some (empty_body a name type)) head m last closes q.1 f w few p.2)
members_taken (row ∷ rows) None head m last closes good f w o e = absurd cc
members_taken (ClassRow k a name ∷ rows) (Some b) head m last closes good f w o e = absurd cc
members_taken (SuperRow name ∷ rows) (Some b) head m last closes good f w o e = absurd cc
members_taken (ImplementsRow name ∷ rows) (Some b) head m last closes good f w o e = absurd cc
members_taken (FieldRow x ∷ rows) (Some b) head m last closes good f w o e = absurd cc
members_taken (MethodRow a name type ∷ rows) (Some b) head m last closes good f w o e = absurd cc
members_taken (EndRow ∷ rows) (Some b) head m last closes good f w o e =
    let one = bind_ok (row_at (mid head m (Some b)) EndRow) _ last e in
    let out = bind_ok (outside_switch b) _ one.0 one.1 in
    let whole = bind_ok (closed b) _ one.0 out.2 in
    let n = length_push m.methods whole.0 in
    let fits : is_method whole.0 ≡ true → Fits (record m { methods = m.methods ++ whole.0 ∷ [] }) = λ g.
    record { interfaces = f.interfaces; members = omega (arith, n, o); fields = f.fields; methods = all_push is_method m.methods whole.0 f.methods g } in
    let next = λ (g : is_method whole.0 ≡ true). members_taken rows None head (record m { methods = m.methods ++ whole.0 ∷ [] }) last closes good (fits g) w tt in
    let ih = given (λ (r : Reader). rows_at r rows ≡ Ok last → is_method whole.0 ≡ true → Adds head (record m { methods = m.methods ++ whole.0 ∷ [] }) rows last) whole.2 (λ e g. next g e) in
    let outside = (outside_ok b b (done b) (ap (λ (x : Result (Unit {0}) FaultKind). x >>= λ _. done b) out.1)).0 in
    record { body = []; rest = rows; parts = refl; ended = b; good = refl; runs = refl; outside = outside; whole = whole.0; closes = whole.1; next = ih one.2 }
members_taken (row ∷ rows) (Some b) head m last closes good f w o e =
    let q = and_parts (is_good_row row) (list_all is_good_row rows) good in
    let one = bind_ok (row_at (mid head m (Some b)) row) _ last e in
    let may = bind_ok (may_set b row) _ one.0 one.1 in
    let c : Body = with_setting b row in
    let rest = members_taken rows (Some c) head m last closes q.1 f w o in
    let ih = given (λ (r : Reader). rows_at r rows ≡ Ok last → InMethod head m c rows last) may.2 rest one.2 in
    let runs = ap (λ (x : Result (Unit {0}) FaultKind). (x >>= λ _. done c) >>= λ d. body_rows d ih.body) may.1 ∙ ih.runs in
    let parts = ap (λ (rs : List Row). row ∷ rs) ih.parts in
    let all_good = and_from (is_good_row row) _ q.0 ih.good in
    record { body = row ∷ ih.body; rest = ih.rest; parts = parts; ended = ih.ended; good = all_good; runs = runs; outside = ih.outside; whole = ih.whole; closes = ih.closes; next = ih.next }

-- ---- the end of a file

superclass_is : (o : Option (List ℕ)) → IfSome o (λ name. is_class_word name ≡ true) → is_class_word (unwrap_or o object_name) ≡ true
unfolding is_class_name
superclass_is None good = refl
superclass_is (Some name) good = good

-- a class at the file's end: its head, no open method, and its parts
abbrev Ends : Reader → ClassParts → Type 0
Ends r c = (head : HeadWords × List ℕ) × (r.class ≡ Some head) × (r.body ≡ None) × (parts_of r head ≡ c)

ends_ok : (r : Reader) (n : ℕ) (c : ClassParts) → finished r n ≡ Ok c → Ends r c
unfolding finished
ends_ok r n c e = by r.class r.body refl refl e
  where
    by : (o : Option (HeadWords × List ℕ)) (b : Option Body) → r.class ≡ o → r.body ≡ b
        → elim o as (λ o. Result ClassParts ReadFault) [ None ↦ Err (fault_at fault.Misplaced 1) | Some h ↦ elim b [ Some x ↦ Err (fault_at fault.Unfinished n) | None ↦ Ok (parts_of r h) ] ] ≡ Ok c → Ends r c
    by (Some h) None p q e = (h, p, q, cc)
    by o b p q e = absurd cc

-- What is read is the class that the rows say.
class_taken : (rows : List Row) (last : Reader) (n : ℕ) (c : ClassParts) → list_all is_good_row rows ≡ true → rows_at empty_reader rows ≡ Ok last → finished last n ≡ Ok c → IsClass rows c
unfolding is_good_row is_spellable
class_taken (ClassRow k a name ∷ rows) last n c good e ends =
    let x = ends_ok last n c ends in
    let head : HeadWords × List ℕ = (record { kind = k; access = a }, name) in
    let q = and_parts (is_class_word name && not (is_taken k name)) (list_all is_good_row rows) good in
    let p = and_parts (is_class_word name) (not (is_taken k name)) q.0 in
    let m = members_taken rows None head no_members last x.2 q.1 (record { interfaces = omega arith; members = omega arith; fields = refl; methods = refl }) (tt, refl) tt e in
    let same : x.0 ≡ head = (let p = x.1 in let q = m.1 in cc) in
    let parts : parts_of last head ≡ c = ap (parts_of last) (sym same) ∙ x.3 in
    let f = m.2 in
    let w = m.3 in
    let few = f.members in
    let interfaces = le-leb (length last.interfaces) 255 f.interfaces in
    let fields = le-leb (length last.fields) 1024 (omega (arith, few)) in
    let methods = le-leb (length last.methods) (1024 - length last.fields) (omega (arith, few)) in
    let spellable : IsSpellable (parts_of last head) = rw (p.0, p.1, superclass_is last.superclass w.0, interfaces, w.1, fields, methods, f.fields, f.methods) refl in
    subst (IsClass (ClassRow k a name ∷ rows)) parts (record { members = rows; given = last.superclass; parts = refl; are_members = m.0; superclass = refl; spellable = spellable })
class_taken rows last n c good e ends = let x = ends_ok last n c ends in let q = x.1 in absurd cc

-- ---- rows that are read

switch_rows_are : {A : Type 0} (row : A → Row) (xs : List A) (d : List ℕ) (rest : List Row) → ((x : A) → is_body_row (row x) ≡ true) → list_all is_body_row rest ≡ true
    → list_all is_body_row (map row xs ++ DefaultRow d ∷ rest) ≡ true
switch_rows_are row [] d rest are h = h
switch_rows_are row (x ∷ xs) d rest are h = rw (are x, switch_rows_are row xs d rest are h) refl

body_rows_are : (g c : Added) (rows : List Row) → IsBody g rows c → list_all is_body_row rows ≡ true
body_rows_are g c rows none = refl
body_rows_are g c rows (stack {rows = rest} body) = body_rows_are _ c rest body
body_rows_are g c rows (locals {rows = rest} body) = body_rows_are _ c rest body
body_rows_are g c rows (catch {rows = rest} body) = body_rows_are _ c rest body
body_rows_are g c rows (label {rows = rest} e body) = body_rows_are _ c rest body
body_rows_are g c rows (operation {rows = rest} body) = body_rows_are _ c rest body
body_rows_are g c rows (table ls d rest e fits body) = ap (list_all is_body_row) e ∙ switch_rows_are TargetRow ls d rest (λ l. refl) (body_rows_are _ c rest body)
body_rows_are g c rows (lookup cs sorted d rest e are body) = ap (list_all is_body_row) e ∙ switch_rows_are case_row cs d rest (λ c. refl) (body_rows_are _ c rest body)

-- rows that are read, and none of which says what a file can't spell
abbrev AreRead : HeadWords × List ℕ → Members → List Row → Members → Type 0
AreRead head m rows n = (rows_at (mid head m None) rows ≡ Ok (mid head n None)) × (list_all is_headed rows ≡ true) × Fits m

method_read : (head : HeadWords × List ℕ) (m n : Members) (a : Access) (name : List ℕ) (type : Signature) (body rest : List Row) (b : Added) (code : Option Code) → IsBody no_rows body b → IsCodeOrNone b code
    → AreRead head (record m { methods = m.methods ++ record { access = a; name = name; method_type = type; code = code } ∷ [] }) rest n
    → AreRead head m (MethodRow a name type ∷ (body ++ EndRow ∷ rest)) n
method_read head m n a name type body rest b code is is_code next =
    let x : Method = record { access = a; name = name; method_type = type; code = code } in
    let h : Body = empty_body a name type in
    let f = next.2 in
    let good = all_before is_method m.methods x f.methods in
    let facts = method_facts x good.1 in
    let l = length_push m.methods x in
    let few = f.members in
    let room = lt-ltb (length m.fields + length m.methods) 1024 (omega (arith, l, few)) in
    let run = body_read h no_rows b body 16384 is (omega arith) (body_fits a.is_abstract b code is_code facts.1) in
    let are = body_rows_are no_rows b body is in
    let inside = rows_in_method body are (mid head m None) h (holding h b run.0) run.1 in
    let ended : row_at (mid head m (Some (holding h b run.0))) EndRow ≡ Ok (mid head (record m { methods = m.methods ++ x ∷ [] }) None) = rw (closed_read h b run.0 code is_code facts.1) refl in (
      rw (room, rows_append (mid head m (Some h)) body (EndRow ∷ rest), inside, ended) next.0,
      and_from (is_headed (MethodRow a name type)) _ facts.0 (list_all-append is_headed body (EndRow ∷ rest) ∙ rw (rows_headed body are, next.1) refl),
      record { interfaces = f.interfaces; members = omega (arith, l, few); fields = f.fields; methods = good.0 },
    )

members_read : (head : HeadWords × List ℕ) (m n : Members) (rows : List Row) → AreMembers m rows n → Fits n → AreRead head m rows n
members_read head m n rows none f = (refl, refl, f)
members_read head m n rows (super {name} {rows = rest} h e are) f =
    let ih = members_read head (record m { superclass = Some name }) n rest are f in
    let g = ih.2 in
    (rw (header_read head m h, e) ih.0, ih.1, record { interfaces = g.interfaces; members = g.members; fields = g.fields; methods = g.methods })
members_read head m n rows (implements {name} {rows = rest} h are) f =
    let ih = members_read head (record m { interfaces = m.interfaces ++ name ∷ [] }) n rest are f in
    let g = ih.2 in
    let l = length_push m.interfaces name in
    let few = g.interfaces in
    let room = lt-ltb (length m.interfaces) 255 (omega (arith, l, few)) in
    (rw (header_read head m h, room) ih.0, ih.1, record { interfaces = omega (arith, l, few); members = g.members; fields = g.fields; methods = g.methods })
members_read head m n rows (field {f = x} {rows = rest} are) f =
    let ih = members_read head (record m { fields = m.fields ++ x ∷ [] }) n rest are f in
    let g = ih.2 in
    let l = length_push m.fields x in
    let few = g.members in
    let room = lt-ltb (length m.fields + length m.methods) 1024 (omega (arith, l, few)) in
    let good = all_before is_field m.fields x g.fields in
    (rw room ih.0, and_from (is_headed (FieldRow x)) _ (field_headed x good.1) ih.1, record { interfaces = g.interfaces; members = omega (arith, l, few); fields = good.0; methods = g.methods })
members_read head m n rows (method {a} {name} {type} body rest b code e is is_code are) f =
    let ih = members_read head (record m { methods = m.methods ++ record { access = a; name = name; method_type = type; code = code } ∷ [] }) n rest are f in
    subst (λ (rs : List Row). AreRead head m (MethodRow a name type ∷ rs) n) (sym e) (method_read head m n a name type body rest b code is is_code ih)

-- What the rows of a class say is read.
class_read : (rows : List Row) (c : ClassParts) → IsClass rows c → (last : Reader) × (rows_at empty_reader rows ≡ Ok last) × (list_all is_headed rows ≡ true) × ((n : ℕ) → finished last n ≡ Ok c)
unfolding is_spellable finished
class_read rows c is =
    let p = nine (is_class_word c.name) (not (is_taken c.kind c.name)) (is_class_word c.superclass) (nat_le (length c.interfaces) 255) (list_all is_class_word c.interfaces)
    (nat_le (length c.fields) 1024) (nat_le (length c.methods) (1024 - length c.fields)) (list_all is_field c.fields) (list_all is_method c.methods) is.spellable in
    let few_fields = leb-true (length c.fields) 1024 p.5 in
    let few_methods = leb-true (length c.methods) (1024 - length c.fields) p.6 in
    let n : Members = record { superclass = is.given; interfaces = c.interfaces; fields = c.fields; methods = c.methods } in
    let head : HeadWords × List ℕ = (record { kind = c.kind; access = c.access }, c.name) in
    let r = members_read head no_members n is.members is.are_members (record { interfaces = leb-true (length c.interfaces) 255 p.3; members = omega (arith, few_fields, few_methods); fields = p.7; methods = p.8 }) in (
      mid head n None,
      ap (rows_at empty_reader) is.parts ∙ r.0,
      ap (list_all is_headed) is.parts ∙ and_from _ _ p.1 r.1,
      λ k. ap (λ (s : List ℕ). Ok (record { kind = c.kind; access = c.access; name = c.name; superclass = s; interfaces = c.interfaces; fields = c.fields; methods = c.methods })) (sym is.superclass),
    )

-- ---- files

-- what is read is what the lines spell
pub read_is_spelled : (bytes : List ℕ) (c : ClassParts) → class_at bytes ≡ Ok c → Spells (lines_of bytes) c
read_is_spelled bytes c e = let t = file_tells bytes c e in record { rows = t.rows; are_rows = t.are_rows; is_class = class_taken t.rows t.last t.count c t.good t.does t.ends }

-- what is read can be spelled
pub read_is_spellable : (bytes : List ℕ) (c : ClassParts) → class_at bytes ≡ Ok c → IsSpellable c
read_is_spellable bytes c e = let t = read_is_spelled bytes c e in let is = t.is_class in is.spellable

-- the same of what a function returned
pub found_is_spelled : (bytes : List ℕ) (found : Result ClassParts ReadFault) → Reads found (class_at bytes) → IfOk found (λ c. Spells (lines_of bytes) c)
found_is_spelled bytes (Ok c) e = read_is_spelled bytes c e
found_is_spelled bytes (Err f) e = tt

lines_read : (n : ℕ) (r s : Reader) (c : ClassParts) (lines : List (List ℕ)) (rows : List Row) → AreRows lines rows → list_all is_headed rows ≡ true → rows_at r rows ≡ Ok s
    → ((m : ℕ) → finished s m ≡ Ok c) → rest_at n r lines ≡ Ok c
unfolding rest_at
lines_read n r s c lines rows none headed done ends = back (λ (x : Reader). finished x n ≡ Ok c) done (ends n)
lines_read n r s c lines rows (more {line} {lines = others} first rest is are e) headed done ends =
    let h = and_parts (list_all is_headed first) (list_all is_headed rest) (sym (list_all-append is_headed first rest) ∙ ap (list_all is_headed) (sym e) ∙ headed) in
    let one = bind_ok (rows_at r first) (λ t. rows_at t rest) s (sym (rows_append r first rest) ∙ ap (rows_at r) (sym e) ∙ done) in
    let read : line_at r (words_of line) ≡ Ok one.0 = rows_said r one.0 (words_of line) first is h.0 one.1 in
    rw read (lines_read (n + 1) one.0 s c others rest are h.1 one.2 ends)

-- what the lines spell is what is read
pub spelled_is_read : (bytes : List ℕ) (c : ClassParts) → Spells (lines_of bytes) c → class_at bytes ≡ Ok c
unfolding class_at
spelled_is_read bytes c s = let r = class_read s.rows c s.is_class in lines_read 0 empty_reader r.0 c (lines_of bytes) s.rows s.are_rows r.2 r.1 r.3
