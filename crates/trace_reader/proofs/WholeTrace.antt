-- The lines of a trace, one after the other.
use Rattle.std.proofs.Common.{◌≡◌, inl, inr, ℕ, zero, suc, ◌+◌, ◌-◌, ◌<◌, ◌≤◌, ◌^◌, Bool, true, false, cond, eqb, List, [], ◌∷◌, ◌++◌, length, Result, Ok, Err, refl, sym, ap, subst, ◌∙◌, append_assoc, arith}
use Rattle.std.proofs.lemmas.Bool.{cases_Bool, eqb-true, ltb-false}
use Rattle.std.proofs.lemmas.List.{append-nil, length-append}
use Rattle.std.proofs.lemmas.Fmt.{decimal_nonempty}
use Rattle.std.specs.List.{AllByRecursion}
use Rattle.std.specs.Prelude.{IfOk}
use Rattle.sequence.specs.Gives.{◌>>=◌}
use Rattle.sequence.proofs.Results.{Holds, bind_holds, cond_holds, holds_at, weaker}
use Rattle.hierarchy.specs.LinkedProgram.{LinkedProgram}
use Rattle.hierarchy.specs.LinkedTexts.{IsLinked}
use Rattle.init_core.specs.declared.event.Event.{Event}
use Rattle.trace.specs.TraceText.{line, trace_from}
use Rattle.trace_reader.specs.declared.fault.TraceFault.{TraceFault}
use Rattle.trace_reader.specs.declared.fault.TraceFaultKind.{TraceFaultKind}
use Rattle.trace_reader.specs.declared.fault.TraceFaultKind.TheVariants.{TooLarge}
use Rattle.trace_reader.specs.declared.reader.TheConstants.{MOST_LINES, MOST_BYTES}
use Rattle.trace_reader.specs.Faults.{fault_at, on_line, Tells, Reads}
use Rattle.trace_reader.specs.Reading.{event_at}
use Rattle.trace_reader.specs.TraceEvents.{IsTraceEvent, IsTraceOf}
use Rattle.trace_reader.specs.TraceReading.{line_end, is_past, line_at, events_from, events_of}
use Rattle.trace_reader.proofs.LineEnds.{line_ends}
use Rattle.trace_reader.proofs.LineEvents.{IsLine, event_found, event_again}

pub line_within : (s : List ℕ) → line_end s ≤ length s
line_within [] = omega arith
line_within (b ∷ s) = elim (cases_Bool (eqb b 10)) [ inl e ↦ rw e (omega arith) | inr e ↦ rw e (let h = line_within s in omega arith) ]

pub not_past : (total : ℕ) (s : List ℕ) → total ≤ MOST_BYTES → length s ≤ total → is_past total s ≡ false
not_past total s few fits = let h = line_within s in let below : (total - length s) + line_end s ≤ MOST_BYTES = omega arith in grind (arith, below)

-- ---- one line

pub line_found : (p : LinkedProgram) → IsLinked p → (threads total n : ℕ) (s : List ℕ) → Holds (IsLine p threads n s) (line_at p threads total n s)
unfolding line_at
line_found p h threads total n s = cond_holds (IsLine p threads n s) (is_past total s) _ _ (λ _. tt) (λ _. told (event_at p threads n s) (event_found p h threads n s))
  where
    told : (r : Result (Event × List ℕ) TraceFaultKind) → Holds (IsLine p threads n s) r → Holds (IsLine p threads n s) (on_line (n + 1) r)
    told (Ok x) k = k
    told (Err e) k = tt

line_again : (p : LinkedProgram) → IsLinked p → (threads total n : ℕ) (e : Event) (rest : List ℕ) → threads ≤ 2147483648 → n < 2 ^ 64 → total ≤ MOST_BYTES → length (line p n e ++ rest) ≤ total
    → IsTraceEvent p threads e → line_at p threads total n (line p n e ++ rest) ≡ Ok (e, rest)
unfolding line_at
line_again p h threads total n e rest few small fits within is = rw (not_past total (line p n e ++ rest) fits within, event_again p h threads n e rest few small is) refl

-- a line has a byte at least
line_some : (p : LinkedProgram) (n : ℕ) (e : Event) (rest : List ℕ) → n < 2 ^ 64 → length rest < length (line p n e ++ rest)
line_some p n e rest small = let d = decimal_nonempty n small in simp (length-append) (omega (arith, d))

-- ---- all lines

pub step : (p : LinkedProgram) (threads total lines n : ℕ) (s : List ℕ) → 0 < length s
    → events_from p threads total (suc lines) n s ≡ (line_at p threads total n s >>= λ first. events_from p threads total lines (n + 1) first.1 >>= λ events. Ok (first.0 ∷ events))
unfolding events_from
step p threads total lines n [] some = absurd (omega (arith, some))
step p threads total lines n (b ∷ s) some = refl

-- the events of these lines and what holds of them
pub record AreLines (p : LinkedProgram) (threads lines n : ℕ) (s : List ℕ) (events : List Event) : Type 0 where
  pub spelled : s ≡ trace_from p n events
  pub are : AllByRecursion (IsTraceEvent p threads) events
  pub few : length events ≤ lines

pub events_found : (p : LinkedProgram) → IsLinked p → (threads total lines n : ℕ) (s : List ℕ) → Holds (AreLines p threads lines n s) (events_from p threads total lines n s)
unfolding events_from
events_found p h threads total lines n [] = record { spelled = refl; are = tt; few = omega arith }
events_found p h threads total zero n (b ∷ s) = tt
events_found p h threads total (suc lines) n (b ∷ s) =
    bind_holds (IsLine p threads n (b ∷ s)) (AreLines p threads (suc lines) n (b ∷ s)) (line_at p threads total n (b ∷ s)) _ (line_found p h threads total n (b ∷ s)) (λ first _ a.
    bind_holds (AreLines p threads lines (n + 1) first.1) (AreLines p threads (suc lines) n (b ∷ s)) (events_from p threads total lines (n + 1) first.1) _ (events_found p h threads total lines (n + 1) first.1) (λ events _ c.
    record { spelled = a.spelled ∙ ap (λ (z : List ℕ). line p n first.0 ++ z) c.spelled; are = (a.is, c.are); few = omega (arith, c.few) }))

pub events_again : (p : LinkedProgram) → IsLinked p → (threads total lines n : ℕ) (events : List Event) → threads ≤ 2147483648 → n + lines ≤ 2147483648 → total ≤ MOST_BYTES → length (trace_from p n events) ≤ total
    → AllByRecursion (IsTraceEvent p threads) events → length events ≤ lines → events_from p threads total lines n (trace_from p n events) ≡ Ok events
unfolding events_from
events_again p h threads total lines n [] few numbers fits within are short = refl
events_again p h threads total zero n (e ∷ events) few numbers fits within are short = absurd (omega (arith, short))
events_again p h threads total (suc lines) n (e ∷ events) few numbers fits within are short =
    let small : n < 2 ^ 64 = omega (arith, numbers) in
    let more = line_some p n e (trace_from p (n + 1) events) small in
    step p threads total lines n (line p n e ++ trace_from p (n + 1) events) (omega (arith, more)) ∙
    rw (line_again p h threads total n e (trace_from p (n + 1) events) few small fits within are.0, events_again p h threads total lines (n + 1) events few (omega (arith, numbers)) fits (omega (arith, within, more)) are.1 (omega (arith, short))) refl

-- ---- a loop that has read some lines

abbrev pub behind : List Event → Result (List Event) TraceFault → Result (List Event) TraceFault
behind front read = read >>= λ events. Ok (front ++ events)

behind-behind : (front : List Event) (e : Event) (r : Result (List Event) TraceFault) → behind front (r >>= λ events. Ok (e ∷ events)) ≡ behind (front ++ e ∷ []) r
behind-behind front e (Ok events) = ap (λ (z : List Event). Ok z) (sym (append_assoc front (e ∷ []) events))
behind-behind front e (Err f) = refl

not_empty : {X : Type 0} (s : List X) → eqb (length s) 0 ≡ false → 0 < length s
not_empty [] e = absurd cc
not_empty (x ∷ s) e = omega arith

pub goes_on : (p : LinkedProgram) (threads total n : ℕ) (front : List Event) (s after : List ℕ) (e : Event) (all : Result (List Event) TraceFault) → n < MOST_LINES → eqb (length s) 0 ≡ false
    → line_at p threads total n s ≡ Ok (e, after) → behind front (events_from p threads total (MOST_LINES - n) n s) ≡ all
    → behind (front ++ e ∷ []) (events_from p threads total (MOST_LINES - (n + 1)) (n + 1) after) ≡ all
goes_on p threads total n front s after e all less some is so_far =
    let lines : MOST_LINES - n ≡ suc (MOST_LINES - (n + 1)) = omega arith in
    sym (behind-behind front e (events_from p threads total (MOST_LINES - (n + 1)) (n + 1) after)) ∙
    ap (behind front) (sym (ap (λ (k : ℕ). events_from p threads total k n s) lines ∙ step p threads total (MOST_LINES - (n + 1)) n s (not_empty s some) ∙ rw is refl)) ∙ so_far

pub begins : (p : LinkedProgram) (threads : ℕ) (text : List ℕ) (front : List Event) → front ≡ [] → behind front (events_from p threads (length text) MOST_LINES 0 text) ≡ events_of p threads text
unfolding events_of
begins p threads text front none = rw none (same (events_from p threads (length text) MOST_LINES 0 text))
  where
    same : (r : Result (List Event) TraceFault) → behind [] r ≡ r
    same (Ok x) = refl
    same (Err f) = refl

pub is_done : (p : LinkedProgram) (threads total lines n : ℕ) (front : List Event) (s : List ℕ) (all : Result (List Event) TraceFault) → eqb (length s) 0 ≡ true
    → behind front (events_from p threads total lines n s) ≡ all → all ≡ Ok front
unfolding events_from
is_done p threads total lines n front [] all e so_far = sym so_far ∙ ap (λ (z : List Event). Ok z) (append-nil front)
is_done p threads total lines n front (b ∷ s) all e so_far = absurd (let wrong : length (b ∷ s) ≡ 0 = eqb-true (length (b ∷ s)) 0 e in omega arith)

pub fails : (p : LinkedProgram) (threads total n : ℕ) (front : List Event) (s : List ℕ) (f : TraceFault) (all : Result (List Event) TraceFault) → n < MOST_LINES → eqb (length s) 0 ≡ false
    → Tells f (line_at p threads total n s) → behind front (events_from p threads total (MOST_LINES - n) n s) ≡ all → Tells f all
fails p threads total n front s f all less some (inl memory) so_far = inl memory
fails p threads total n front s f all less some (inr is) so_far =
    let lines : MOST_LINES - n ≡ suc (MOST_LINES - (n + 1)) = omega arith in
    let read : events_from p threads total (MOST_LINES - n) n s ≡ Err f = ap (λ (k : ℕ). events_from p threads total k n s) lines ∙ step p threads total (MOST_LINES - (n + 1)) n s (not_empty s some) ∙ rw is refl in
    inr (sym so_far ∙ ap (behind front) read)

pub too_many : (p : LinkedProgram) (threads total n : ℕ) (front : List Event) (s : List ℕ) (all : Result (List Event) TraceFault) → MOST_LINES ≤ n → n ≤ MOST_LINES → eqb (length s) 0 ≡ false
    → behind front (events_from p threads total (MOST_LINES - n) n s) ≡ all → all ≡ Err (fault_at TooLarge (MOST_LINES + 1))
unfolding events_from
too_many p threads total n front [] all over under some so_far = absurd cc
too_many p threads total n front (b ∷ s) all over under some so_far =
    let none : MOST_LINES - n ≡ 0 = omega arith in
    let same : n ≡ MOST_LINES = omega arith in
    sym so_far ∙ ap (λ (k : ℕ). behind front (events_from p threads total k n (b ∷ s))) none ∙ ap (λ (k : ℕ). Err (fault_at TooLarge (k + 1))) same

pub shorter : (p : LinkedProgram) → IsLinked p → (threads total n : ℕ) (s after : List ℕ) (e : Event) → line_at p threads total n s ≡ Ok (e, after) → length after ≤ length s
shorter p h threads total n s after e is =
    let found = holds_at (IsLine p threads n s) (line_at p threads total n s) (e, after) (line_found p h threads total n s) is in
    let l = length-append (line p n e) after in
    omega (arith, ap length found.spelled, l)

-- ---- the limits

both_hold : {A F : Type 0} (P Q : A → Type 0) (r : Result A F) → Holds P r → Holds Q r → Holds (λ x. P x × Q x) r
both_hold P Q (Ok x) p q = (p, q)
both_hold P Q (Err e) p q = tt

line_fits : (p : LinkedProgram) (threads total n : ℕ) (s : List ℕ) → Holds (λ _. is_past total s ≡ false) (line_at p threads total n s)
unfolding line_at
line_fits p threads total n s = at (is_past total s) refl (on_line (n + 1) (event_at p threads n s))
  where
    at : (b : Bool) → is_past total s ≡ b → (r : Result (Event × List ℕ) TraceFault) → Holds (λ _. is_past total s ≡ false) (cond b (Err (fault_at TooLarge (n + 1))) r)
    at true e r = tt
    at false e (Ok x) = e
    at false e (Err f) = tt

-- a last line that ends within the limit
last_fits : (total : ℕ) (s : List ℕ) → is_past total s ≡ false → line_end s ≡ length s → length s ≤ total → total ≤ MOST_BYTES
last_fits total s e whole within = let below : (total - length s) + line_end s ≤ MOST_BYTES = ltb-false MOST_BYTES ((total - length s) + line_end s) e in omega (arith, below, whole, within)

events_fit : (p : LinkedProgram) → IsLinked p → (threads total lines n : ℕ) (s : List ℕ) → threads ≤ 2147483648 → n + lines ≤ 2147483648 → length s ≤ total → 0 < length s → Holds (λ _. total ≤ MOST_BYTES) (events_from p threads total lines n s)
unfolding events_from
events_fit p h threads total lines n [] few numbers within some = absurd (omega (arith, some))
events_fit p h threads total zero n (b ∷ s) few numbers within some = tt
events_fit p h threads total (suc lines) n (b ∷ s) few numbers within some =
    bind_holds (λ x. IsLine p threads n (b ∷ s) x × (is_past total (b ∷ s) ≡ false)) (λ _. total ≤ MOST_BYTES) (line_at p threads total n (b ∷ s)) _
    (both_hold (IsLine p threads n (b ∷ s)) (λ _. is_past total (b ∷ s) ≡ false) (line_at p threads total n (b ∷ s)) (line_found p h threads total n (b ∷ s)) (line_fits p threads total n (b ∷ s))) (λ first _ a.
    rest first.0 first.1 a.0 a.1 (λ less more. events_fit p h threads total lines (n + 1) first.1 few (omega (arith, numbers)) less more))
  where
    rest : (e : Event) (after : List ℕ) → IsLine p threads n (b ∷ s) (e, after) → is_past total (b ∷ s) ≡ false → (length after ≤ total → 0 < length after → Holds (λ _. total ≤ MOST_BYTES) (events_from p threads total lines (n + 1) after))
        → Holds (λ _. total ≤ MOST_BYTES) (events_from p threads total lines (n + 1) after >>= λ events. Ok (e ∷ events))
    rest e [] line_is fits next =
        let ends = line_ends p h threads n e [] few (omega (arith, numbers)) line_is.is in
        let l = length-append (line p n e) [] in
        let long = ap length line_is.spelled in
        let end : line_end (b ∷ s) ≡ length (b ∷ s) = ap line_end line_is.spelled ∙ omega (arith, ends, l, long) in
        last_fits total (b ∷ s) fits end within
    rest e (x ∷ after) line_is fits next =
        let l = length-append (line p n e) (x ∷ after) in
        let long = ap length line_is.spelled in
        bind_holds (λ _. total ≤ MOST_BYTES) (λ _. total ≤ MOST_BYTES) (events_from p threads total lines (n + 1) (x ∷ after)) _ (next (omega (arith, l, long, within)) (omega arith)) (λ _ _ k. k)

text_fits : (p : LinkedProgram) → IsLinked p → (threads : ℕ) (text : List ℕ) → threads ≤ 2147483648 → Holds (λ _. length text ≤ MOST_BYTES) (events_of p threads text)
unfolding events_of
text_fits p h threads [] few = weaker (AreLines p threads MOST_LINES 0 []) (λ _. 0 ≤ MOST_BYTES) (events_from p threads 0 MOST_LINES 0 []) (λ _ _. omega arith) (events_found p h threads 0 MOST_LINES 0 [])
text_fits p h threads (b ∷ text) few = events_fit p h threads (length (b ∷ text)) MOST_LINES 0 (b ∷ text) few (omega arith) (omega arith) (omega arith)

-- ---- the theorem

pub trace_found : (p : LinkedProgram) → IsLinked p → (threads : ℕ) (text : List ℕ) → threads ≤ 2147483648 → Holds (IsTraceOf p threads text) (events_of p threads text)
unfolding events_of
trace_found p h threads text few =
    weaker (λ events. AreLines p threads MOST_LINES 0 text events × (length text ≤ MOST_BYTES)) (IsTraceOf p threads text) (events_of p threads text)
    (λ events a. record { spelled = a.0.spelled; are = a.0.are; lines = a.0.few; bytes = a.1 })
    (both_hold (AreLines p threads MOST_LINES 0 text) (λ _. length text ≤ MOST_BYTES) (events_of p threads text) (events_found p h threads (length text) MOST_LINES 0 text) (text_fits p h threads text few))

pub trace_again : (p : LinkedProgram) → IsLinked p → (threads : ℕ) (text : List ℕ) (events : List Event) → threads ≤ 2147483648 → IsTraceOf p threads text events → events_of p threads text ≡ Ok events
unfolding events_of
trace_again p h threads text events few is =
    ap (λ (z : List ℕ). events_from p threads (length text) MOST_LINES 0 z) is.spelled ∙
    events_again p h threads (length text) MOST_LINES 0 events few (omega arith) is.bytes (let l = ap length is.spelled in omega (arith, l)) is.are is.lines

pub found_in : {X : Type 0} (view : X → List Event) (p : LinkedProgram) → IsLinked p → (threads : ℕ) (text : List ℕ) (r : Result X TraceFault) → threads ≤ 2147483648 → Reads view r (events_of p threads text) → IfOk r (λ x. IsTraceOf p threads text (view x))
found_in view p h threads text (Ok x) few e = holds_at (IsTraceOf p threads text) (events_of p threads text) (view x) (trace_found p h threads text few) e
found_in view p h threads text (Err f) few e = tt

pub only_in : {X : Type 0} (view : X → List Event) (p : LinkedProgram) → IsLinked p → (threads : ℕ) (text : List ℕ) (events : List Event) (r : Result X TraceFault) → threads ≤ 2147483648 → Reads view r (events_of p threads text)
    → IsTraceOf p threads text events → Reads view r (Ok events)
only_in view p h threads text events r few e is = subst (Reads view r) (trace_again p h threads text events few is) e
