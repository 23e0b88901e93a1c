-- Events of a program in its trace, and the first fault.
use Rattle.std.proofs.Common.{◌≡◌, ◌⊎◌, inl, inr, ℕ, zero, suc, ◌+◌, Bool, true, false, cond, List, [], ◌∷◌, ◌++◌, length, Result, Ok, Err, refl, sym, ap, ◌∙◌, append_assoc, arith}
use Rattle.std.proofs.lemmas.Option.{slice_get_within}
use Rattle.std.specs.List.{AllByRecursion}
use Rattle.sequence.specs.Gives.{◌>>=◌}
use Rattle.sequence.proofs.Results.{holds_at}
use Rattle.hierarchy.specs.declared.built_in.BuiltIn.{BuiltIn}
use Rattle.hierarchy.specs.declared.built_in.BuiltIn.TheVariants.{Throwable}
use Rattle.hierarchy.specs.declared.class.ClassId.{ClassId}
use Rattle.hierarchy.specs.BuiltIn.{name_of}
use Rattle.hierarchy.specs.LinkedProgram.{LinkedProgram, built_in}
use Rattle.hierarchy.specs.LinkedTexts.{IsLinked}
use Rattle.hierarchy.specs.Subclasses.{Extends, in_file, is_built_in, IsSubclass, itself, below, IsThrowable}
use Rattle.hierarchy.proofs.ClassNames.{classes_found, built_ins_found}
use Rattle.init_core.specs.declared.event.Event.{Event}
use Rattle.init_core.specs.declared.event.Kind.{Kind}
use Rattle.init_core.specs.declared.event.Kind.TheVariants as kind
use Rattle.init_core.specs.ProgramEvents as program_events
use Rattle.init_core.specs.ProgramEvents.{IsDoneAt, IsProgramEvent}
use Rattle.trace.specs.TraceText.{line, trace_from}
use Rattle.trace_reader.specs.declared.fault.TraceFault.{TraceFault}
use Rattle.trace_reader.specs.declared.fault.TraceFaultKind.{TraceFaultKind}
use Rattle.trace_reader.specs.declared.fault.TraceFaultKind.TheVariants.{TooLarge}
use Rattle.trace_reader.specs.declared.reader.TheConstants.{MOST_LINES}
use Rattle.trace_reader.specs.Faults.{fault_at, on_line}
use Rattle.trace_reader.specs.Laws.{HasTraceValue, IsFirstFault}
use Rattle.trace_reader.specs.Reading.{event_at}
use Rattle.trace_reader.specs.TraceEvents.{HasName, IsSaidAt, IsTraceEvent, at_class, prints_text}
use Rattle.trace_reader.specs.TraceReading.{is_past, line_at, events_from, events_of}
use Rattle.trace_reader.proofs.ClassWords.{named_of_files}
use Rattle.trace_reader.proofs.LineEvents.{IsLine}
use Rattle.trace_reader.proofs.WholeTrace.{line_found}

-- ---- events of a program

built_in_named : (p : LinkedProgram) → IsLinked p → (b : BuiltIn) → HasName p (built_in p b)
built_in_named p h b = (name_of b, (classes_found p h (built_in p b) (name_of b)).1 (built_ins_found p h b))

extends_named : (p : LinkedProgram) → IsLinked p → (c s : ClassId) → Extends p.classes c s → HasName p c
extends_named p h c s (in_file {class} e) = named_of_files p c (slice_get_within p.classes c.number class e)
extends_named p h c s (is_built_in b t e) = built_in_named p h b

subclass_named : (p : LinkedProgram) → IsLinked p → (c d : ClassId) → IsSubclass p.classes c d → HasName p d → HasName p c
subclass_named p h c d itself named = named
subclass_named p h c d (below {s} e rest) named = extends_named p h c s e

throwable_named : (p : LinkedProgram) → IsLinked p → (e : ClassId) → IsThrowable p e → HasName p e
throwable_named p h e is = subclass_named p h e (built_in p Throwable) is (built_in_named p h Throwable)

said : (p : LinkedProgram) → IsLinked p → (c : ClassId) (k : Kind) → IsDoneAt p c k → HasTraceValue k → IsSaidAt p c k
said p h c kind.Waits d v = tt
said p h c kind.Recurs d v = tt
said p h c kind.FindsInitialized d v = tt
said p h c kind.FindsErroneous d v = tt
said p h c kind.Begins d v = tt
said p h c (kind.SuperFails e) d v = throwable_named p h e d
said p h c kind.Runs d v = tt
said p h c kind.Completes d v = tt
said p h c (kind.Fails e) d v = throwable_named p h e d
said p h c (kind.Gets place value) d v = (d, v)
said p h c (kind.Puts place value) d v = (d, v)
said p h c (kind.Prints text) d v = d

pub in_trace : (p : LinkedProgram) → IsLinked p → (threads : ℕ) (e : Event) → IsProgramEvent p threads e → HasTraceValue e.kind → IsTraceEvent p threads e
in_trace p h threads e (program_events.at_class {t} {c} k less of done) v = at_class k less of (said p h c k done v)
in_trace p h threads e (program_events.prints_text text less utf8) v = prints_text text less utf8

-- ---- the first fault

-- the same after some lines
record IsFaultFrom (p : LinkedProgram) (threads total lines n : ℕ) (s : List ℕ) (f : TraceFault) : Type 0 where
  events : List Event
  rest : List ℕ
  spelled : s ≡ trace_from p n events ++ rest
  are : AllByRecursion (IsTraceEvent p threads) events
  line : f.line ≡ n + length events + 1
  met : (line_at p threads total (n + length events) rest ≡ Err f) ⊎ ((length events ≡ lines) × (f ≡ fault_at TooLarge (n + lines + 1)))

fault_line : (p : LinkedProgram) (threads total n : ℕ) (s : List ℕ) (f : TraceFault) → line_at p threads total n s ≡ Err f → f.line ≡ n + 1
unfolding line_at
fault_line p threads total n s f e = at (is_past total s) (event_at p threads n s) e
  where
    at : (b : Bool) (r : Result (Event × List ℕ) TraceFaultKind) → cond b (Err (fault_at TooLarge (n + 1))) (on_line (n + 1) r) ≡ Err f → f.line ≡ n + 1
    at true r e = let same : fault_at TooLarge (n + 1) ≡ f = cc in sym (ap (λ (g : TraceFault). g.line) same)
    at false (Ok x) e = absurd cc
    at false (Err k) e = let same : fault_at k (n + 1) ≡ f = cc in sym (ap (λ (g : TraceFault). g.line) same)

fault_from : (p : LinkedProgram) → IsLinked p → (threads total lines n : ℕ) (s : List ℕ) (f : TraceFault) → events_from p threads total lines n s ≡ Err f → IsFaultFrom p threads total lines n s f
unfolding events_from
fault_from p h threads total lines n [] f e = absurd cc
fault_from p h threads total zero n (b ∷ s) f e =
    let same : fault_at TooLarge (n + 1) ≡ f = cc in
    record { events = []; rest = b ∷ s; spelled = refl; are = tt; line = sym (ap (λ (g : TraceFault). g.line) same) ∙ omega arith; met = inr (refl, sym same ∙ ap (λ (k : ℕ). fault_at TooLarge k) (omega arith)) }
fault_from p h threads total (suc lines) n (b ∷ s) f e = at (line_at p threads total n (b ∷ s)) refl e (λ t. fault_from p h threads total lines (n + 1) t f)
  where
    behind_one : (first : Event × List ℕ) → IsLine p threads n (b ∷ s) first → IsFaultFrom p threads total lines (n + 1) first.1 f → IsFaultFrom p threads total (suc lines) n (b ∷ s) f
    behind_one first is k =
        let number : (n + 1) + length k.events ≡ n + length (first.0 ∷ k.events) = omega arith in
        let last : (n + 1) + lines + 1 ≡ n + suc lines + 1 = omega arith in
        record {
          events = first.0 ∷ k.events;
          rest = k.rest;
          spelled = is.spelled ∙ ap (λ (z : List ℕ). line p n first.0 ++ z) k.spelled ∙ sym (append_assoc (line p n first.0) (trace_from p (n + 1) k.events) k.rest);
          are = (is.is, k.are);
          line = k.line ∙ ap (λ (m : ℕ). m + 1) number;
          met = elim k.met [ inl m ↦ inl (ap (λ (z : ℕ). line_at p threads total z k.rest) (sym number) ∙ m) | inr m ↦ inr (ap suc m.0, m.1 ∙ ap (λ (z : ℕ). fault_at TooLarge z) last) ];
        }

    inner : (first : Event × List ℕ) (r : Result (List Event) TraceFault) → (r >>= λ events. Ok (first.0 ∷ events)) ≡ Err f → r ≡ Err f
    inner first (Ok events) q = absurd cc
    inner first (Err g) q = q

    at : (r : Result (Event × List ℕ) TraceFault) → line_at p threads total n (b ∷ s) ≡ r → (r >>= λ first. events_from p threads total lines (n + 1) first.1 >>= λ events. Ok (first.0 ∷ events)) ≡ Err f
        → ((t : List ℕ) → events_from p threads total lines (n + 1) t ≡ Err f → IsFaultFrom p threads total lines (n + 1) t f) → IsFaultFrom p threads total (suc lines) n (b ∷ s) f
    at (Ok first) q e next = behind_one first (holds_at (IsLine p threads n (b ∷ s)) (line_at p threads total n (b ∷ s)) first (line_found p h threads total n (b ∷ s)) q) (next first.1 (inner first (events_from p threads total lines (n + 1) first.1) e))
    at (Err g) q e next =
        let same : g ≡ f = cc in
        let told : line_at p threads total n (b ∷ s) ≡ Err f = q ∙ ap (λ (z : TraceFault). Err z) same in
        let none : n + 0 ≡ n = omega arith in
        record {
          events = [];
          rest = b ∷ s;
          spelled = refl;
          are = tt;
          line = fault_line p threads total n (b ∷ s) f told ∙ omega arith;
          met = inl (ap (λ (z : ℕ). line_at p threads total z (b ∷ s)) none ∙ told);
        }

pub first_fault : (p : LinkedProgram) → IsLinked p → (threads : ℕ) (text : List ℕ) (f : TraceFault) → events_of p threads text ≡ Err f → IsFirstFault p threads text f
unfolding events_of
first_fault p h threads text f e =
    let k = fault_from p h threads (length text) MOST_LINES 0 text f e in
    let none : 0 + length k.events ≡ length k.events = omega arith in
    record {
      events = k.events;
      rest = k.rest;
      spelled = k.spelled;
      are = k.are;
      line = k.line ∙ omega arith;
      met = elim k.met [ inl m ↦ inl (ap (λ (z : ℕ). line_at p threads (length text) z k.rest) (sym none) ∙ m) | inr m ↦ inr (m.0, m.1) ];
    }
