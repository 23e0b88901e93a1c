-- The event of a whole line, read and written.
use Rattle.std.proofs.Common.{◌≡◌, ℕ, ◌<◌, ◌≤◌, ◌^◌, true, List, ◌∷◌, ◌++◌, Ok, refl, sym, ap, subst, ◌∙◌, append_assoc, arith}
use Rattle.std.specs.Fmt.{decimal}
use Rattle.std.specs.Prelude.{codes}
use Rattle.std.specs.Str.{is_utf8}
use Rattle.jasmin_words.specs.Quoting.{quoted}
use Rattle.sequence.proofs.Results.{Holds, bind_holds, weaker}
use Rattle.hierarchy.specs.declared.class.ClassId.{ClassId}
use Rattle.hierarchy.specs.LinkedProgram.{LinkedProgram}
use Rattle.hierarchy.specs.LinkedTexts.{IsLinked}
use Rattle.init_core.specs.declared.event.Event.{Event}
use Rattle.init_core.specs.declared.event.Kind.{Kind}
use Rattle.init_core.specs.Decisions.{event}
use Rattle.init_core.specs.ProcedureWord.{IsOfFiles, printed}
use Rattle.trace.specs.TraceText.{class_text, kind_text, line}
use Rattle.trace_reader.specs.declared.verbs.Deed.{Deed}
use Rattle.trace_reader.specs.declared.verbs.Verb.{Verb}
use Rattle.trace_reader.specs.declared.verbs.Verb.TheVariants as verb
use Rattle.trace_reader.specs.Numbers.{number_at, thread_at}
use Rattle.trace_reader.specs.Reading.{class_at, kind_at, done_at, event_at}
use Rattle.trace_reader.specs.Strings.{text_at}
use Rattle.trace_reader.specs.TraceEvents.{IsSaidAt, IsTraceEvent, at_class, prints_text}
use Rattle.trace_reader.specs.Verbs.{verb_at}
use Rattle.trace_reader.specs.Words.{word_at, space_at, next_at, end_at}
use Rattle.trace_reader.proofs.ClassWords.{IsNamedNext, class_found, class_again}
use Rattle.trace_reader.proofs.LineNumbers.{number_found, number_again, thread_found, thread_again, decimal_line}
use Rattle.trace_reader.proofs.LineWords.{IsLineWord, word_found, space_found, next_found, end_found, word_again, next_again}
use Rattle.trace_reader.proofs.OneLine.{deed_word, verb_word, verb_found, verb_again, verb_line, deed_of, rest_text, deed_text, IsDeed, kind_found, kind_again, rest_begins}
use Rattle.trace_reader.proofs.QuotedTexts.{IsTextOf, text_found, text_again}

-- ---- after the third word

-- the event of a thread, with what its line has after the head
record IsDone (p : LinkedProgram) (threads t : ℕ) (v : Verb) (s : List ℕ) (x : Event × List ℕ) : Type 0 where
  spelled : 32 ∷ (verb_word v ++ s) ≡ kind_text p x.0.class x.0.kind ++ 10 ∷ x.1
  thread : x.0.thread ≡ t
  is : IsTraceEvent p threads x.0

print_text : (text rest : List ℕ) → 32 ∷ (codes "print" ++ 32 ∷ (quoted text ++ codes "\n" ++ rest)) ≡ (codes " print " ++ quoted text) ++ 10 ∷ rest
print_text text rest = simp append_assoc

done_found : (p : LinkedProgram) → IsLinked p → (threads t : ℕ) (v : Verb) (s : List ℕ) → t < threads → Holds (IsDone p threads t v s) (done_at p t v s)
unfolding done_at
done_found p h threads t (verb.AtClass d) s less =
    bind_holds (λ x. IsNamedNext p s x × IsOfFiles p x.0) (IsDone p threads t (verb.AtClass d) s) (class_at p s) _ (class_found p h s) (λ c _ a.
    bind_holds (IsDeed p c.0 d c.1) (IsDone p threads t (verb.AtClass d) s) (kind_at p c.0 d c.1) _ (kind_found p h c.0 d c.1) (λ k _ b.
    bind_holds (λ x. k.1 ≡ 10 ∷ x) (IsDone p threads t (verb.AtClass d) s) (end_at k.1) _ (end_found k.1) (λ after _ e. record {
      spelled =
          ap (λ (z : List ℕ). 32 ∷ (deed_word d ++ z)) (a.0 ∙ ap (λ (z : List ℕ). 32 ∷ (class_text p c.0 ++ z)) (b.spelled ∙ ap (λ (z : List ℕ). rest_text p c.0 k.0 ++ z) e))
          ∙ ap (λ (x : Deed). 32 ∷ (deed_word x ++ 32 ∷ (class_text p c.0 ++ (rest_text p c.0 k.0 ++ 10 ∷ after)))) (sym b.deed)
          ∙ sym (deed_text p c.0 k.0 (10 ∷ after) b.said);
      thread = refl;
      is = at_class k.0 less a.1 b.said;
    })))
done_found p h threads t verb.Prints s less =
    bind_holds (λ x. s ≡ 32 ∷ x) (IsDone p threads t verb.Prints s) (space_at s) _ (space_found s) (λ after _ a.
    bind_holds (IsTextOf after) (IsDone p threads t verb.Prints s) (text_at after) _ (text_found after) (λ text _ b. record {
      spelled = ap (λ (z : List ℕ). 32 ∷ (codes "print" ++ z)) (a ∙ ap (λ (z : List ℕ). 32 ∷ z) b.0) ∙ print_text text.0 text.1;
      thread = refl;
      is = prints_text text.0 less b.1;
    }))

done_again : (p : LinkedProgram) → IsLinked p → (c : ClassId) (t : ℕ) (k : Kind) (rest : List ℕ) → IsOfFiles p c → IsSaidAt p c k
    → done_at p t (verb.AtClass (deed_of k)) (32 ∷ (class_text p c ++ (rest_text p c k ++ 10 ∷ rest))) ≡ Ok (event t c k, rest)
unfolding done_at end_at
done_again p h c t k rest less said =
    let b = rest_begins p c k rest in
    let class : class_at p (32 ∷ (class_text p c ++ (rest_text p c k ++ 10 ∷ rest))) ≡ Ok (c, rest_text p c k ++ 10 ∷ rest) =
    subst (λ (z : List ℕ). class_at p (32 ∷ (class_text p c ++ z)) ≡ Ok (c, z)) (sym b.is) (class_again p h c b.first b.after less b.ends) in
    rw (class, kind_again p h c k rest said) refl

print_again : (p : LinkedProgram) (t : ℕ) (text rest : List ℕ) → is_utf8 text ≡ true → done_at p t verb.Prints (32 ∷ (quoted text ++ codes "\n" ++ rest)) ≡ Ok (printed t text, rest)
unfolding done_at space_at
print_again p t text rest u = rw (text_again text rest u) refl

-- ---- the whole line

line_text : (p : LinkedProgram) (n : ℕ) (e : Event) (rest : List ℕ) → line p n e ++ rest ≡ decimal n ++ 32 ∷ (116 ∷ (decimal e.thread ++ (kind_text p e.class e.kind ++ 10 ∷ rest)))
line_text p n e rest = simp append_assoc

-- a line of the trace, its event, and what follows it
pub record IsLine (p : LinkedProgram) (threads n : ℕ) (s : List ℕ) (x : Event × List ℕ) : Type 0 where
  pub spelled : s ≡ line p n x.0 ++ x.1
  pub is : IsTraceEvent p threads x.0

pub event_found : (p : LinkedProgram) → IsLinked p → (threads n : ℕ) (s : List ℕ) → Holds (IsLine p threads n s) (event_at p threads n s)
unfolding event_at
event_found p h threads n s =
    bind_holds (λ x. s ≡ x.0 ++ x.1) (IsLine p threads n s) (word_at s) _ (word_found s) (λ number _ a.
    bind_holds (λ _. number.0 ≡ decimal n) (IsLine p threads n s) (number_at n number.0) _ (number_found n number.0) (λ _ _ b.
    bind_holds (λ x. number.1 ≡ 32 ∷ (x.0 ++ x.1)) (IsLine p threads n s) (next_at number.1) _ (next_found number.1) (λ thread _ c.
    bind_holds (λ t. (thread.0 ≡ 116 ∷ decimal t) × (t < threads)) (IsLine p threads n s) (thread_at threads thread.0) _ (thread_found threads thread.0) (λ t _ d.
    bind_holds (λ x. thread.1 ≡ 32 ∷ (x.0 ++ x.1)) (IsLine p threads n s) (next_at thread.1) _ (next_found thread.1) (λ third _ e.
    bind_holds (λ v. third.0 ≡ verb_word v) (IsLine p threads n s) (verb_at third.0) _ (verb_found third.0) (λ v _ f.
    weaker (IsDone p threads t v third.1) (IsLine p threads n s) (done_at p t v third.1) (λ x g. record {
      spelled = rw (a, b, c, d.0, e, f, g.spelled, ← g.thread) (sym (line_text p n x.0 x.1));
      is = g.is;
    }) (done_found p h threads t v third.1 d.1)))))))

-- what follows the head, at once
after_head : (p : LinkedProgram) (threads n t : ℕ) (v : Verb) (s : List ℕ) → n < 2 ^ 64 → t < threads → t < 2147483648
    → event_at p threads n (decimal n ++ 32 ∷ (116 ∷ (decimal t ++ 32 ∷ (verb_word v ++ 32 ∷ s)))) ≡ done_at p t v (32 ∷ s)
unfolding event_at
after_head p threads n t v s small less few =
    let one = word_again (decimal n) (116 ∷ (decimal t ++ 32 ∷ (verb_word v ++ 32 ∷ s))) 32 (decimal_line n small) refl in
    let d = decimal_line t (omega (arith, few)) in
    let thread : IsLineWord (116 ∷ decimal t) = record { some = omega arith; whole = d.whole } in
    let two = next_again (116 ∷ decimal t) (verb_word v ++ 32 ∷ s) 32 thread refl in
    let three = next_again (verb_word v) s 32 (verb_line v) refl in
    rw (one, number_again n, two, thread_again threads t less few, three, verb_again v) refl

pub event_again : (p : LinkedProgram) → IsLinked p → (threads n : ℕ) (e : Event) (rest : List ℕ) → threads ≤ 2147483648 → n < 2 ^ 64 → IsTraceEvent p threads e → event_at p threads n (line p n e ++ rest) ≡ Ok (e, rest)
event_again p h threads n e rest few small (at_class {t} {c} k less of said) =
    ap (event_at p threads n) (line_text p n (event t c k) rest ∙ ap (λ (z : List ℕ). decimal n ++ 32 ∷ (116 ∷ (decimal t ++ z))) (deed_text p c k (10 ∷ rest) said))
    ∙ after_head p threads n t (verb.AtClass (deed_of k)) (class_text p c ++ (rest_text p c k ++ 10 ∷ rest)) small less (omega (arith, less, few)) ∙ done_again p h c t k rest of said
event_again p h threads n e rest few small (prints_text {t} text less utf8) =
    ap (event_at p threads n) (line_text p n (printed t text) rest ∙ ap (λ (z : List ℕ). decimal n ++ 32 ∷ (116 ∷ (decimal t ++ z))) (sym (print_text text rest)))
    ∙ after_head p threads n t verb.Prints (quoted text ++ codes "\n" ++ rest) small less (omega (arith, less, few)) ∙ print_again p t text rest utf8
