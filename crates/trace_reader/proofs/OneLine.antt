-- A line that is written is read again, and what is read is a line that is written.
use Rattle.std.proofs.Common.{◌≡◌, ℕ, inl, inr, cond, true, false, List, [], ◌∷◌, ◌++◌, Option, Some, None, Ok, refl, sym, ap, subst, ◌∙◌, append_assoc, arith}
use Rattle.std.proofs.lemmas.Bool.{cases_Bool}
use Rattle.std.proofs.lemmas.Fmt.{decimal_digit, decimal_step}
use Rattle.std.specs.Fmt.{decimal}
use Rattle.std.specs.Prelude.{codes}
use Rattle.std.proofs.lemmas.Slice.Eq.{bytes_eq-Decides}
use Rattle.std.specs.Str.{bytes_eq}
use Rattle.sequence.specs.Gives.{◌>>=◌}
use Rattle.sequence.proofs.Results.{Holds, bind_holds, cond_holds}
use Rattle.hierarchy.specs.declared.class.ClassId.{ClassId}
use Rattle.hierarchy.specs.declared.value.Value.{Value}
use Rattle.hierarchy.specs.LinkedProgram.{LinkedProgram}
use Rattle.hierarchy.specs.LinkedTexts.{IsLinked}
use Rattle.init_core.specs.declared.event.Kind.{Kind}
use Rattle.init_core.specs.declared.event.Kind.TheVariants as kind
use Rattle.trace.specs.TraceText.{class_text, field_text, value_text, throwable_text, step_text, kind_text}
use Rattle.trace_reader.specs.declared.verbs.Deed.{Deed}
use Rattle.trace_reader.specs.declared.verbs.Deed.TheVariants as deed
use Rattle.trace_reader.specs.declared.verbs.Verb.{Verb}
use Rattle.trace_reader.specs.declared.verbs.Verb.TheVariants as verb
use Rattle.trace_reader.specs.Reading.{throwable_at, use_at, kind_at}
use Rattle.trace_reader.specs.TraceEvents.{HasName, IsSaidAt}
use Rattle.trace_reader.specs.Verbs.{deed_at, known_deed, verb_at}
use Rattle.trace_reader.specs.Words.{ends_word}
use Rattle.trace_reader.proofs.ClassWords.{IsNamedNext, throwable_found, throwable_again}
use Rattle.trace_reader.proofs.LineWords.{IsLineWord}
use Rattle.trace_reader.proofs.ValueWords.{IsUsed, use_found, use_again}

-- ---- the third word

abbrev pub deed_word : Deed → List ℕ
deed_word deed.Waits = codes "step2"
deed_word deed.Recurs = codes "step3"
deed_word deed.FindsInitialized = codes "step4"
deed_word deed.FindsErroneous = codes "step5"
deed_word deed.Begins = codes "step6"
deed_word deed.SuperFails = codes "step7"
deed_word deed.Runs = codes "step9"
deed_word deed.Completes = codes "step10"
deed_word deed.Fails = codes "step12"
deed_word deed.Gets = codes "get"
deed_word deed.Puts = codes "put"

abbrev pub verb_word : Verb → List ℕ
verb_word (verb.AtClass d) = deed_word d
verb_word verb.Prints = codes "print"

deed_found : (word : List ℕ) → Holds (λ v. word ≡ verb_word v) (known_deed (deed_at word))
deed_found word =
    at deed.Waits _ (λ _. at deed.Recurs _ (λ _. at deed.FindsInitialized _ (λ _. at deed.FindsErroneous _ (λ _. at deed.Begins _ (λ _. at deed.SuperFails _ (λ _.
    at deed.Runs _ (λ _. at deed.Completes _ (λ _. at deed.Fails _ (λ _. at deed.Gets _ (λ _. at deed.Puts _ (λ _. tt)))))))))))
  where
    at : (d : Deed) (other : Option Deed) → (bytes_eq word (deed_word d) ≡ false → Holds (λ v. word ≡ verb_word v) (known_deed other))
        → Holds (λ v. word ≡ verb_word v) (known_deed (cond (bytes_eq word (deed_word d)) (Some d) other))
    at d other next = elim (cases_Bool (bytes_eq word (deed_word d))) [ inl e ↦ rw e ((bytes_eq-Decides word (deed_word d)).0 e) | inr e ↦ rw e (next e) ]

pub verb_found : (word : List ℕ) → Holds (λ v. word ≡ verb_word v) (verb_at word)
unfolding verb_at
verb_found word = cond_holds (λ v. word ≡ verb_word v) (bytes_eq word (codes "print")) _ _ (bytes_eq-Decides word (codes "print")).0 (λ _. deed_found word)

pub verb_again : (v : Verb) → verb_at (verb_word v) ≡ Ok v
unfolding verb_at
verb_again (verb.AtClass deed.Waits) = refl
verb_again (verb.AtClass deed.Recurs) = refl
verb_again (verb.AtClass deed.FindsInitialized) = refl
verb_again (verb.AtClass deed.FindsErroneous) = refl
verb_again (verb.AtClass deed.Begins) = refl
verb_again (verb.AtClass deed.SuperFails) = refl
verb_again (verb.AtClass deed.Runs) = refl
verb_again (verb.AtClass deed.Completes) = refl
verb_again (verb.AtClass deed.Fails) = refl
verb_again (verb.AtClass deed.Gets) = refl
verb_again (verb.AtClass deed.Puts) = refl
verb_again verb.Prints = refl

pub verb_line : (v : Verb) → IsLineWord (verb_word v)
verb_line (verb.AtClass deed.Waits) = record { some = omega arith; whole = refl }
verb_line (verb.AtClass deed.Recurs) = record { some = omega arith; whole = refl }
verb_line (verb.AtClass deed.FindsInitialized) = record { some = omega arith; whole = refl }
verb_line (verb.AtClass deed.FindsErroneous) = record { some = omega arith; whole = refl }
verb_line (verb.AtClass deed.Begins) = record { some = omega arith; whole = refl }
verb_line (verb.AtClass deed.SuperFails) = record { some = omega arith; whole = refl }
verb_line (verb.AtClass deed.Runs) = record { some = omega arith; whole = refl }
verb_line (verb.AtClass deed.Completes) = record { some = omega arith; whole = refl }
verb_line (verb.AtClass deed.Fails) = record { some = omega arith; whole = refl }
verb_line (verb.AtClass deed.Gets) = record { some = omega arith; whole = refl }
verb_line (verb.AtClass deed.Puts) = record { some = omega arith; whole = refl }
verb_line verb.Prints = record { some = omega arith; whole = refl }

-- ---- what is done at a class

-- the deed of a kind, and what its line has after the class's name
abbrev pub deed_of : Kind → Deed
deed_of kind.Waits = deed.Waits
deed_of kind.Recurs = deed.Recurs
deed_of kind.FindsInitialized = deed.FindsInitialized
deed_of kind.FindsErroneous = deed.FindsErroneous
deed_of kind.Begins = deed.Begins
deed_of (kind.SuperFails e) = deed.SuperFails
deed_of kind.Runs = deed.Runs
deed_of kind.Completes = deed.Completes
deed_of (kind.Fails e) = deed.Fails
deed_of (kind.Gets place v) = deed.Gets
deed_of (kind.Puts place v) = deed.Puts
deed_of (kind.Prints text) = deed.Waits

abbrev pub rest_text : LinkedProgram → ClassId → Kind → List ℕ
rest_text p c (kind.SuperFails e) = codes " " ++ class_text p e
rest_text p c (kind.Fails e) = codes " " ++ class_text p e
rest_text p c (kind.Gets place v) = codes " " ++ field_text p (Some c) place ++ codes " " ++ value_text v
rest_text p c (kind.Puts place v) = codes " " ++ field_text p (Some c) place ++ codes " " ++ value_text v
rest_text p c _ = []

ten : decimal 10 ≡ codes "10"
ten = decimal_step 10 (omega arith) (omega arith) ∙ ap (λ (z : List ℕ). z ++ 48 ∷ []) (decimal_digit 1 (omega arith))

twelve : decimal 12 ≡ codes "12"
twelve = decimal_step 12 (omega arith) (omega arith) ∙ ap (λ (z : List ℕ). z ++ 50 ∷ []) (decimal_digit 1 (omega arith))

use_text : (p : LinkedProgram) (c : ClassId) (place : ℕ) (v : Value) (rest : List ℕ)
    → 32 ∷ (field_text p (Some c) place ++ 32 ∷ (value_text v ++ rest)) ≡ (codes " " ++ field_text p (Some c) place ++ codes " " ++ value_text v) ++ rest
use_text p c place v rest = simp append_assoc

step_line : (p : LinkedProgram) (n : ℕ) (digits : List ℕ) (c : ClassId) (e : Option ClassId) (rest : List ℕ) → decimal n ≡ digits
    → step_text p n (Some c) e ++ rest ≡ codes " step" ++ (digits ++ 32 ∷ (class_text p c ++ (throwable_text p e ++ rest)))
step_line p n digits c e rest d =
    subst (λ (ds : List ℕ). step_text p n (Some c) e ++ rest ≡ codes " step" ++ (ds ++ 32 ∷ (class_text p c ++ (throwable_text p e ++ rest)))) d (simp append_assoc)

-- a line after its head: the word of the deed, the class, and the rest
pub deed_text : (p : LinkedProgram) (c : ClassId) (k : Kind) (rest : List ℕ) → IsSaidAt p c k
    → kind_text p (Some c) k ++ rest ≡ 32 ∷ (deed_word (deed_of k) ++ 32 ∷ (class_text p c ++ (rest_text p c k ++ rest)))
deed_text p c kind.Waits rest h = step_line p 2 (codes "2") c None rest (decimal_digit 2 (omega arith))
deed_text p c kind.Recurs rest h = step_line p 3 (codes "3") c None rest (decimal_digit 3 (omega arith))
deed_text p c kind.FindsInitialized rest h = step_line p 4 (codes "4") c None rest (decimal_digit 4 (omega arith))
deed_text p c kind.FindsErroneous rest h = step_line p 5 (codes "5") c None rest (decimal_digit 5 (omega arith))
deed_text p c kind.Begins rest h = step_line p 6 (codes "6") c None rest (decimal_digit 6 (omega arith))
deed_text p c (kind.SuperFails e) rest h = step_line p 7 (codes "7") c (Some e) rest (decimal_digit 7 (omega arith))
deed_text p c kind.Runs rest h = step_line p 9 (codes "9") c None rest (decimal_digit 9 (omega arith))
deed_text p c kind.Completes rest h = step_line p 10 (codes "10") c None rest ten
deed_text p c (kind.Fails e) rest h = step_line p 12 (codes "12") c (Some e) rest twelve
deed_text p c (kind.Gets place v) rest h = simp append_assoc
deed_text p c (kind.Puts place v) rest h = simp append_assoc
deed_text p c (kind.Prints text) rest h = absurd h

-- what is read after the class's name
pub record IsDeed (p : LinkedProgram) (c : ClassId) (d : Deed) (s : List ℕ) (x : Kind × List ℕ) : Type 0 where
  pub spelled : s ≡ rest_text p c x.0 ++ x.1
  pub said : IsSaidAt p c x.0
  pub deed : deed_of x.0 ≡ d

thrown : (p : LinkedProgram) → IsLinked p → (c : ClassId) (d : Deed) (of : ClassId → Kind) (s : List ℕ) → ((e : ClassId) (r : List ℕ) → IsNamedNext p s (e, r) × HasName p e → IsDeed p c d s (of e, r))
    → Holds (IsDeed p c d s) (throwable_at p s >>= λ e. Ok (of e.0, e.1))
thrown p h c d of s is = bind_holds (λ x. IsNamedNext p s x × HasName p x.0) (IsDeed p c d s) (throwable_at p s) _ (throwable_found p h s) (λ e _ q. is e.0 e.1 q)

used : (p : LinkedProgram) (c : ClassId) (d : Deed) (of : ℕ → Value → Kind) (s : List ℕ) → ((place : ℕ) (v : Value) (r : List ℕ) → IsUsed p c s ((place, v), r) → IsDeed p c d s (of place v, r))
    → Holds (IsDeed p c d s) (use_at p c s >>= λ u. Ok (of u.0.0 u.0.1, u.1))
used p c d of s is = bind_holds (IsUsed p c s) (IsDeed p c d s) (use_at p c s) _ (use_found p c s) (λ u _ q. is u.0.0 u.0.1 u.1 q)

pub kind_found : (p : LinkedProgram) → IsLinked p → (c : ClassId) (d : Deed) (s : List ℕ) → Holds (IsDeed p c d s) (kind_at p c d s)
unfolding kind_at
kind_found p h c deed.Waits s = record { spelled = refl; said = tt; deed = refl }
kind_found p h c deed.Recurs s = record { spelled = refl; said = tt; deed = refl }
kind_found p h c deed.FindsInitialized s = record { spelled = refl; said = tt; deed = refl }
kind_found p h c deed.FindsErroneous s = record { spelled = refl; said = tt; deed = refl }
kind_found p h c deed.Begins s = record { spelled = refl; said = tt; deed = refl }
kind_found p h c deed.SuperFails s = thrown p h c deed.SuperFails kind.SuperFails s (λ e r q. record { spelled = q.0; said = q.1; deed = refl })
kind_found p h c deed.Runs s = record { spelled = refl; said = tt; deed = refl }
kind_found p h c deed.Completes s = record { spelled = refl; said = tt; deed = refl }
kind_found p h c deed.Fails s = thrown p h c deed.Fails kind.Fails s (λ e r q. record { spelled = q.0; said = q.1; deed = refl })
kind_found p h c deed.Gets s = used p c deed.Gets kind.Gets s (λ place v r q. record { spelled = q.spelled ∙ use_text p c place v r; said = (q.value, q.in_trace); deed = refl })
kind_found p h c deed.Puts s = used p c deed.Puts kind.Puts s (λ place v r q. record { spelled = q.spelled ∙ use_text p c place v r; said = (q.value, q.in_trace); deed = refl })

-- after the class's name comes a space or the line's end
pub record Begins (s : List ℕ) : Type 0 where
  pub first : ℕ
  pub after : List ℕ
  pub is : s ≡ first ∷ after
  pub ends : ends_word first ≡ true

pub rest_begins : (p : LinkedProgram) (c : ClassId) (k : Kind) (rest : List ℕ) → Begins (rest_text p c k ++ 10 ∷ rest)
rest_begins p c kind.Waits rest = record { first = 10; after = rest; is = refl; ends = refl }
rest_begins p c kind.Recurs rest = record { first = 10; after = rest; is = refl; ends = refl }
rest_begins p c kind.FindsInitialized rest = record { first = 10; after = rest; is = refl; ends = refl }
rest_begins p c kind.FindsErroneous rest = record { first = 10; after = rest; is = refl; ends = refl }
rest_begins p c kind.Begins rest = record { first = 10; after = rest; is = refl; ends = refl }
rest_begins p c (kind.SuperFails e) rest = record { first = 32; after = class_text p e ++ 10 ∷ rest; is = refl; ends = refl }
rest_begins p c kind.Runs rest = record { first = 10; after = rest; is = refl; ends = refl }
rest_begins p c kind.Completes rest = record { first = 10; after = rest; is = refl; ends = refl }
rest_begins p c (kind.Fails e) rest = record { first = 32; after = class_text p e ++ 10 ∷ rest; is = refl; ends = refl }
rest_begins p c (kind.Gets place v) rest = record { first = 32; after = field_text p (Some c) place ++ 32 ∷ (value_text v ++ 10 ∷ rest); is = sym (use_text p c place v (10 ∷ rest)); ends = refl }
rest_begins p c (kind.Puts place v) rest = record { first = 32; after = field_text p (Some c) place ++ 32 ∷ (value_text v ++ 10 ∷ rest); is = sym (use_text p c place v (10 ∷ rest)); ends = refl }
rest_begins p c (kind.Prints text) rest = record { first = 10; after = rest; is = refl; ends = refl }

pub kind_again : (p : LinkedProgram) → IsLinked p → (c : ClassId) (k : Kind) (rest : List ℕ) → IsSaidAt p c k → kind_at p c (deed_of k) (rest_text p c k ++ 10 ∷ rest) ≡ Ok (k, 10 ∷ rest)
unfolding kind_at
kind_again p h c kind.Waits rest s = refl
kind_again p h c kind.Recurs rest s = refl
kind_again p h c kind.FindsInitialized rest s = refl
kind_again p h c kind.FindsErroneous rest s = refl
kind_again p h c kind.Begins rest s = refl
kind_again p h c (kind.SuperFails e) rest s = rw (throwable_again p h e 10 rest s refl) refl
kind_again p h c kind.Runs rest s = refl
kind_again p h c kind.Completes rest s = refl
kind_again p h c (kind.Fails e) rest s = rw (throwable_again p h e 10 rest s refl) refl
kind_again p h c (kind.Gets place v) rest s = rw (← use_text p c place v (10 ∷ rest), use_again p h c place v 10 rest s.0 s.1 refl) refl
kind_again p h c (kind.Puts place v) rest s = rw (← use_text p c place v (10 ∷ rest), use_again p h c place v 10 rest s.0 s.1 refl) refl
kind_again p h c (kind.Prints text) rest s = absurd s
