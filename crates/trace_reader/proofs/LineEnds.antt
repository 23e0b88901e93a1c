-- A line ends with its first LF, so that it lies within the limit where its trace does.
use Rattle.std.proofs.Common.{◌≡◌, ℕ, ◌+◌, ◌/◌, ◌%◌, ◌<◌, ◌≤◌, ◌^◌, Bool, true, false, not, ◌||◌, cond, eqb, nat_lt, List, [], ◌∷◌, ◌++◌, length, Some, slice_get, refl, sym, ap, subst, ◌∙◌, append_assoc, arith}
use Rattle.std.proofs.lemmas.Bool.{and_parts, not-true}
use Rattle.std.proofs.lemmas.List.{length-append}
use Rattle.std.specs.Char.{digit_char}
use Rattle.std.specs.Fmt.{decimal}
use Rattle.std.specs.List.{list_all}
use Rattle.std.specs.Prelude.{codes}
use Rattle.jasmin_words.specs.Quoting.{quoted_byte, quoted_bytes, quoted}
use Rattle.hierarchy.specs.declared.class.ClassId.{ClassId}
use Rattle.hierarchy.specs.declared.value.Value.{Value}
use Rattle.hierarchy.specs.LinkedProgram.{LinkedProgram}
use Rattle.hierarchy.specs.LinkedTexts.{IsLinked}
use Rattle.statics.specs.Statics.{statics_of}
use Rattle.init_core.specs.declared.event.Event.{Event}
use Rattle.init_core.specs.declared.event.Kind.{Kind}
use Rattle.init_core.specs.declared.event.Kind.TheVariants as kind
use Rattle.init_core.specs.ProgramEvents.{IsValueOf}
use Rattle.init_core.specs.ProcedureWord.{IsOfFiles}
use Rattle.trace.specs.TraceText.{class_text, field_text, value_text, head, kind_text, line}
use Rattle.trace_reader.specs.TraceEvents.{HasName, IsInTrace, IsSaidAt, IsTraceEvent, at_class, prints_text}
use Rattle.trace_reader.specs.TraceReading.{line_end}
use Rattle.trace_reader.specs.Words.{ends_word}
use Rattle.trace_reader.proofs.ClassWords.{named_of_files, named_word, text_is}
use Rattle.trace_reader.proofs.LineNumbers.{decimal_line}
use Rattle.trace_reader.proofs.LineWords.{unbroken}
use Rattle.trace_reader.proofs.OneLine.{deed_word, verb_line, deed_of, rest_text, deed_text}
use Rattle.trace_reader.proofs.ValueWords.{value_line, used_line}
use Rattle.trace_reader.specs.declared.verbs.Verb.TheVariants as verb

-- no byte is LF
abbrev has_no_end : List ℕ → Bool
has_no_end s = list_all (λ b. not (eqb b 10)) s

joined : (s t : List ℕ) → has_no_end s ≡ true → has_no_end t ≡ true → has_no_end (s ++ t) ≡ true
joined [] t h k = k
joined (b ∷ s) t h k = let p = and_parts (not (eqb b 10)) (has_no_end s) h in rw (p.0, joined s t p.1 k) refl

front : (s t : List ℕ) → has_no_end (s ++ t) ≡ true → has_no_end s ≡ true
front [] t h = refl
front (b ∷ s) t h = let p = and_parts (not (eqb b 10)) (has_no_end (s ++ t)) h in rw (p.0, front s t p.1) refl

of_word : (w : List ℕ) → unbroken w ≡ true → has_no_end w ≡ true
of_word [] h = refl
of_word (b ∷ w) h = let p = and_parts (not (ends_word b)) (unbroken w) h in let n : not (eqb b 10) ≡ true = at (eqb b 32) (eqb b 10) p.0 in rw (n, of_word w p.1) refl
  where
    at : (x y : Bool) → not (x || y) ≡ true → not y ≡ true
    at x true h = at_or x h
      where
        at_or : (x : Bool) → not (x || true) ≡ true → not true ≡ true
        at_or true h = h
        at_or false h = h
    at x false h = refl

ends_at : (s t : List ℕ) → has_no_end s ≡ true → line_end (s ++ 10 ∷ t) ≡ length s + 1
ends_at [] t h = refl
ends_at (b ∷ s) t h =
    let p = and_parts (not (eqb b 10)) (has_no_end s) h in
    let n : eqb b 10 ≡ false = not-true (eqb b 10) p.0 in
    let k = ends_at s t p.1 in
    rw n (omega (arith, k))

-- ---- texts

digit_is_not : (d : ℕ) → d < 16 → not (eqb (digit_char d) 10) ≡ true
digit_is_not d h = grind arith

low : (b : ℕ) → (nat_lt b 32 || eqb b 127) ≡ true → b < 128
low b h = grind arith

byte_has_none : (b : ℕ) → has_no_end (quoted_byte b) ≡ true
byte_has_none b =
    at (eqb b 34) _ _ refl (at (eqb b 92) _ _ refl (by (eqb b 10) refl))
  where
    at : (x : Bool) (s t : List ℕ) → has_no_end s ≡ true → has_no_end t ≡ true → has_no_end (cond x s t) ≡ true
    at true s t p q = p
    at false s t p q = q

    coded : (nat_lt b 32 || eqb b 127) ≡ true → has_no_end (92 ∷ 117 ∷ 48 ∷ 48 ∷ digit_char (b / 16) ∷ digit_char (b % 16) ∷ []) ≡ true
    coded h = let small = low b h in rw (digit_is_not (b / 16) (omega (arith, small)), digit_is_not (b % 16) (omega arith)) refl

    last : (x : Bool) → (nat_lt b 32 || eqb b 127) ≡ x → eqb b 10 ≡ false → has_no_end (cond x (92 ∷ 117 ∷ 48 ∷ 48 ∷ digit_char (b / 16) ∷ digit_char (b % 16) ∷ []) (b ∷ [])) ≡ true
    last true e n = coded e
    last false e n = rw n refl

    by : (x : Bool) → eqb b 10 ≡ x → has_no_end (cond x (92 ∷ 110 ∷ []) (cond (eqb b 9) (92 ∷ 116 ∷ []) (cond (eqb b 13) (92 ∷ 114 ∷ [])
        (cond (nat_lt b 32 || eqb b 127) (92 ∷ 117 ∷ 48 ∷ 48 ∷ digit_char (b / 16) ∷ digit_char (b % 16) ∷ []) (b ∷ []))))) ≡ true
    by true e = refl
    by false e = at (eqb b 9) _ _ refl (at (eqb b 13) _ _ refl (last (nat_lt b 32 || eqb b 127) refl e))

bytes_have_none : (text : List ℕ) → has_no_end (quoted_bytes text) ≡ true
bytes_have_none [] = refl
bytes_have_none (b ∷ text) = joined (quoted_byte b) (quoted_bytes text) (byte_has_none b) (bytes_have_none text)

text_has_none : (text : List ℕ) → has_no_end (quoted text) ≡ true
text_has_none text = joined (34 ∷ quoted_bytes text) (34 ∷ []) (bytes_have_none text) refl

-- ---- lines

head_has_none : (n t : ℕ) → n < 2 ^ 64 → t < 2 ^ 64 → has_no_end (head n t) ≡ true
head_has_none n t p q = joined (decimal n ++ codes " t") (decimal t) (joined (decimal n) (codes " t") (of_word (decimal n) (decimal_line n p).whole) refl) (of_word (decimal t) (decimal_line t q).whole)

named_has_none : (p : LinkedProgram) → IsLinked p → (c : ClassId) → HasName p c → has_no_end (class_text p c) ≡ true
named_has_none p h c named = rw (text_is p c named.0 named.1) (of_word named.0 (named_word p h c named.0 named.1).whole)

use_has_none : (p : LinkedProgram) → IsLinked p → (c : ClassId) (place : ℕ) (v : Value) → IsValueOf (slice_get (statics_of p c) place) v → IsInTrace v → has_no_end (codes " " ++ field_text p (Some c) place ++ codes " " ++ value_text v) ≡ true
use_has_none p h c place v k t =
    joined (codes " " ++ field_text p (Some c) place ++ codes " ") (value_text v)
    (joined (codes " " ++ field_text p (Some c) place) (codes " ") (of_word (field_text p (Some c) place) (used_line p h c place v k).whole) refl) (of_word (value_text v) (value_line v t).whole)

rest_has_none : (p : LinkedProgram) → IsLinked p → (c : ClassId) (k : Kind) → IsSaidAt p c k → has_no_end (rest_text p c k) ≡ true
rest_has_none p h c kind.Waits s = refl
rest_has_none p h c kind.Recurs s = refl
rest_has_none p h c kind.FindsInitialized s = refl
rest_has_none p h c kind.FindsErroneous s = refl
rest_has_none p h c kind.Begins s = refl
rest_has_none p h c (kind.SuperFails e) s = named_has_none p h e s
rest_has_none p h c kind.Runs s = refl
rest_has_none p h c kind.Completes s = refl
rest_has_none p h c (kind.Fails e) s = named_has_none p h e s
rest_has_none p h c (kind.Gets place v) s = use_has_none p h c place v s.0 s.1
rest_has_none p h c (kind.Puts place v) s = use_has_none p h c place v s.0 s.1
rest_has_none p h c (kind.Prints text) s = refl

kind_has_none : (p : LinkedProgram) → IsLinked p → (c : ClassId) (k : Kind) → IsOfFiles p c → IsSaidAt p c k → has_no_end (kind_text p (Some c) k) ≡ true
kind_has_none p h c k less s =
    let word = of_word (deed_word (deed_of k)) (verb_line (verb.AtClass (deed_of k))).whole in
    let rest = joined (rest_text p c k) [] (rest_has_none p h c k s) refl in
    let class = joined (class_text p c) (rest_text p c k ++ []) (named_has_none p h c (named_of_files p c less)) rest in
    front (kind_text p (Some c) k) [] (subst (λ (z : List ℕ). has_no_end z ≡ true) (sym (deed_text p c k [] s)) (joined (deed_word (deed_of k)) (32 ∷ (class_text p c ++ (rest_text p c k ++ []))) word class))

before_end : (p : LinkedProgram) → IsLinked p → (threads n : ℕ) (e : Event) → threads ≤ 2147483648 → n < 2 ^ 64 → IsTraceEvent p threads e → has_no_end (head n e.thread ++ kind_text p e.class e.kind) ≡ true
before_end p h threads n e few small (at_class {t} {c} k less of said) = joined (head n t) (kind_text p (Some c) k) (head_has_none n t small (omega (arith, less, few))) (kind_has_none p h c k of said)
before_end p h threads n e few small (prints_text {t} text less utf8) =
    joined (head n t) (codes " print " ++ quoted text) (head_has_none n t small (omega (arith, less, few))) (joined (codes " print ") (quoted text) refl (text_has_none text))

pub line_ends : (p : LinkedProgram) → IsLinked p → (threads n : ℕ) (e : Event) (rest : List ℕ) → threads ≤ 2147483648 → n < 2 ^ 64 → IsTraceEvent p threads e → line_end (line p n e ++ rest) ≡ length (line p n e)
line_ends p h threads n e rest few small is =
    let s = head n e.thread ++ kind_text p e.class e.kind in
    ap line_end (append_assoc s (10 ∷ []) rest) ∙ ends_at s rest (before_end p h threads n e few small is) ∙ sym (length-append s (10 ∷ []))
