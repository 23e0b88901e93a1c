-- The journals of all threads have the stamps of one log, each once, and rising; the log's events are theirs in the order of the
-- stamps.
use Rattle.std.proofs.Common.{◌≡◌, ℕ, suc, ◌+◌, ◌<◌, ◌≤◌, ⊎_elim, List, [], ◌∷◌, ◌++◌, Some, Bool, true, false, eqb, cond, map, length, refl, sym, subst, ap, ◌∙◌, append_assoc, eqb-true, ne_eqb, arith}
use Rattle.std.specs.Prelude.{slice_get, slice_index, flat_map}
use Rattle.std.specs.List.{AllByRecursion}
use Rattle.std.specs.List.Sorted.{IsPermutation, IsStrictlyIncreasing}
use Rattle.std.proofs.lemmas.Bool.{cases_order, eqb-false}
use Rattle.std.proofs.lemmas.List.Sorted.{IsPermutation-refl, IsPermutation-cons, IsPermutation-sym, IsPermutation-trans, IsPermutation-append_right, IsPermutation-middle}
use Rattle.init_core.specs.declared.event.Event.{Event}
use Rattle.init_lock.specs.declared.journal.Stamped.{Stamped}
use Rattle.init_lock.specs.Closing.{numbers}
use Rattle.init_lock.specs.Log.{Entry, journal_of, stamped}
use Rattle.guest_threads.specs.Drawing.{merged}
use Rattle.guest_threads.specs.MergedJournals.{IsMergeOf, stamps}
use Rattle.guest_threads.specs.Working.{drawn}
use Rattle.guest_threads.proofs.Merged.{Log, Fair, journal_is}

abbrev StampedEvent : Type 0
StampedEvent = Stamped Event

-- one entry more, where it is the thread's own or another's
either : (P : List StampedEvent → Type 0) (b : Bool) (s : StampedEvent) (js : List StampedEvent) → P (s ∷ js) → P js → P (cond b (s ∷ js) js)
either P true s js own other = own
either P false s js own other = other

-- ---- they rise

from_on : (t i j : ℕ) (log : Log) → i ≤ j → AllByRecursion (λ n. i ≤ n) (stamps (journal_of t j log))
from_on t i j [] l = tt
from_on t i j (e ∷ es) l =
    let rest = from_on t i (suc j) es (omega arith) in
    either (λ js. AllByRecursion (λ n. i ≤ n) (stamps js)) (eqb e.by t) (stamped j e.place e.event) (journal_of t (suc j) es) (l, rest) rest

increasing : (n : ℕ) (ns : List ℕ) → AllByRecursion (λ m. suc n ≤ m) ns → IsStrictlyIncreasing ns → IsStrictlyIncreasing (n ∷ ns)
increasing n [] above rest k l = absurd (omega arith)
increasing n (m ∷ ns) above rest Prim.Native.Nat.zero l = let a : suc n ≤ m = above.0 in omega arith
increasing n (m ∷ ns) above rest (suc k) l =
    let z : suc k + 1 ≡ suc (k + 1) = omega arith in
    subst (λ (j : ℕ). slice_index (m ∷ ns) k < slice_index (n ∷ m ∷ ns) j) (sym z) (rest k (omega arith))

journal_rises : (t i : ℕ) (log : Log) → IsStrictlyIncreasing (stamps (journal_of t i log))
journal_rises t i [] = λ k l. absurd (omega arith)
journal_rises t i (e ∷ es) =
    let rest = journal_rises t (suc i) es in
    either (λ js. IsStrictlyIncreasing (stamps js)) (eqb e.by t) (stamped i e.place e.event) (journal_of t (suc i) es)
    (increasing i (stamps (journal_of t (suc i) es)) (from_on t (suc i) (suc i) es (omega arith)) rest) rest

-- ---- the event of a stamp is the one at that index

at_end : (front : List Event) (x : Event) (xs : List Event) → slice_get (front ++ x ∷ xs) (length front) ≡ Some x
at_end [] x xs = refl
at_end (y ∷ front) x xs = at_end front x xs

length_snoc : (front : List Event) (x : Event) → length (front ++ x ∷ []) ≡ suc (length front)
length_snoc [] x = refl
length_snoc (y ∷ front) x = ap suc (length_snoc front x)

placed : (t i : ℕ) (front : List Event) (log : Log) → i ≡ length front → AllByRecursion (λ s. slice_get (front ++ merged log) s.stamp ≡ Some s.event) (journal_of t i log)
placed t i front [] e = tt
placed t i front (x ∷ xs) e =
    let rest = subst (λ (es : List Event). AllByRecursion (λ s. slice_get es s.stamp ≡ Some s.event) (journal_of t (suc i) xs)) (append_assoc front (x.event ∷ []) (merged xs))
    (placed t (suc i) (front ++ x.event ∷ []) xs (ap suc e ∙ sym (length_snoc front x.event))) in
    either (λ js. AllByRecursion (λ s. slice_get (front ++ merged (x ∷ xs)) s.stamp ≡ Some s.event) js) (eqb x.by t) (stamped i x.place x.event) (journal_of t (suc i) xs)
    (ap (slice_get (front ++ merged (x ∷ xs))) e ∙ at_end front x.event (merged xs), rest) rest

-- ---- each stamp is there once

-- the stamps of all journals, from the number a on
abbrev collected : ℕ → Log → List ℕ → List ℕ
collected i log ts = flat_map (λ t. stamps (journal_of t i log)) ts

kept_out : (b : Bool) (i : ℕ) (s : StampedEvent) (js : List StampedEvent) → b ≡ false → stamps (cond b (s ∷ js) js) ≡ stamps js
kept_out true i s js e = cc
kept_out false i s js e = refl

-- nothing of it is in the journals of threads above its own
others_same : (e : Entry Event) (es : Log) (i a n : ℕ) → e.by < a → collected i (e ∷ es) (numbers a n) ≡ collected (suc i) es (numbers a n)
others_same e es i a Prim.Native.Nat.zero l = refl
others_same e es i a (suc n) l =
    let differs : eqb e.by a ≡ false = ne_eqb e.by a (λ q. absurd (omega arith)) in
    ap (λ (xs : List ℕ). xs ++ collected i (e ∷ es) (numbers (suc a) n)) (kept_out (eqb e.by a) i (stamped i e.place e.event) (journal_of a (suc i) es) differs)
    ∙ ap (λ (xs : List ℕ). stamps (journal_of a (suc i) es) ++ xs) (others_same e es i (suc a) n (omega arith))

above_it : (m k : ℕ) → k ≤ m → eqb m k ≡ false → k < m
above_it m k l q = ⊎_elim (λ z. absurd (eqb-false m k q z)) (λ z. ⊎_elim (λ y. omega arith) (λ y. y) z) (cases_order m k)

-- the stamps of one journal and of those after it, where the entry is in the one or, once, in those after it
with_one : (b : Bool) (i : ℕ) (s : StampedEvent) (js : List StampedEvent) (more rest : List ℕ) → s.stamp ≡ i → (b ≡ true → more ≡ rest) → (b ≡ false → IsPermutation more (i ∷ rest)) →
    IsPermutation (stamps (cond b (s ∷ js) js) ++ more) (i ∷ (stamps js ++ rest))
with_one true i s js more rest is same other =
    subst (λ (n : ℕ). IsPermutation (s.stamp ∷ (stamps js ++ more)) (n ∷ (stamps js ++ rest))) is
    (subst (λ (xs : List ℕ). IsPermutation (s.stamp ∷ (stamps js ++ more)) (s.stamp ∷ (stamps js ++ xs))) (same refl) (IsPermutation-refl (s.stamp ∷ (stamps js ++ more))))
with_one false i s js more rest is same other =
    IsPermutation-trans _ _ _ (IsPermutation-append_right (stamps js) more (i ∷ rest) (other refl)) (IsPermutation-middle (stamps js) i rest)

one_more : (e : Entry Event) (es : Log) (i a n : ℕ) → a ≤ e.by → e.by < a + n → IsPermutation (collected i (e ∷ es) (numbers a n)) (i ∷ collected (suc i) es (numbers a n))
one_more e es i a Prim.Native.Nat.zero low high = absurd (omega arith)
one_more e es i a (suc n) low high =
    with_one (eqb e.by a) i (stamped i e.place e.event) (journal_of a (suc i) es) (collected i (e ∷ es) (numbers (suc a) n)) (collected (suc i) es (numbers (suc a) n)) refl
    (λ q. others_same e es i (suc a) n (let z = eqb-true e.by a q in omega arith))
    (λ q. let differs = above_it e.by a low q in one_more e es i (suc a) n (omega arith) (omega arith))

none_collected : (i : ℕ) (ts : List ℕ) → collected i [] ts ≡ []
none_collected i [] = refl
none_collected i (t ∷ ts) = none_collected i ts

all_collected : (threads places i : ℕ) (log : Log) → Fair threads places log → IsPermutation (numbers i (length log)) (collected i log (numbers 0 threads))
all_collected threads places i [] f = subst (λ (xs : List ℕ). IsPermutation [] xs) (sym (none_collected i (numbers 0 threads))) (IsPermutation-refl [])
all_collected threads places i (e ∷ es) f =
    IsPermutation-trans _ _ _ (IsPermutation-cons i _ _ (all_collected threads places (suc i) es f.3))
    (IsPermutation-sym _ _ (one_more e es i 0 threads (omega arith) (let z : e.by < threads = f.0 in omega arith)))

-- ---- the journals of all threads

-- the journals of so many threads
abbrev pub journals_of : ℕ → Log → List (List StampedEvent)
journals_of threads log = map (λ t. journal_of t 0 log) (numbers 0 threads)

flat_map_map : {A B C : Type 0} (f : A → B) (g : B → List C) (xs : List A) → flat_map g (map f xs) ≡ flat_map (λ x. g (f x)) xs
flat_map_map f g [] = refl
flat_map_map f g (x ∷ xs) = ap (λ (ys : List _). g (f x) ++ ys) (flat_map_map f g xs)

of_all : {A B : Type 0} (f : A → B) (P : B → Type 0) → ((x : A) → P (f x)) → (xs : List A) → AllByRecursion P (map f xs)
of_all f P h [] = tt
of_all f P h (x ∷ xs) = (h x, of_all f P h xs)

length_merged : (log : Log) → length (merged log) ≡ length log
length_merged [] = refl
length_merged (e ∷ es) = ap suc (length_merged es)

-- the one at t is that of thread t
journal_at : (i n t : ℕ) (log : Log) (journal : List StampedEvent) → slice_get (map (λ t. journal_of t 0 log) (numbers i n)) t ≡ Some journal → journal ≡ journal_of (i + t) 0 log
journal_at i Prim.Native.Nat.zero t log journal q = cc
journal_at i (suc n) Prim.Native.Nat.zero log journal q = let z : i ≡ i + 0 = omega arith in (let y : journal ≡ journal_of i 0 log = cc in y) ∙ ap (λ (k : ℕ). journal_of k 0 log) z
journal_at i (suc n) (suc t) log journal q = let z : suc i + t ≡ i + suc t = omega arith in journal_at (suc i) n t log journal q ∙ ap (λ (k : ℕ). journal_of k 0 log) z

pub is_merge : (threads places : ℕ) (log : Log) → Fair threads places log → IsMergeOf (journals_of threads log) (merged log)
is_merge threads places log f = record {
  each_once = subst (λ (n : ℕ). IsPermutation (numbers 0 n) (flat_map stamps (journals_of threads log))) (sym (length_merged log))
      (subst (IsPermutation (numbers 0 (length log))) (sym (flat_map_map (λ t. journal_of t 0 log) stamps (numbers 0 threads))) (all_collected threads places 0 log f));
  rising = of_all (λ t. journal_of t 0 log) (λ journal. IsStrictlyIncreasing (stamps journal)) (λ t. journal_rises t 0 log) (numbers 0 threads);
  in_order = of_all (λ t. journal_of t 0 log) (λ journal. AllByRecursion (λ s. slice_get (merged log) s.stamp ≡ Some s.event) journal) (λ t. placed t 0 [] log refl) (numbers 0 threads);
  parts = λ t journal q. let z : 0 + t ≡ t = omega arith in
      ap drawn (journal_at 0 threads t log journal q ∙ ap (λ (k : ℕ). journal_of k 0 log) z) ∙ sym (journal_is threads places t 0 log f);
}
