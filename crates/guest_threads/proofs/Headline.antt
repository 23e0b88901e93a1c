-- From the journals of all threads and the records of all classes to the legal interleaving.
use Rattle.std.proofs.Common.{◌≡◌, ◌≢◌, ℕ, suc, ◌+◌, ◌<◌, ◌≤◌, ◌⊎◌, inl, inr, ⊎_elim, List, [], ◌∷◌, Option, Some, None, Bool, cond, map, length, refl, sym, subst, ap, ◌∙◌, arith, ne_eqb}
use Rattle.std.specs.Prelude.{slice_get, MatchOption}
use Rattle.std.proofs.lemmas.Option.{slice_get_cases}
use Rattle.hierarchy.specs.LinkedProgram.{LinkedProgram, id}
use Rattle.hierarchy.specs.declared.class.ClassId.{ClassId}
use Rattle.statics.specs.Statics.{statics_of}
use Rattle.init_core.specs.declared.event.Event.{Event}
use Rattle.init_core.specs.declared.event.Label.TheVariants.{InProgress}
use Rattle.init_core.specs.Label.{label_of, is_completion}
use Rattle.init_core.specs.Lawful.{IsLawful}
use Rattle.init_core.specs.ProcedureWord.{ThreadWord}
use Rattle.init_core.specs.Interleaving.{of_thread, of_class, IsLegal, labels_of, labels_from}
use Rattle.init_lock.specs.Log.{is_at, events_at, journal_of, IsPlace, AllBacked}
use Rattle.init_lock.specs.Closing.{HasRecords}
use Rattle.guest_threads.specs.declared.guarded.Guarded.{Guarded}
use Rattle.guest_threads.specs.Drawing.{merged, leans_on}
use Rattle.guest_threads.proofs.Inside.{Alone, thread_alone}
use Rattle.guest_threads.proofs.Merged.{Log, Fair, label_same, journal_is, no_others, classes_agree, events_in}
use Rattle.guest_threads.proofs.FieldValues.{values_about}
use Rattle.guest_threads.proofs.Ended.{none_in_progress}

-- each record is of its place's class, as far as its static fields go, and lawful
abbrev pub AreLawful : LinkedProgram → ℕ → List Guarded → Type 0
AreLawful p i [] = Unit {0}
AreLawful p i (r ∷ rs) = IsLawful (statics_of p (id i)) r.record.events × AreLawful p (suc i) rs

-- each thread's journal is a word of its main class
abbrev pub HaveWords : LinkedProgram → List ClassId → Log → Type 0
HaveWords p mains log = (t : ℕ) (m : ClassId) → slice_get mains t ≡ Some m → ThreadWord p t m (events_in (journal_of t 0 log))

main_of : (mains : List ClassId) (t : ℕ) → (t < length mains) → (m : ClassId) × (slice_get mains t ≡ Some m)
main_of mains t l = ⊎_elim (λ x. (x.0, x.2)) (λ x. absurd (let y = x.0 in omega arith)) (slice_get_cases mains t).1

thread_word : (p : LinkedProgram) (t : ℕ) (o : Option ClassId) (xs : List Event) → (o ≡ None → xs ≡ []) → ((m : ClassId) → o ≡ Some m → ThreadWord p t m xs) → MatchOption o (xs ≡ []) (λ m. ThreadWord p t m xs)
thread_word p t None xs a b = a refl
thread_word p t (Some m) xs a b = b m refl

beyond : (mains : List ClassId) (t : ℕ) → slice_get mains t ≡ None → length mains ≤ t
beyond mains t q = ⊎_elim (λ x. absurd (let y = x.2 in cc)) (λ x. x.0) (slice_get_cases mains t).1

passed_by : (places n : ℕ) (place : Option ℕ) (x : Event) (xs : List Event) → IsPlace places place → places ≤ n → xs ≡ [] → cond (is_at n place) (x ∷ xs) xs ≡ []
passed_by places n None x xs a l h = h
passed_by places n (Some m) x xs a l h =
    let differs : m ≢ n = λ q. absurd (omega arith) in
    ap (λ (b : Bool). cond b (x ∷ xs) xs) (ne_eqb m n differs) ∙ h

nothing_at : (threads places n : ℕ) (es : Log) → Fair threads places es → places ≤ n → events_at n es ≡ []
nothing_at threads places n [] f l = refl
nothing_at threads places n (e ∷ es) f l = passed_by places n e.place e.event (events_at n es) f.1 l (nothing_at threads places n es f.3 l)

below_or : (n m : ℕ) → (n < m) ⊎ (m ≤ n)
below_or n Prim.Native.Nat.zero = inr (omega arith)
below_or Prim.Native.Nat.zero (suc m) = inl (omega arith)
below_or (suc n) (suc m) = ⊎_elim (λ l. inl (omega arith)) (λ l. inr (omega arith)) (below_or n m)

lawful_at : (p : LinkedProgram) (log : Log) (i n : ℕ) (rs : List Guarded) → HasRecords (λ r. r.record.events) log i rs → AreLawful p i rs → n < length rs → IsLawful (statics_of p (id (i + n))) (events_at (i + n) log)
lawful_at p log i n [] r a l = absurd (omega arith)
lawful_at p log i Prim.Native.Nat.zero (x ∷ rs) r a l = let e : i ≡ i + 0 = omega arith in subst (λ (k : ℕ). IsLawful (statics_of p (id k)) (events_at k log)) e (subst (λ (z : List Event). IsLawful (statics_of p (id i)) z) r.0 a.0)
lawful_at p log i (suc n) (x ∷ rs) r a l = let e : suc i + n ≡ i + suc n = omega arith in subst (λ (k : ℕ). IsLawful (statics_of p (id k)) (events_at k log)) e (lawful_at p log (suc i) n rs r.1 a.1 (omega arith))

labels_are : (p : LinkedProgram) (log : Log) (threads places i : ℕ) (rs : List Guarded) → Fair threads places log → HasRecords (λ r. r.record.events) log i rs → map (λ r. label_of r.record.events) rs ≡ labels_from i (length rs) (merged log)
labels_are p log threads places i [] f r = refl
labels_are p log threads places i (x ∷ rs) f r =
    let one : label_of x.record.events ≡ label_of (of_class (id i) (merged log)) = ap label_of r.0 ∙ sym (label_same threads places (id i) log f) in
    let step : suc i ≡ i + 1 = omega arith in
    let more : map (λ r. label_of r.record.events) rs ≡ labels_from (i + 1) (length rs) (merged log) = labels_are p log threads places (suc i) rs f r.1 ∙ ap (λ (k : ℕ). labels_from k (length rs) (merged log)) step in
    rw (one, more) refl

-- The merged journals are a legal interleaving, the records' labels are those of the classes, and no class is in progress.
pub headline : (p : LinkedProgram) (mains : List ClassId) (log : Log) (rs : List Guarded) → Fair (length mains) (length rs) log → AllBacked leans_on is_completion [] log → length rs ≡ length p.classes → HaveWords p mains log → HasRecords (λ r. r.record.events) log 0 rs → AreLawful p 0 rs →
    IsLegal p mains (merged log) × (map (λ r. label_of r.record.events) rs ≡ labels_of p (merged log)) × ((c : ClassId) (t : ℕ) → label_of (of_class c (merged log)) ≢ InProgress t)
headline p mains log rs f backed many words records lawful =
    let alone : (t : ℕ) → t < length mains → Alone t (of_thread t (merged log)) = λ t l. let m = main_of mains t l in subst (λ (z : List Event). Alone t z) (sym (journal_is (length mains) (length rs) t 0 log f)) (thread_alone t p (words t m.0 m.1)) in
    let at : (c : ClassId) → IsLawful (statics_of p c) (events_at c.number log) = λ c. ⊎_elim
    (λ l. let z : 0 + c.number ≡ c.number = omega arith in subst (λ (n : ℕ). IsLawful (statics_of p (id n)) (events_at n log)) z (lawful_at p log 0 c.number rs records lawful l))
    (λ l. subst (λ (z : List Event). IsLawful (statics_of p c) z) (sym (nothing_at (length mains) (length rs) c.number log f l)) (record { labels = tt; values = tt }))
    (below_or c.number (length rs)) in (
      record {
        threads = λ t. thread_word p t (slice_get mains t) (of_thread t (merged log)) (λ q. no_others (length mains) (length rs) t log f (beyond mains t q))
            (λ m q. subst (λ (z : List Event). ThreadWord p t m z) (sym (journal_is (length mains) (length rs) t 0 log f)) (words t m q));
        classes = λ c. record {
          labels = classes_agree (length mains) (length rs) log backed f alone c (at c).labels;
          values = values_about (statics_of p c) (length mains) (length rs) c [] log f (record { puts = λ place. refl; begun = refl }) (at c).values;
        };
      },
      labels_are p log (length mains) (length rs) 0 rs f records ∙ ap (λ (k : ℕ). labels_from 0 k (merged log)) many,
      (λ c t q. none_in_progress (length mains) (length rs) log f alone c t (sym (label_same (length mains) (length rs) c log f) ∙ q)),
    )
