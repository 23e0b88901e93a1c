-- What a pass drew once it knew a place to be settled comes after an event that settles the place.
use Rattle.std.proofs.Common.{◌≡◌, ℕ, suc, ◌<◌, List, [], ◌∷◌, ◌++◌, Bool, true, false, eqb, cond, Option, Some, drop, length, refl, sym, ap, ◌∙◌, subst, arith}
use Rattle.std.proofs.Math.Seq.{drop-append_seam}
use Rattle.std.specs.List.{AllByRecursion}
use Rattle.init_lock.specs.declared.journal.Stamped.{Stamped}
use Rattle.init_lock.specs.declared.views.Look.{Look}
use Rattle.init_lock.specs.Log.{Entry, is_at, events_at, journal_of, stamped, settled}
use Rattle.init_lock.specs.Rule.{element_at, WasSeen, AllSeen}
use Rattle.init_lock.specs.Closing.{SettlesAt, IsSettledFirst}
use Rattle.init_lock.proofs.Logs.{is_at_some, journal-append}

element-append : {A : Type 0} (n : ℕ) (xs ys : List A) (x : A) → element_at n xs ≡ Some x → element_at n (xs ++ ys) ≡ Some x
element-append n [] ys x e = cc
element-append Prim.Native.Nat.zero (y ∷ xs) ys x e = e
element-append (suc n) (y ∷ xs) ys x e = element-append n xs ys x e

module _ {E : Type 0} where
  -- all stamps from a first one on are above those below it
  above_here : (own : Bool) (i stamp : ℕ) (place : Option ℕ) (x : E) (js : List (Stamped E)) → stamp < i → AllByRecursion (λ s. stamp < s.stamp) js → AllByRecursion (λ s. stamp < s.stamp) (cond own (stamped i place x ∷ js) js)
  above_here true i stamp place x js l h = (l, h)
  above_here false i stamp place x js l h = h

  above : (by i stamp : ℕ) (l : List (Entry E)) → stamp < i → AllByRecursion (λ s. stamp < s.stamp) (journal_of by i l)
  above by i stamp [] low = tt
  above by i stamp (e ∷ es) low = above_here (eqb e.by by) i stamp e.place e.event (journal_of by (suc i) es) low (above by (suc i) stamp es (omega arith))

  module _ (settles : E → Bool) where
    -- an event of the log settles the place
    abbrev Settling : List (Entry E) → ℕ → Type 0
    Settling log n = (stamp : ℕ) × (stamp < length log) × SettlesAt settles log n stamp

    later : (e : Entry E) (es : List (Entry E)) (n : ℕ) → Settling es n → Settling (e ∷ es) n
    later e es n h = let s = h.2 in (suc h.0, (let low = h.1 in omega arith), record { entry = s.entry; is_there = s.is_there; place = s.place; settles_it = s.settles_it })

    settling_here : (e : Entry E) (es : List (Entry E)) (n : ℕ) (here it : Bool) → is_at n e.place ≡ here → settles e.event ≡ it → (settled settles (events_at n es) ≡ true → Settling es n)
        → settled settles (cond here (e.event ∷ events_at n es) (events_at n es)) ≡ true → Settling (e ∷ es) n
    settling_here e es n true true at is rest h = (0, omega arith, record { entry = e; is_there = refl; place = is_at_some n e.place at; settles_it = is })
    settling_here e es n true false at is rest h = later e es n (rest (ap (λ (b : Bool). cond b true (settled settles (events_at n es))) (sym is) ∙ h))
    settling_here e es n false it at is rest h = later e es n (rest h)

    settling : (log : List (Entry E)) (n : ℕ) → settled settles (events_at n log) ≡ true → Settling log n
    settling [] n h = cc
    settling (e ∷ es) n h = settling_here e es n (is_at n e.place) (settles e.event) refl refl (settling es n) h

    pub settled_first_by : (log : List (Entry E)) (by : ℕ) (journal : List (Stamped E)) (l : Look E) → journal ≡ journal_of by 0 log → WasSeen log by l → IsSettledFirst settles log journal l
    settled_first_by log by journal l is was done =
        let first = settling was.before l.place (ap (settled settles) (sym was.all) ∙ done) in
        let s = first.2 in
        let own : List (Stamped E) = journal_of by 0 was.before in
        let rest : List (Stamped E) = journal_of by (length was.before) was.after in
        let parts : journal ≡ own ++ rest = is ∙ (ap (journal_of by 0) was.parts ∙ journal-append by 0 (length was.before) was.before was.after (omega arith)) in
        let left : drop l.after journal ≡ rest = ap (λ (z : ℕ). drop z journal) was.mine ∙ (ap (drop (length own)) parts ∙ drop-append_seam own rest) in (
          first.0,
          record {
            entry = s.entry;
            is_there = ap (element_at first.0) was.parts ∙ element-append first.0 was.before was.after s.entry s.is_there;
            place = s.place;
            settles_it = s.settles_it;
          },
          subst (AllByRecursion (λ s. first.0 < s.stamp)) (sym left) (above by (length was.before) first.0 was.after first.1),
        )

    pub all_settled_first : (log : List (Entry E)) (by : ℕ) (journal : List (Stamped E)) (looks : List (Look E)) → journal ≡ journal_of by 0 log → AllSeen log by looks → AllByRecursion (λ l. IsSettledFirst settles log journal l) looks
    all_settled_first log by journal [] is h = tt
    all_settled_first log by journal (l ∷ ls) is h = (settled_first_by log by journal l is h.0, all_settled_first log by journal ls is h.1)
