-- What the journals and the records are when the threads have ended: there is one log.
use Rattle.std.specs.Prelude.{◌≡◌, ℕ, suc, ◌<◌, List, [], ◌∷◌, drop, Bool, true, Some}
use Rattle.std.specs.List.{AllByRecursion}
use Rattle.init_lock.specs.declared.journal.Stamped.{Stamped}
use Rattle.init_lock.specs.declared.views.Look.{Look}
use Rattle.init_lock.specs.Log.{Entry, events_at, journal_of, settled}
use Rattle.init_lock.specs.Rule.{AllSeen, element_at}
use Rattle.init_lock.specs.Known.{Written, PassFacts, last_at}

-- the numbers from i on
abbrev pub numbers : ℕ → ℕ → List ℕ
numbers i Prim.Native.Nat.zero = []
numbers i (suc n) = i ∷ numbers (suc i) n

module _ {E : Type 0} where
  -- the event with this stamp is at place n, and settles it
  pub record SettlesAt (settles : E → Bool) (log : List (Entry E)) (n stamp : ℕ) : Type 0 where
    pub entry : Entry E
    pub is_there : element_at stamp log ≡ Some entry
    pub place : entry.place ≡ Some n
    pub settles_it : settles entry.event ≡ true

  -- where a look shows that its place is settled, an event that settles the place has a stamp below all those that the pass drew after the look
  abbrev pub IsSettledFirst : (E → Bool) → List (Entry E) → List (Stamped E) → Look E → Type 0
  IsSettledFirst settles log journal l = settled settles l.seen ≡ true → (stamp : ℕ) × SettlesAt settles log l.place stamp × AllByRecursion (λ s. stamp < s.stamp) (drop l.after journal)

module _ {R E : Type 0} where
  -- the journal of a pass, as it is given out at the end
  abbrev pub written : PassFacts R E → Written E
  written p = record { events = p.journal; room = p.room }

  -- the journal of each pass has the log's entries of that pass, each with its index as stamp
  abbrev pub HasJournals : List (Entry E) → List (PassFacts R E) → Type 0
  HasJournals log passes = AllByRecursion (λ p. p.journal ≡ journal_of p.number 0 log) passes

  -- each look of each pass shows what was at its place at one moment of the log
  abbrev pub HasLooks : List (Entry E) → List (PassFacts R E) → Type 0
  HasLooks log passes = AllByRecursion (λ p. AllSeen log p.number p.looks) passes

  -- so it is with each look of each pass
  abbrev pub HasSettledFirst : (E → Bool) → List (Entry E) → List (PassFacts R E) → Type 0
  HasSettledFirst settles log passes = AllByRecursion (λ p. AllByRecursion (λ l. IsSettledFirst settles log p.journal l) p.looks) passes

  -- each record, from the place i on, keeps the events of its place
  abbrev pub HasRecords : (R → List E) → List (Entry E) → ℕ → List R → Type 0
  HasRecords kept log i [] = Unit {0}
  HasRecords kept log i (r ∷ rs) = (kept r ≡ events_at i log) × HasRecords kept log (suc i) rs

  -- each record follows the one that the pass began with, and the one that it saw last
  pub record FollowsAll (follows : R → R → Type 0) (records : List R) (p : PassFacts R E) : Type 0 where
    pub opening : (n : ℕ) (x r : R) → element_at n p.opening ≡ Some x → element_at n records ≡ Some r → follows x r
    pub last : (n : ℕ) (x r : R) → last_at n p.places ≡ Some x → element_at n records ≡ Some r → follows x r
