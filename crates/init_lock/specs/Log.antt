-- The events of all passes in one list, in the order of their stamps: the event at k has the stamp k.
use Rattle.std.specs.Prelude.{◌≡◌, ◌≢◌, ℕ, suc, ◌<◌, List, [], ◌∷◌, ◌++◌, Bool, true, false, eqb, cond, Option, Some, None}
use Rattle.std.specs.List.{AllByRecursion}
use Rattle.init_lock.specs.declared.journal.Stamped.{Stamped}

-- one event of the log: the number of the pass that drew it, its place, if it has one, and the event
pub record Entry (E : Type 0) : Type 0 where
  pub by : ℕ
  pub place : Option ℕ
  pub event : E

abbrev pub is_at : ℕ → Option ℕ → Bool
is_at n (Some m) = eqb m n
is_at n None = false

-- a place, if there is one, is one of so many
abbrev pub IsPlace : ℕ → Option ℕ → Type 0
IsPlace places (Some n) = n < places
IsPlace places None = Unit {0}

module _ {E : Type 0} where
  abbrev pub stamped : ℕ → Option ℕ → E → Stamped E
  stamped stamp place event = record { stamp = stamp; place = place; event = event }

  -- the events at a place
  abbrev pub events_at : ℕ → List (Entry E) → List E
  events_at n [] = []
  events_at n (e ∷ es) = cond (is_at n e.place) (e.event ∷ events_at n es) (events_at n es)

  -- the journal of a pass, from a log whose first stamp is i
  abbrev pub journal_of : ℕ → ℕ → List (Entry E) → List (Stamped E)
  journal_of by i [] = []
  journal_of by i (e ∷ es) = cond (eqb e.by by) (stamped i e.place e.event ∷ journal_of by (suc i) es) (journal_of by (suc i) es)

  -- the events of a journal at a place
  abbrev pub own_events : ℕ → List (Stamped E) → List E
  own_events n [] = []
  own_events n (s ∷ ss) = cond (is_at n s.place) (s.event ∷ own_events n ss) (own_events n ss)

  -- all stamps of a journal are below this one
  abbrev pub AreBelow : ℕ → List (Stamped E) → Type 0
  AreBelow stamp journal = AllByRecursion (λ s. s.stamp < stamp) journal

  -- no event of the pass is at the place
  abbrev pub NoneBy : ℕ → ℕ → List (Entry E) → Type 0
  NoneBy by n [] = Unit {0}
  NoneBy by n (e ∷ es) = (e.by ≡ by → is_at n e.place ≡ false) × NoneBy by n es

  -- an event of the list settles its place
  abbrev pub settled : (E → Bool) → List E → Bool
  settled settles [] = false
  settled settles (x ∷ xs) = cond (settles x) true (settled settles xs)

  -- each event was drawn by one of the passes, at a place of the table or at none, and is one that this pass may draw there
  abbrev pub AllAllowed : ℕ → ℕ → (ℕ → Option ℕ → E → Type 0) → List (Entry E) → Type 0
  AllAllowed threads places may [] = Unit {0}
  AllAllowed threads places may (e ∷ es) = (e.by < threads) × IsPlace places e.place × may e.by e.place e.event × AllAllowed threads places may es

  -- an event at no place that leans on a place comes after one that settled it
  abbrev pub IsBacked : (E → Option ℕ) → (E → Bool) → List (Entry E) → Option ℕ → E → Type 0
  IsBacked leans settles before (Some n) event = Unit {0}
  IsBacked leans settles before None event = (n : ℕ) → leans event ≡ Some n → settled settles (events_at n before) ≡ true

  -- so does each of these entries, which come after those before
  abbrev pub AllBacked : (E → Option ℕ) → (E → Bool) → List (Entry E) → List (Entry E) → Type 0
  AllBacked leans settles before [] = Unit {0}
  AllBacked leans settles before (e ∷ es) = IsBacked leans settles before e.place e.event × AllBacked leans settles (before ++ e ∷ []) es

  -- each event is one that some other pass than this may draw at the place n
  abbrev pub ByOthers : (ℕ → Option ℕ → E → Type 0) → ℕ → ℕ → List E → Type 0
  ByOthers may by n [] = Unit {0}
  ByOthers may by n (x ∷ xs) = ((k : ℕ) × (k ≢ by) × may k (Some n) x) × ByOthers may by n xs

  -- the list begins with what the pass had seen, and goes on with events that other passes may draw
  pub record Grew (may : ℕ → Option ℕ → E → Type 0) (by n : ℕ) (seen list : List E) : Type 0 where
    pub more : List E
    pub begins : list ≡ seen ++ more
    pub by_others : ByOthers may by n more

  -- the first list is within the second, in its order
  pub data IsWithin : List E → List E → Type 0 where
    ends : IsWithin [] []
    passes_over : (x : E) (xs ys : List E) → IsWithin xs ys → IsWithin xs (x ∷ ys)
    meets : (x : E) (xs ys : List E) → IsWithin xs ys → IsWithin (x ∷ xs) (x ∷ ys)
