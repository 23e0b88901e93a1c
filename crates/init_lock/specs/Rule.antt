-- The lock's rule: what holds of the table's words, of the records in their slots and of what all passes know, between any two atomic steps.
-- Word 0 is the next stamp. The lock word of a place is 0 while its record is free, and p + 1 while the pass p has it.
-- The done word of a place is 0 until one of the events there settles it.
-- Eight words fill a cache line. The stamp word has a line of its own, and so has each lock word. The done words lie packed after the last of these lines.
use Rattle.std.specs.Prelude.{◌≡◌, ◌≢◌, ℕ, suc, ◌+◌, ◌-◌, ◌*◌, ◌/◌, ◌^◌, ◌<◌, ◌≤◌, List, [], ◌∷◌, ◌++◌, Bool, true, eqb, cond, Option as Opt, Some, None, map, length, slice_index}
use mathlib.Core.Option.{Option, some}
use lib.ListN.{get_elem?}
use Rattle.atomic_table.specs.Table.{State}
use Rattle.init_lock.specs.declared.views.Setup.{Setup}
use Rattle.init_lock.specs.declared.views.PassView.{PassView}
use Rattle.init_lock.specs.declared.views.Look.{Look}
use Rattle.init_lock.specs.declared.views.PlaceView.{PlaceView}
use Rattle.init_lock.specs.declared.views.Custody.{Custody}
use Rattle.init_lock.specs.declared.views.Custody.TheVariants.{Away, Carried, Held}
use Rattle.init_lock.specs.declared.journal.Stamped.{Stamped}
use Rattle.init_lock.specs.Log.{Entry, events_at, journal_of, NoneBy, AllAllowed, AllBacked, settled}

abbrev pub lock_word : ℕ → ℕ
lock_word n = n * 8 + 8

-- in a table of so many places
abbrev pub done_word : ℕ → ℕ → ℕ
done_word places n = places * 8 + 8 + n

-- the place whose lock word this is
abbrev pub place_of_word : ℕ → ℕ
place_of_word word = (word - 8) / 8

-- the place whose done word this is, in a table of so many places
abbrev pub place_of_done : ℕ → ℕ → ℕ
place_of_done places word = word - (places * 8 + 8)

-- the element of a list at a place, if there is one
abbrev pub element_at : {A : Type 0} → ℕ → List A → Opt A
element_at n [] = None
element_at Prim.Native.Nat.zero (x ∷ xs) = Some x
element_at (suc n) (x ∷ xs) = element_at n xs

module _ {E : Type 0} where
  -- at some moment, when the pass had drawn so many events, the list was all there was at the place
  pub record WasSeen (log : List (Entry E)) (by : ℕ) (l : Look E) : Type 0 where
    pub before : List (Entry E)
    pub after : List (Entry E)
    pub parts : log ≡ before ++ after
    pub all : l.seen ≡ events_at l.place before
    pub mine : l.after ≡ length (journal_of by 0 before)

  abbrev pub AllSeen : List (Entry E) → ℕ → List (Look E) → Type 0
  AllSeen log by [] = Unit {0}
  AllSeen log by (l ∷ ls) = WasSeen log by l × AllSeen log by ls

  -- the list was all there was at the place at some moment, and the pass has drawn nothing there since
  pub record Saw (log : List (Entry E)) (by n : ℕ) (seen : List E) : Type 0 where
    pub before : List (Entry E)
    pub after : List (Entry E)
    pub parts : log ≡ before ++ after
    pub all : seen ≡ events_at n before
    pub none_since : NoneBy by n after

module _ {R E : Type 0} where
  abbrev pub place_view : List E → R → Custody → PlaceView R E
  place_view seen last custody = record { seen = seen; last = last; custody = custody }

  abbrev pub pass_view : ℕ → ℕ → List (Stamped E) → List (Look E) → List R → List (PlaceView R E) → PassView R E
  pass_view pass misses journal looks opening places = record { pass = pass; misses = misses; journal = journal; looks = looks; opening = opening; places = places }

  -- a pass that knows nothing but the records of the beginning
  abbrev pub unseen : List R → List (PlaceView R E)
  unseen records = map (λ r. place_view [] r Away) records

  -- the views of n passes from the first on, which know nothing but the records
  abbrev pub newcomers : ℕ → ℕ → List R → List (PassView R E)
  newcomers first Prim.Native.Nat.zero records = []
  newcomers first (suc n) records = pass_view first 0 [] [] records (unseen records) ∷ newcomers (suc first) n records

  abbrev pub opened : Setup R → List (PassView R E)
  opened setup = newcomers 0 setup.threads setup.records.value.items

  -- a fact about each pass of a seat
  abbrev pub Each : (PassView R E → Type 0) → List (PassView R E) → Type 0
  Each P [] = Unit {0}
  Each P (p ∷ ps) = P p × Each P ps

  -- how many views of the pass the seat has
  abbrev pub count_of : ℕ → List (PassView R E) → ℕ
  count_of by [] = 0
  count_of by (p ∷ ps) = cond (eqb p.pass by) 1 0 + count_of by ps

  abbrev pub total : (List (PassView R E) → ℕ) → List (List (PassView R E)) → ℕ
  total f [] = 0
  total f (v ∷ vs) = f v + total f vs

  module _ (kept : R → List E) (may : ℕ → Opt ℕ → E → Type 0) (follows : R → R → Type 0) where
    -- the record that a place has now is there, and follows this one
    abbrev pub FollowedBy : R → Opt R → Type 0
    FollowedBy x (Some y) = follows x y
    FollowedBy x None = ⊥

    -- what a pass knows of a place, beside the place's lock word, its slot and its record now
    abbrev pub Knows : Custody → ℕ → Option (Option (Opt R)) → List (Entry E) → Opt R → ℕ → ℕ → PlaceView R E → Type 0
    Knows Away word home log now by n t = (word ≢ suc by) × Saw log by n t.seen × FollowedBy t.last now
    Knows Carried word home log now by n t = (word ≡ suc by) × (t.seen ≡ events_at n log) × (now ≡ Some t.last)
    Knows Held word home log now by n t = (word ≡ suc by) × (t.seen ≡ events_at n log) × (now ≡ Some t.last) × (home ≡ some (some None))

    pub record Fits (threads : ℕ) (words : List ℕ) (homes : List (Option (Opt R))) (log : List (Entry E)) (now : ℕ → Opt R) (p : PassView R E) : Type 0 where
      pub below : p.pass < threads
      pub drawn : p.journal ≡ journal_of p.pass 0 log
      pub places : (n : ℕ) (t : PlaceView R E) → get_elem? p.places n ≡ some t → Knows t.custody (slice_index words (lock_word n)) (get_elem? homes n) log (now n) p.pass n t
      pub wide : length p.places ≡ length homes
      pub began : (n : ℕ) (x : R) → element_at n p.opening ≡ Some x → FollowedBy x (now n)
      pub looks : AllSeen log p.pass p.looks

    -- the record at home keeps the events of its place
    pub record AtHome (homes : List (Option (Opt R))) (log : List (Entry E)) (now : Opt R) (n : ℕ) : Type 0 where
      pub record_now : R
      pub is_now : now ≡ Some record_now
      pub home : get_elem? homes n ≡ some (some (Some record_now))
      pub keeps : kept record_now ≡ events_at n log

    -- The rule. The log has the events of all passes, and its length is the stamp word. A lock word other than 0 names one pass, and each pass has at most one view.
    pub record RuleHolds (settles : E → Bool) (lawful : List E → Type 0) (leans : E → Opt ℕ) (setup : Setup R) (s : State (Opt R) (List (PassView R E))) : Type 0 where
      pub log : List (Entry E)
      pub now : ℕ → Opt R
      pub wide : length s.words ≡ length s.homes * 9 + 8
      pub few : setup.threads ≤ 16
      pub counted : slice_index s.words 0 ≡ length log
      pub allowed : AllAllowed setup.threads (length s.homes) may log
      pub lawful_at : (n : ℕ) → lawful (events_at n log)
      pub backed : AllBacked leans settles [] log
      pub bounded : (by : ℕ) → length (journal_of by 0 log) ≤ 2 ^ 58
      pub alone : (by : ℕ) → total (count_of by) s.views ≤ 1
      pub each : (i : ℕ) (v : List (PassView R E)) → get_elem? s.views i ≡ some v → Each (Fits setup.threads s.words s.homes log now) v
      pub taken : (n : ℕ) → n < length s.homes → slice_index s.words (lock_word n) ≤ setup.threads
      pub free : (n : ℕ) → n < length s.homes → slice_index s.words (lock_word n) ≡ 0 → AtHome s.homes log (now n) n
      pub done : (n : ℕ) → n < length s.homes → slice_index s.words (done_word (length s.homes) n) ≢ 0 → settled settles (events_at n log) ≡ true
