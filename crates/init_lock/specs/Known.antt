-- What a pass knows of the places, as callers read it.
use Rattle.std.specs.Prelude.{◌≡◌, ◌≢◌, ℕ, suc, List, [], ◌∷◌, map, Option as Opt, Some, None}
pub use Rattle.atomic_table.specs.Seated.{TableId}
use Rattle.init_lock.specs.declared.views.Look.{Look}
use Rattle.init_lock.specs.declared.views.PassView.{PassView}
use Rattle.init_lock.specs.declared.views.PlaceView.{PlaceView}
use Rattle.init_lock.specs.declared.views.Custody.{Custody}
use Rattle.init_lock.specs.declared.views.Custody.TheVariants.{Away, Carried, Held}
use Rattle.init_lock.specs.declared.journal.Stamped.{Stamped}
use Rattle.init_lock.specs.Rule.{element_at}

-- a table: which one it is, how many places it has, and how many passes
pub record TableFacts : Type 0 where
  pub id : TableId
  pub places : ℕ
  pub threads : ℕ

-- a journal: its events, and how many more it takes without memory
pub record Written (E : Type 0) : Type 0 where
  pub events : List (Stamped E)
  pub room : ℕ

-- a pass: its table, its number, how often it found a lock taken, its journal with the room that is left, the looks that were noted, the records of the beginning, and what it knows of each place
pub record PassFacts (R E : Type 0) : Type 0 where
  pub table : TableId
  pub number : ℕ
  pub misses : ℕ
  pub journal : List (Stamped E)
  pub room : ℕ
  pub looks : List (Look E)
  pub opening : List R
  pub places : List (PlaceView R E)

-- a record that was taken: its place, the record as it was found, and as it is now
pub record HeldFacts (R : Type 0) : Type 0 where
  pub place : ℕ
  pub taken : R
  pub kept : R

module _ {R : Type 0} where
  abbrev pub out_by : Custody → R → Opt R
  out_by Away r = None
  out_by Carried r = Some r
  out_by Held r = Some r

module _ {E : Type 0} where
  abbrev pub look : ℕ → ℕ → List E → Look E
  look place after seen = record { place = place; after = after; seen = seen }

module _ {R E : Type 0} where
  -- the list of events that the pass saw last at a place, with its own there
  abbrev pub seen_at : ℕ → List (PlaceView R E) → List E
  seen_at n [] = []
  seen_at Prim.Native.Nat.zero (t ∷ ts) = t.seen
  seen_at (suc n) (t ∷ ts) = seen_at n ts

  -- the record of a place as the pass took it, while the pass has it
  abbrev pub out_of : ℕ → List (PlaceView R E) → Opt R
  out_of n [] = None
  out_of Prim.Native.Nat.zero (t ∷ ts) = out_by t.custody t.last
  out_of (suc n) (t ∷ ts) = out_of n ts

  -- the record that the pass saw last at a place
  abbrev pub last_at : ℕ → List (PlaceView R E) → Opt R
  last_at n [] = None
  last_at Prim.Native.Nat.zero (t ∷ ts) = Some t.last
  last_at (suc n) (t ∷ ts) = last_at n ts

  -- the pass has no record out
  pub record IsAway (places : List (PlaceView R E)) : Type 0 where
    pub none_out : (n : ℕ) → out_of n places ≡ None

  -- the pass has no record out but that of the place n
  pub record IsAwayBut (n : ℕ) (places : List (PlaceView R E)) : Type 0 where
    pub no_other_out : (m : ℕ) → m ≢ n → out_of m places ≡ None

  -- what the pass knows of a place is the same
  pub record IsSameAt (n : ℕ) (before after : List (PlaceView R E)) : Type 0 where
    pub seen : seen_at n after ≡ seen_at n before
    pub out : out_of n after ≡ out_of n before
    pub last : last_at n after ≡ last_at n before

  -- what the pass knows of every place but n is the same
  abbrev pub IsSameBut : ℕ → List (PlaceView R E) → List (PlaceView R E) → Type 0
  IsSameBut n before after = (m : ℕ) → m ≢ n → IsSameAt m before after

  -- a pass that has drawn nothing, taken nothing and seen nothing but the records of the beginning
  pub record IsNewPass (id : TableId) (records : List R) (p : PassFacts R E) : Type 0 where
    pub table : p.table ≡ id
    pub journal : p.journal ≡ []
    pub room : p.room ≡ 0
    pub looks : p.looks ≡ []
    pub opening : p.opening ≡ records
    pub places : p.places ≡ map (λ r. record { seen = []; last = r; custody = Away }) records
    pub seen : (n : ℕ) → seen_at n p.places ≡ []
    pub last : (n : ℕ) → last_at n p.places ≡ element_at n records
    pub away : IsAway p.places

  -- it is the same pass of the same table, begun with the same records
  pub record IsSamePass (before after : PassFacts R E) : Type 0 where
    pub table : after.table ≡ before.table
    pub number : after.number ≡ before.number
    pub opening : after.opening ≡ before.opening

  -- the view of a seat with one pass
  abbrev pub places_of : List (PassView R E) → List (PlaceView R E)
  places_of [] = []
  places_of (p ∷ ps) = p.places

  abbrev pub misses_of : List (PassView R E) → ℕ
  misses_of [] = 0
  misses_of (p ∷ ps) = p.misses

  abbrev pub looks_of : List (PassView R E) → List (Look E)
  looks_of [] = []
  looks_of (p ∷ ps) = p.looks

  abbrev pub opening_of : List (PassView R E) → List R
  opening_of [] = []
  opening_of (p ∷ ps) = p.opening

  -- what the rule speaks of, of a pass
  abbrev pub view_of_pass : PassFacts R E → PassView R E
  view_of_pass p = record { pass = p.number; misses = p.misses; journal = p.journal; looks = p.looks; opening = p.opening; places = p.places }
