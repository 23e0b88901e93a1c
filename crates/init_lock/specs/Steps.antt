-- What each atomic step tells the pass that makes it.
use Rattle.std.specs.Prelude.{◌≡◌, ◌≢◌, ℕ, suc, ◌+◌, ◌*◌, ◌^◌, ◌<◌, ◌≤◌, List, [], ◌∷◌, ◌++◌, Bool, cond, true, Option as Opt, Some, None, map, length}
use mathlib.Core.Option.{some}
use lib.ListN.{get_elem?}
use Rattle.atomic_table.specs.Seated.{TableId}
use Rattle.atomic_table.specs.Table.{Me, Step, rest}
use Rattle.init_lock.specs.declared.views.PassView.{PassView}
use Rattle.init_lock.specs.declared.views.PlaceView.{PlaceView}
use Rattle.init_lock.specs.declared.views.Custody.{Custody}
use Rattle.init_lock.specs.declared.views.Custody.TheVariants.{Away, Carried, Held}
use Rattle.init_lock.specs.declared.journal.Stamped.{Stamped}
use Rattle.init_lock.specs.Log.{is_at, IsPlace, Grew, IsWithin, own_events, AreBelow, stamped, settled}
use Rattle.init_lock.specs.Rule.{place_view, pass_view, Each, element_at, place_of_word, place_of_done}
use Rattle.init_lock.specs.Known.{look, seen_at, out_of, last_at, places_of, misses_of, looks_of, opening_of}

abbrev pub modify : {A : Type 0} → ℕ → (A → A) → List A → List A
modify n f [] = []
modify Prim.Native.Nat.zero f (x ∷ xs) = f x ∷ xs
modify (suc n) f (x ∷ xs) = x ∷ modify n f xs

-- a place of a table of fewer than 2 ^ 58 places, with a slot for each, eight words for the lock of each and one that says that it is done, and eight words for the stamps
abbrev pub IsInTable : ℕ → TableId → Type 0
IsInTable n t = (n < t.slots) × (t.words ≡ t.slots * 9 + 8) × (t.slots < 2 ^ 58)

-- the place whose slot a seat carries once that of the place n has gone home
abbrev pub without : ℕ → Opt ℕ → Opt ℕ
without n carried = cond (is_at n carried) None carried

-- where the slot of a record that was taken goes: home, where the seat carries another
abbrev pub custody_beside : Opt ℕ → Custody
custody_beside None = Carried
custody_beside (Some m) = Held

module _ {R : Type 0} where
  -- the slots that a seat carries: that of one place, empty, or none
  abbrev pub slots_of : Opt ℕ → List (ℕ × Opt R)
  slots_of None = []
  slots_of (Some n) = (n, None) ∷ []

-- a seat of the table: the views of its passes, and the slots that it carries
abbrev pub SeatView : Type 0 → Type 0 → Type 0
SeatView R E = Me (Opt R) (List (PassView R E))

module _ {R E : Type 0} where
  -- the pass with another custody of a place
  abbrev pub restage : Custody → PlaceView R E → PlaceView R E
  restage custody t = place_view t.seen t.last custody

  abbrev pub in_custody : ℕ → Custody → PassView R E → PassView R E
  in_custody n custody p = pass_view p.pass p.misses p.journal p.looks p.opening (modify n (restage custody) p.places)

  -- the pass has the record, and a look is noted
  abbrev pub took : (R → List E) → ℕ → R → Custody → PassView R E → PassView R E
  took kept n r custody p = pass_view p.pass p.misses p.journal (look n (length p.journal) (kept r) ∷ p.looks) p.opening (modify n (λ t. place_view (kept r) r custody) p.places)

  -- the pass found a lock taken once more
  abbrev pub missed : PassView R E → PassView R E
  missed p = pass_view p.pass (suc p.misses) p.journal p.looks p.opening p.places

  abbrev pub leave : R → PlaceView R E → PlaceView R E
  leave r t = place_view t.seen r Away

  -- the pass no longer has the record, and a look is noted
  abbrev pub released : ℕ → R → PassView R E → PassView R E
  released n r p = pass_view p.pass p.misses p.journal (look n (length p.journal) (seen_at n p.places) ∷ p.looks) p.opening (modify n (leave r) p.places)

  abbrev pub learn : List E → PlaceView R E → PlaceView R E
  learn seen t = place_view seen t.last t.custody

  -- the pass has seen this list at the place, and a look is noted
  abbrev pub saw : ℕ → List E → PassView R E → PassView R E
  saw n seen p = pass_view p.pass p.misses p.journal (look n (length p.journal) seen ∷ p.looks) p.opening (modify n (learn seen) p.places)

  abbrev pub extend : E → PlaceView R E → PlaceView R E
  extend event t = place_view (t.seen ++ event ∷ []) t.last t.custody

  abbrev pub drawn_places : Opt ℕ → E → List (PlaceView R E) → List (PlaceView R E)
  drawn_places None event ts = ts
  drawn_places (Some n) event ts = modify n (extend event) ts

  abbrev pub drew : Opt ℕ → E → ℕ → PassView R E → PassView R E
  drew place event found p = pass_view p.pass p.misses (p.journal ++ stamped found place event ∷ []) p.looks p.opening (drawn_places place event p.places)

  module _ (kept : R → List E) (may : ℕ → Opt ℕ → E → Type 0) (follows : R → R → Type 0) where
    -- what a pass finds when it takes the record r of the place n
    pub record Found (n : ℕ) (r : R) (p : PassView R E) : Type 0 where
      pub inside : n < length p.places
      pub free : out_of n p.places ≡ None
      pub grew : Grew may p.pass n (seen_at n p.places) (kept r)
      pub own : IsWithin (own_events n p.journal) (kept r)
      pub last : (x : R) → last_at n p.places ≡ Some x → follows x r
      pub opening : (x : R) → element_at n p.opening ≡ Some x → follows x r

    -- the lock word is tried
    abbrev pub TakesLockAt : ℕ → SeatView R E → ℕ → SeatView R E → Type 0
    TakesLockAt n v found w =
        (found ≡ 0 → (r : R) × (w ≡ (map (took kept n r Carried) v.0, (n, Some r) ∷ v.1)) × Each (Found n r) v.0)
        × (found ≢ 0 → w ≡ (map missed v.0, v.1))

    abbrev pub TakesLock : Step (Opt R) → SeatView R E → ℕ → SeatView R E → Type 0
    TakesLock s v found w = TakesLockAt (place_of_word s.word) v found w

  module _ (may : ℕ → Opt ℕ → E → Type 0) (settles : E → Bool) (lawful : List E → Type 0) where
    -- what a pass finds at a settled place that it sees without the lock
    pub record Learned (n : ℕ) (seen : List E) (p : PassView R E) : Type 0 where
      pub inside : n < length p.places
      pub grew : Grew may p.pass n (seen_at n p.places) seen
      pub settled_now : settled settles seen ≡ true
      pub lawful_now : lawful seen

    -- the list that the pass has seen since, of a settled place
    abbrev pub LearnsAt : ℕ → SeatView R E → SeatView R E → Type 0
    LearnsAt n v w = (seen : List E) × (w ≡ (map (saw n seen) v.0, v.1)) × Each (Learned n seen) v.0

    -- the done word is read
    abbrev pub SeesDoneAt : ℕ → SeatView R E → ℕ → SeatView R E → Type 0
    SeesDoneAt n v found w = (found ≡ 0 → w ≡ v) × (found ≢ 0 → LearnsAt n v w)

    abbrev pub SeesDone : Step (Opt R) → SeatView R E → ℕ → SeatView R E → Type 0
    SeesDone s v found w = SeesDoneAt (place_of_done s.slots s.word) v found w

  -- the done word is set
  abbrev pub SetsDone : Step (Opt R) → SeatView R E → ℕ → SeatView R E → Type 0
  SetsDone s v found w = w ≡ v

  -- the lock word is read
  abbrev pub SeesLock : Step (Opt R) → SeatView R E → ℕ → SeatView R E → Type 0
  SeesLock s v found w = (found ≡ 0 → w ≡ v) × (found ≢ 0 → w ≡ (map missed v.0, v.1))

  -- the emptied slot goes home, while the pass keeps the record
  abbrev pub ParksSlotAt : ℕ → SeatView R E → ℕ → SeatView R E → Type 0
  ParksSlotAt n v found w = w ≡ (map (in_custody n Held) v.0, rest v.1)

  abbrev pub ParksSlot : Step (Opt R) → SeatView R E → ℕ → SeatView R E → Type 0
  ParksSlot s v found w = ParksSlotAt (place_of_word s.word) v found w

  -- the empty slot comes out again
  abbrev pub FetchesSlotAt : ℕ → SeatView R E → ℕ → SeatView R E → Type 0
  FetchesSlotAt n v found w = w ≡ (map (in_custody n Carried) v.0, (n, None) ∷ v.1)

  abbrev pub FetchesSlot : Step (Opt R) → SeatView R E → ℕ → SeatView R E → Type 0
  FetchesSlot s v found w = FetchesSlotAt (place_of_word s.word) v found w

  -- the lock word is freed, with the record in its slot
  abbrev pub FreesLockAt : ℕ → SeatView R E → ℕ → SeatView R E → Type 0
  FreesLockAt n v found w = (r : R) (others : List (ℕ × Opt R)) → v.1 ≡ (n, Some r) ∷ others → w ≡ (map (released n r) v.0, others)

  abbrev pub FreesLock : Step (Opt R) → SeatView R E → ℕ → SeatView R E → Type 0
  FreesLock s v found w = FreesLockAt (place_of_word s.word) v found w

  -- the stamp word is raised, and the event drawn
  abbrev pub DrawsStamp : Opt ℕ → E → Step (Opt R) → SeatView R E → ℕ → SeatView R E → Type 0
  DrawsStamp place event s v found w = (w ≡ (map (drew place event found) v.0, v.1)) × (found < 2 ^ 62) × Each (λ p. AreBelow found p.journal) v.0

  abbrev pub DrawsWhatIsSaid : Opt (Opt ℕ × E) → Step (Opt R) → SeatView R E → ℕ → SeatView R E → Type 0
  DrawsWhatIsSaid None s v found w = w ≡ v
  DrawsWhatIsSaid (Some x) s v found w = DrawsStamp x.0 x.1 s v found w

  -- the view of a seat with one pass
  abbrev pub view_of : ℕ → List (Stamped E) → List (PassView R E) → List (PassView R E)
  view_of pass journal v = pass_view pass (misses_of v) journal (looks_of v) (opening_of v) (places_of v) ∷ []

  -- the one slot that the seat carries is that of this place
  abbrev pub IsCarried : Opt ℕ → List (PlaceView R E) → Type 0
  IsCarried carried places = (n : ℕ) (t : PlaceView R E) → get_elem? places n ≡ some t → (t.custody ≡ Carried → is_at n carried ≡ true) × (is_at n carried ≡ true → t.custody ≡ Carried)

  -- the seat has the pass of the number alone, and carries this slot
  pub record IsOnePass (number : ℕ) (carried : Opt ℕ) (me : SeatView R E) : Type 0 where
    pub pass : PassView R E
    pub is : me ≡ (pass ∷ [], slots_of carried)
    pub numbered : pass.pass ≡ number

  -- the seat has one pass, which has just taken the record of the place
  pub record JustTook (kept : R → List E) (carried : Opt ℕ) (n : ℕ) (r : R) (me : SeatView R E) : Type 0 where
    pub pass : PassView R E
    pub is : me ≡ (took kept n r Carried pass ∷ [], (n, None) ∷ slots_of carried)
    pub inside : n < length pass.places

  -- the seat has one pass, and this pass has the record of the place
  pub record HasOut (carried : Opt ℕ) (n : ℕ) (me : SeatView R E) : Type 0 where
    pub pass : PassView R E
    pub is : me ≡ (pass ∷ [], slots_of carried)
    pub is_carried : IsCarried carried pass.places
    pub place : PlaceView R E
    pub there : get_elem? pass.places n ≡ some place
    pub out : place.custody ≢ Away

  -- the record of the place may go back as this one
  pub record MayReturn (kept : R → List E) (may : ℕ → Opt ℕ → E → Type 0) (follows : R → R → Type 0) (carried : Opt ℕ) (n : ℕ) (r : R) (me : SeatView R E) : Type 0 where
    pub has : HasOut carried n me
    pub keeps : kept r ≡ has.place.seen
    pub follows_last : follows has.place.last r

  -- the pass has the record of the place, at which an event settles it
  pub record HasSettled (settles : E → Bool) (carried : Opt ℕ) (n : ℕ) (me : SeatView R E) : Type 0 where
    pub has : HasOut carried n me
    pub settled_now : settled settles has.place.seen ≡ true

  -- what is true of each pass between two calls: its seat has its one view and carries this slot, its journal leaves the stamps below 2 ^ 62, and it knows of each place of the table
  pub record PassHolds (slots number : ℕ) (carried : Opt ℕ) (journal : List (Stamped E)) (room : ℕ) (me : SeatView R E) : Type 0 where
    pub tied : me ≡ (view_of number journal me.0, slots_of carried)
    pub low : number < 16
    pub short : length journal + room ≤ 2 ^ 58
    pub wide : length (places_of me.0) ≡ slots
    pub inside : IsPlace slots carried
    pub is_carried : IsCarried carried (places_of me.0)

  abbrev pub but_first : List (PassView R E) → List (PassView R E)
  but_first [] = []
  but_first (p ∷ ps) = ps

  abbrev pub just_first : List (PassView R E) → List (PassView R E)
  just_first [] = []
  just_first (p ∷ ps) = p ∷ []

  -- the pass has the record of the event's place out, if the event has a place
  abbrev pub IsOutAt : Opt ℕ → List (PlaceView R E) → Type 0
  IsOutAt None places = Unit {0}
  IsOutAt (Some n) places = (r : R) × (out_of n places ≡ Some r)

  -- an event may come after what the pass knows: at a place the list stays lawful, and without one the place that it leans on is settled
  abbrev pub MayStand : (List E → Type 0) → (E → Opt ℕ) → (E → Bool) → Opt ℕ → E → List (PlaceView R E) → Type 0
  MayStand lawful leans settles None event places = (n : ℕ) → leans event ≡ Some n → settled settles (seen_at n places) ≡ true
  MayStand lawful leans settles (Some n) event places = lawful (seen_at n places ++ event ∷ [])
