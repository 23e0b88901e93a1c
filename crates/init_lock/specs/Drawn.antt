-- What a pass knows once it has drawn an event, or has given a record back.
use Rattle.std.specs.Prelude.{◌≡◌, ℕ, ◌+◌, ◌^◌, ◌<◌, List, [], ◌∷◌, ◌++◌, length, Option as Opt, Some, None}
use Rattle.init_lock.specs.Known.{PassFacts, IsSamePass, look, seen_at, out_of, last_at, IsSameBut, IsAway, IsAwayBut}
use Rattle.init_lock.specs.Log.{stamped, AreBelow}
use Rattle.init_lock.specs.Steps.{drawn_places}

-- the event was drawn with this stamp, at a place or at none
pub record Draws {R E : Type 0} (stamp : ℕ) (place : Opt ℕ) (event : E) (before after : PassFacts R E) : Type 0 where
  -- it is last in the journal, above all that was there
  pub journal : after.journal ≡ before.journal ++ stamped stamp place event ∷ []
  pub room : after.room + 1 ≡ before.room
  pub below : stamp < 2 ^ 62
  pub rising : AreBelow stamp before.journal
  -- the pass has seen it at its place, and otherwise knows what it knew
  pub places : after.places ≡ drawn_places place event before.places
  pub looks : after.looks ≡ before.looks
  pub same : IsSamePass before after

-- the pass has seen one more event at place n; which records it has, and what it knows of other places, is as before
pub record HasSeenMore {R E : Type 0} (n : ℕ) (event : E) (before after : PassFacts R E) : Type 0 where
  pub seen : seen_at n after.places ≡ seen_at n before.places ++ event ∷ []
  pub out : out_of n after.places ≡ out_of n before.places
  pub last : last_at n after.places ≡ last_at n before.places
  pub others : IsSameBut n before.places after.places
  pub holding : IsAwayBut n before.places → IsAwayBut n after.places

-- the record r, which keeps these events, went back to place n
pub record WentBack {R E : Type 0} (n : ℕ) (r : R) (events : List E) (before after : PassFacts R E) : Type 0 where
  -- the pass has seen what it keeps, has it no longer, and knows of the other places what it knew
  pub seen : seen_at n after.places ≡ events
  pub out : out_of n after.places ≡ None
  pub last : last_at n after.places ≡ Some r
  pub others : IsSameBut n before.places after.places
  pub looks : after.looks ≡ look n (length before.journal) events ∷ before.looks
  pub away : IsAwayBut n before.places → IsAway after.places
  -- the pass's journal is as it was
  pub journal : after.journal ≡ before.journal
  pub room : after.room ≡ before.room
  pub same : IsSamePass before after
