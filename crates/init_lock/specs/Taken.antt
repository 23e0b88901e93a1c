-- What a pass finds where it takes a record from its lock.
use Rattle.std.specs.Prelude.{◌≡◌, ℕ, List, ◌∷◌, length, Bool, true, Option as Opt, Some, None}
use Rattle.init_lock.specs.Known.{PassFacts, HeldFacts, IsSamePass, look, seen_at, out_of, last_at, IsSameBut, IsAway, IsAwayBut}
use Rattle.init_lock.specs.Log.{Grew, IsWithin, own_events, settled}
use Rattle.init_lock.specs.Rule.{element_at}

-- the record of place n was taken, where records keep such events, such may be drawn, such settle their place, and such records follow one another
pub record Taken {R E : Type 0} (kept : R → List E) (may : ℕ → Opt ℕ → E → Type 0) (settles : E → Bool) (follows : R → R → Type 0) (n : ℕ) (before after : PassFacts R E) (h : HeldFacts R) : Type 0 where
  -- it is that of the place, as it was found, and the pass didn't have it
  pub place : h.place ≡ n
  pub untouched : h.taken ≡ h.kept
  pub free : out_of n before.places ≡ None
  -- it keeps what the pass had seen, its own events there too, and then events that other passes may draw there
  pub grew : Grew may before.number n (seen_at n before.places) (kept h.kept)
  pub own : IsWithin (own_events n before.journal) (kept h.kept)
  -- one of them settles the place, where the pass knew it to be settled
  pub still_settled : settled settles (seen_at n before.places) ≡ true → settled settles (kept h.kept) ≡ true
  -- it follows the record that the pass saw last there, and that of the beginning
  pub follows_last : (x : R) → last_at n before.places ≡ Some x → follows x h.kept
  pub follows_opening : (x : R) → element_at n before.opening ≡ Some x → follows x h.kept
  -- the pass has seen what it keeps, has it, and knows of the other places what it knew
  pub seen : seen_at n after.places ≡ kept h.kept
  pub out : out_of n after.places ≡ Some h.kept
  pub last : last_at n after.places ≡ Some h.kept
  pub others : IsSameBut n before.places after.places
  pub looks : after.looks ≡ look n (length before.journal) (kept h.kept) ∷ before.looks
  pub holding : IsAway before.places → IsAwayBut n after.places
  -- the pass's journal is as it was
  pub journal : after.journal ≡ before.journal
  pub room : after.room ≡ before.room
  pub same : IsSamePass before after
