-- What a pass knows once it has seen that a place is settled.
use Rattle.std.specs.Prelude.{◌≡◌, ℕ, List, ◌∷◌, length, Bool, true, Option as Opt}
use Rattle.init_lock.specs.Known.{PassFacts, IsSamePass, look, seen_at, out_of, last_at, IsSameBut, IsAway}
use Rattle.init_lock.specs.Log.{Grew, settled}

-- place n is settled, where such events settle, such may be drawn, and such lists are lawful
pub record KnowsDone {R E : Type 0} (may : ℕ → Opt ℕ → E → Type 0) (settles : E → Bool) (lawful : List E → Type 0) (n : ℕ) (before after : PassFacts R E) : Type 0 where
  -- the pass has seen a lawful list with an event that settles, which begins with what it had seen and goes on with events of others
  pub settled_now : settled settles (seen_at n after.places) ≡ true
  pub lawful_now : lawful (seen_at n after.places)
  pub grew : Grew may before.number n (seen_at n before.places) (seen_at n after.places)
  pub looks : after.looks ≡ look n (length before.journal) (seen_at n after.places) ∷ before.looks
  -- it knows else what it knew, and has the records that it had
  pub out : out_of n after.places ≡ out_of n before.places
  pub last : last_at n after.places ≡ last_at n before.places
  pub others : IsSameBut n before.places after.places
  pub away : IsAway before.places → IsAway after.places
  pub misses : after.misses ≡ before.misses
  pub journal : after.journal ≡ before.journal
  pub room : after.room ≡ before.room
  pub same : IsSamePass before after
