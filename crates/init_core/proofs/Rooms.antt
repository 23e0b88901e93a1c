-- The room that a record keeps.
use Rattle.std.proofs.Common.{◌≡◌, ℕ, ◌+◌, refl, arith}
use Rattle.init_core.specs.declared.event.Kind.{Kind}
use Rattle.init_core.specs.declared.event.Kind.TheVariants as kind
use Rattle.init_core.specs.declared.event.Label.{Label}
use Rattle.init_core.specs.ClassState.{next_label}
use Rattle.init_core.specs.History.{room_for, room_in}
use Rattle.init_core.specs.Lawful.{Allows}

-- what is kept, and what is made, is room for an event and what is kept after it
pub room_kept : (l : Label) (t : ℕ) (k : Kind) → Allows l t k → room_in l + room_for k ≡ 1 + room_in (next_label l t k)
room_kept l t kind.Waits h = omega arith
room_kept l t kind.Recurs h = omega arith
room_kept l t kind.FindsInitialized h = omega arith
room_kept l t kind.FindsErroneous h = omega arith
room_kept l t kind.Begins h = rw h refl
room_kept l t (kind.SuperFails e) h = rw h refl
room_kept l t kind.Runs h = omega arith
room_kept l t kind.Completes h = rw h refl
room_kept l t (kind.Fails e) h = rw h refl
room_kept l t (kind.Gets place value) h = omega arith
room_kept l t (kind.Puts place value) h = omega arith
room_kept l t (kind.Prints text) h = absurd h
