use Rattle.std.proofs.Common.{◌≡◌, ◌≤◌, ◌<◌, ◌-◌, ℕ, length, [], vec_len}
use Rattle.std.specs.Prelude.{slice_index_or}
use Rattle.hierarchy.specs.LinkedProgram.{id}
use Rattle.statics.specs.Statics.{statics_of}
use Rattle.init_core.specs.ClassState.{State, IsStateOf}
use Rattle.init_core.proofs.state.ClassState.all_prepared.Given as goal

abbrev pub invariant-classes : goal.invariant-classes
invariant-classes l = record {
  within : length l.made.items ≤ l.count;
  classes : (n : ℕ) (other : State) → n < length l.made.items → (slice_index_or l.made.items n other).class ≡ id n;
  fields : (n : ℕ) (other : State) → n < length l.made.items → (slice_index_or l.made.items n other).fields ≡ statics_of l.program (id n);
  events : (n : ℕ) (other : State) → n < length l.made.items → IsStateOf (slice_index_or l.made.items n other) [];
}

abbrev pub decreases-classes : goal.decreases-classes
decreases-classes l = l.count - vec_len l.made
