use Rattle.std.proofs.Common.{◌≡◌, ℕ, ◌<◌, take}
use Rattle.hierarchy.specs.Linking.{names_of, IsRepeated}
use Rattle.hierarchy.proofs.naming.first_repeated.Given as goal

abbrev pub invariant-loop-place : goal.invariant-loop-place
invariant-loop-place l = record {
  names : l.names ≡ take l.place (names_of l.texts);
  none : (j : ℕ) → j < l.place → IsRepeated l.texts j → ⊥;
}
