use Rattle.std.proofs.Common.{◌++◌, ◌∷◌, [], List, ℕ, take}
use Rattle.std.specs.List.{flat_map}
use Rattle.jasmin_writer.specs.Marks.{IsMarked}
use Rattle.jasmin_writer.proofs.mark.mark_all.Given as goal

abbrev pub invariant-loop-place : goal.invariant-loop-place
invariant-loop-place l = (n : ℕ) (places : List ℕ) → IsMarked n l.fn.marks.items places → IsMarked n l.marks.items (places ++ flat_map (λ p. p ∷ []) (take l.place-index l.all))
