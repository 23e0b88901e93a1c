use Rattle.std.proofs.Common.{◌++◌, ◌∷◌, [], List, ℕ, take}
use Rattle.std.specs.List.{flat_map}
use Rattle.jasmin_writer.specs.Marks.{IsMarked}
use Rattle.jasmin_writer.proofs.mark.mark_cases.Given as goal

abbrev pub invariant-loop-case : goal.invariant-loop-case
invariant-loop-case l = (n : ℕ) (places : List ℕ) → IsMarked n l.fn.marks.items places → IsMarked n l.marks.items (places ++ flat_map (λ c. c.1 ∷ []) (take l.case-index l.cases))
