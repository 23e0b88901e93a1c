use Rattle.std.proofs.Common.{◌++◌, List, ℕ, take}
use Rattle.std.specs.List.{flat_map}
use Rattle.jasmin_writer.specs.Canonical.{instruction_places}
use Rattle.jasmin_writer.specs.Marks.{IsMarked}
use Rattle.jasmin_writer.proofs.mark.mark_instructions.Given as goal

abbrev pub invariant-loop-instruction : goal.invariant-loop-instruction
invariant-loop-instruction l = (n : ℕ) (places : List ℕ) → IsMarked n l.fn.marks.items places → IsMarked n l.marks.items (places ++ flat_map instruction_places (take l.instruction-index l.instructions))
