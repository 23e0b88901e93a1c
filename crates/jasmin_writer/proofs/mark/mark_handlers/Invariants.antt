use Rattle.std.proofs.Common.{◌++◌, List, ℕ, take}
use Rattle.std.specs.List.{flat_map}
use Rattle.jasmin_writer.specs.Canonical.{handler_places}
use Rattle.jasmin_writer.specs.Marks.{IsMarked}
use Rattle.jasmin_writer.proofs.mark.mark_handlers.Given as goal

abbrev pub invariant-loop-handler : goal.invariant-loop-handler
invariant-loop-handler l = (n : ℕ) (places : List ℕ) → IsMarked n l.fn.marks.items places → IsMarked n l.marks.items (places ++ flat_map handler_places (take l.handler-index l.handlers))
