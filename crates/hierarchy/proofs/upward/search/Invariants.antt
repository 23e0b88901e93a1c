use Rattle.std.proofs.Common.{ℕ, ◌<◌}
use Rattle.hierarchy.specs.ClassLists.{Among}
use Rattle.hierarchy.specs.LinkedProgram.{id}
use Rattle.hierarchy.specs.UpwardOrder.{Rises}
use Rattle.hierarchy.proofs.upward.search.Given as goal

abbrev pub invariant-loop-number : goal.invariant-loop-number
invariant-loop-number l = record {
  rises : Rises l.fn.classes l.order;
  whole : (n : ℕ) → n < l.number → Among (id n) l.order;
}
