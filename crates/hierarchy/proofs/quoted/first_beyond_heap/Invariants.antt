use Rattle.std.proofs.Common.{◌≡◌, ℕ, ◌<◌, ◌≤◌, take}
use Rattle.hierarchy.specs.Quoted.{quoted_texts, cells_of, FillsHeap}
use Rattle.hierarchy.proofs.quoted.first_beyond_heap.Given as goal

abbrev pub invariant-loop-place : goal.invariant-loop-place
invariant-loop-place l = record {
  noted : l.noted ≡ quoted_texts (take l.place l.classes);
  cells : cells_of (take l.place l.classes) ≤ 1000000;
  none : (i : ℕ) → i < l.place → FillsHeap l.classes i → ⊥;
}
