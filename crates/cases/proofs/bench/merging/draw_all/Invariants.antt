use Rattle.std.proofs.Common.{◌≡◌, map}
use Rattle.std.specs.List.{AllByRecursion}
use Rattle.init_lock.specs.Known.{IsAway}
use Rattle.cases.proofs.bench.merging.draw_all.Given as goal

abbrev pub invariant-loop : goal.invariant-loop
invariant-loop l = record {
  table : AllByRecursion (λ p. p.table ≡ l.table.id) l.passes.items;
  away : AllByRecursion (λ p. IsAway p.places) l.passes.items;
  numbers : map (λ p. p.number) l.passes.items ≡ map (λ p. p.number) l.fn.passes.items;
}
