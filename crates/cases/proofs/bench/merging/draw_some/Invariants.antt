use Rattle.std.proofs.Common.{◌≡◌, ◌++◌, map}
use Rattle.std.specs.List.{AllByRecursion}
use Rattle.init_lock.specs.Known.{IsAway}
use Rattle.cases.proofs.bench.merging.draw_some.Given as goal

abbrev pub invariant-loop-pass : goal.invariant-loop-pass
invariant-loop-pass l = record {
  drawn_table : AllByRecursion (λ p. p.table ≡ l.table.id) l.drawn.items;
  drawn_away : AllByRecursion (λ p. IsAway p.places) l.drawn.items;
  left_table : AllByRecursion (λ p. p.table ≡ l.table.id) l.pass-iterator.rest.items;
  left_away : AllByRecursion (λ p. IsAway p.places) l.pass-iterator.rest.items;
  numbers : map (λ p. p.number) l.drawn.items ++ map (λ p. p.number) l.pass-iterator.rest.items ≡ map (λ p. p.number) l.fn.passes.items;
}
