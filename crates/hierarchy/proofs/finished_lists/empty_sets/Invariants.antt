use Rattle.std.proofs.Common.{[]}
use Rattle.hierarchy.specs.Superinterfaces.{IsTable}
use Rattle.hierarchy.proofs.finished_lists.empty_sets.Given as goal

abbrev pub invariant-loop : goal.invariant-loop
invariant-loop l = IsTable (λ c. []) l.counter l.all.items
