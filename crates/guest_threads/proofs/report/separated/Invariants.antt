use Rattle.std.proofs.Common.{◌≡◌, ◌++◌, map}
use Rattle.guest_threads.proofs.report.separated.Given as goal

abbrev pub invariant-loop-worked : goal.invariant-loop-worked
invariant-loop-worked l = (l.passes.items ++ map (λ w. w.pass) l.worked-iterator.rest.items ≡ map (λ w. w.pass) l.fn.done.items) × (l.outcomes ++ map (λ w. w.outcome) l.worked-iterator.rest.items ≡ map (λ w. w.outcome) l.fn.done.items)
