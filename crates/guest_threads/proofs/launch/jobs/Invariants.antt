use Rattle.std.proofs.Common.{◌≡◌, ◌++◌, length, map}
use Rattle.guest_threads.proofs.launch.jobs.Given as goal

abbrev pub invariant-loop-pass : goal.invariant-loop-pass
invariant-loop-pass g l =
    (map (λ j. j.pass) l.jobs.items ++ l.pass-iterator.rest.items ≡ l.fn.passes.items)
    × (map (λ j. j.bodies) l.jobs.items ++ l.starts.rest.items ≡ l.fn.bodies.items)
    × (length l.starts.rest.items ≡ length l.pass-iterator.rest.items)
