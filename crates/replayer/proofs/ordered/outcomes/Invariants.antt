use Rattle.std.proofs.Common.{◌≡◌, ◌++◌, drop, map}
use Rattle.replayer.specs.AllGoing.{outcome_in, outcomes_of}
use Rattle.replayer.specs.Going.{outcome_by}
use Rattle.replayer.proofs.ordered.outcomes.Given as goal

abbrev pub invariant-threads : goal.invariant-threads
invariant-threads g l = l.outcomes ++ map (λ w. outcome_in w.done (outcome_by w.gave_up)) (drop l.thread-index l.run.threads.items) ≡ outcomes_of l.run
