use Rattle.std.proofs.Common.{◌≡◌, []}
use Rattle.std.specs.Prelude.{map}
use Rattle.bodies.specs.Sharing.{used_at_start, used_bodies}
use Rattle.replayer.proofs.Fresh.{HaveBegun}
use Rattle.replayer.proofs.run.Run+Used+B+B+Shared+B+Shared.begin.Given as goal

abbrev pub invariant-threads : goal.invariant-threads
invariant-threads g l = HaveBegun l.program (used_bodies (g.B.Bodies.making l.program)) (λ s. s.uses ≡ []) l.log l.mains (map used_at_start l.initial.bodies-iterator.rest.items) l.threads.items (map used_at_start l.bodies-iterator.rest.items)
