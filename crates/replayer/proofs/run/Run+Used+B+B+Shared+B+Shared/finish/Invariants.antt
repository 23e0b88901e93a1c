use Rattle.std.proofs.Common.{◌≡◌, ℕ, List, []}
use Rattle.bodies.specs.Sharing.{used_bodies}
use Rattle.replayer.specs.AllGoing.{AreGoing, Leads}
use Rattle.replayer.specs.OrderedRun.{HasUsed, WaitsAfter}
use Rattle.replayer.specs.Turning.{AreInTurn}
use Rattle.replayer.proofs.run.Run+Used+B+B+Shared+B+Shared.finish.Given as goal

abbrev pub invariant-rounds : goal.invariant-rounds
invariant-rounds g l =
    let M = used_bodies (g.B.Bodies.making l.program) in
    let U = HasUsed l.fn.self.shared.first.value in
    let W = WaitsAfter (g.B.Bodies.making l.program) l.fn.self.shared.first.value in
    record {
      going : AreGoing l.program M l.self;
      in_turn : AreInTurn l.self;
      first : l.self.shared.first ≡ l.fn.self.shared.first;
      leads : (gone : List ℕ) × Leads l.program M U W [] [] l.fn.self [] gone l.self;
    }
