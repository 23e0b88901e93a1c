use Rattle.std.proofs.Common.{◌≡◌, [], length, drop}
use Rattle.bodies.specs.Sharing.{used_bodies}
use Rattle.replayer.specs.AllGoing.{AreGoing, Leads}
use Rattle.replayer.specs.OrderedRun.{HasUsed, WaitsAfter}
use Rattle.replayer.specs.Turning.{AreInTurn}
use Rattle.replayer.proofs.run.Run+Used+B+B+Shared+B+Shared.follow.Given as goal

abbrev pub invariant-order : goal.invariant-order
invariant-order g l =
    let M = used_bodies (g.B.Bodies.making l.program) in
    let U = HasUsed l.fn.self.shared.first.value in
    let W = WaitsAfter (g.B.Bodies.making l.program) l.fn.self.shared.first.value in
    record {
      going : AreGoing l.program M l.self;
      in_turn : AreInTurn l.self;
      first : l.self.shared.first ≡ l.fn.self.shared.first;
      leads : Leads l.program M U W l.fn.order [] l.fn.self (drop l.number-index l.order) [] l.self;
      many : length l.self.threads.items ≡ length l.fn.self.threads.items;
    }
