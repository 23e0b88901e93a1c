use Rattle.std.proofs.Common.{◌≡◌, ℕ, List, [], length}
use Rattle.bodies.specs.Sharing.{used_bodies}
use Rattle.replayer.specs.AllGoing.{AreGoing, Leads}
use Rattle.replayer.specs.OrderedRun.{HasUsed, WaitsAfter}
use Rattle.replayer.specs.Turning.{AreInTurn}
use Rattle.replayer.proofs.Followed.{HavePassed, IsLowestHeld}
use Rattle.replayer.proofs.run.Run+Used+B+B+Shared+B+Shared.go_lowest.Given as goal

abbrev pub invariant-threads : goal.invariant-threads
invariant-threads g l =
    let M = used_bodies (g.B.Bodies.making l.program) in
    let U = HasUsed l.fn.self.shared.first.value in
    let W = WaitsAfter (g.B.Bodies.making l.program) l.fn.self.shared.first.value in
    record {
      going : AreGoing l.program M l.self;
      in_turn : AreInTurn l.self;
      first : l.self.shared.first ≡ l.fn.self.shared.first;
      many : length l.self.threads.items ≡ length l.fn.self.threads.items;
      leads : (gone : List ℕ) → Leads l.program M U W [] gone l.fn.self [] gone l.self;
      passed : HavePassed l.program M U W l.number l.self;
      held : IsLowestHeld l.program M U W l.number l.self l.held;
    }
