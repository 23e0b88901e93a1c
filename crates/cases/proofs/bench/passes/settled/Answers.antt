use Rattle.std.proofs.Common.{subst}
use Rattle.std.specs.List.{AllByRecursion}
use Rattle.cases.specs.Ready.{IsReady}
use Rattle.cases.proofs.Passes.{last_ready}
use Rattle.cases.proofs.bench.passes.settled.Goals as goal

pub settle-requires-clause-pass : goal.settle-requires-clause-pass
settle-requires-clause-pass g c = (last_ready c.in_ok-table.table.id c.pop.new.self.items c.in-Some.last (subst (AllByRecursion (IsReady c.in_ok-table.table.id)) c.in-Some.ensures.items c.in_ok-table.ensures.passes)).1
