use Rattle.std.proofs.Common.{◌≡◌}
use Rattle.cases.proofs.bench.beside.take_often.Given as goal

abbrev pub invariant-loop : goal.invariant-loop
invariant-loop l = l.pass.table ≡ l.table.id
