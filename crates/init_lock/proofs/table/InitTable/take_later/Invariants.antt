use Rattle.std.proofs.Common.{◌≡◌, ◌≢◌, ◌+◌, ◌<◌}
use Rattle.init_lock.proofs.table.InitTable.take_later.Given as goal

abbrev pub invariant-loop : goal.invariant-loop
invariant-loop g l = (l.pass ≡ record l.initial.pass { misses = l.pass.misses }) × (l.patience ≡ 0 → l.left ≡ 0) × (l.patience ≢ 0 → (0 < l.left) × (l.left + l.pass.misses ≡ l.initial.pass.misses + l.patience))
