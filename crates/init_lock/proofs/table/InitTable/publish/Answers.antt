use Rattle.std.proofs.Common.{rules}
use Rattle.init_lock.proofs.Passes.{held_low, has_settled}
use Rattle.init_lock.proofs.table.InitTable.publish.Goals as goal

pub set_done-requires-clause-place : goal.set_done-requires-clause-place
set_done-requires-clause-place g c =
    let low = held_low _ _ _ _ _ c.held.inside.place c.held.inside.taken.value c.pass.inside.seat.me c.pass.invariant (search rules) in
    search rules

pub set_done-requires-clause-settled : goal.set_done-requires-clause-settled
set_done-requires-clause-settled g c = has_settled g.R.Keeps.settles _ _ _ _ _ c.held.inside.place c.held.inside.taken.value c.pass.inside.seat.me c.pass.invariant (search rules) (search rules)
