use Rattle.init_core.proofs.States.{owner_few}
use Rattle.init_core.proofs.record.ClassRecord.is_in_range.Goals as goal

pub returns-clause-owner : goal.returns-clause-owner
returns-clause-owner c = λ t q. owner_few _ _ t c.self.invariant.state.numbers (rw (← c.self.view_is) at q)
