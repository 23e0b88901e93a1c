use Rattle.std.proofs.Common.{refl}
use Rattle.init_core.proofs.States.{few_statics, prepared_state}
use Rattle.init_core.proofs.state.ClassState.prepared.Goals as goal

pub invariant_of-result : goal.invariant_of-result
invariant_of-result c = record { class = c.requires; fields = rw c.in_ok-bank.ensures.fields (few_statics c.args.program.now c.is_linked.ensures.linked c.args.class) }

pub returns-clause-events : goal.returns-clause-events
returns-clause-events c = prepared_state _ refl refl (rw (c.in_ok-bank.ensures.fields) c.in_ok-bank.ensures.values) refl
