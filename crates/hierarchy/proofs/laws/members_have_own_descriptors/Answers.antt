use Rattle.hierarchy.proofs.DistinctMembers.{own_fields, own_methods}
use Rattle.hierarchy.proofs.laws.members_have_own_descriptors.Goals as goal

pub returns-clause-fields : goal.returns-clause-fields
returns-clause-fields c = own_fields c.args.program.now c.is_linked.ensures.linked c.args.id

pub returns-clause-methods : goal.returns-clause-methods
returns-clause-methods c = own_methods c.args.program.now c.is_linked.ensures.linked c.args.id
