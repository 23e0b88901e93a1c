use Rattle.hierarchy.specs.Ancestry.{superclass_alone}
use Rattle.hierarchy.specs.Fields.{interfaces_first}
use Rattle.hierarchy.proofs.Ancestries.{ancestry-law, superclass_upward, interfaces_first_upward}
use Rattle.hierarchy.proofs.laws.members_are_looked_up_upward.Goals as goal

pub returns-clause-fields : goal.returns-clause-fields
returns-clause-fields c =
    ancestry-law c.args.program.now.classes (interfaces_first c.args.program.now.classes) (interfaces_first_upward c.args.program.now.classes) c.is_linked.ensures.acyclic c.args.id

pub returns-clause-methods : goal.returns-clause-methods
returns-clause-methods c =
    ancestry-law c.args.program.now.classes (superclass_alone c.args.program.now.classes) (superclass_upward c.args.program.now.classes) c.is_linked.ensures.acyclic c.args.id
