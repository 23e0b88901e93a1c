use Rattle.hierarchy.proofs.ClassNames.{classes_found, built_ins_found}
use Rattle.hierarchy.proofs.laws.classes_are_found_by_name.Goals as goal

pub returns-clause-found : goal.returns-clause-found
returns-clause-found c = classes_found c.args.program.now c.is_linked.ensures.linked

pub returns-clause-built_ins : goal.returns-clause-built_ins
returns-clause-built_ins c = built_ins_found c.args.program.now c.is_linked.ensures.linked
