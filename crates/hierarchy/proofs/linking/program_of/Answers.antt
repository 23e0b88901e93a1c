use Rattle.hierarchy.specs.FirstFault.{HasNoCycle}
use Rattle.hierarchy.specs.LinkedProgram.{id}
use Rattle.hierarchy.proofs.Acyclic.{not_cyclic}
use Rattle.hierarchy.proofs.ObjectCells.{resolved_few_fields}
use Rattle.hierarchy.proofs.ProvedByLinking.{resolved_few, resolved_in_range, resolved_linked}
use Rattle.hierarchy.proofs.linking.program_of.Goals as goal

pub tables_of-requires-clause-few : goal.tables_of-requires-clause-few
tables_of-requires-clause-few c = rw c.deref.ensures.value (resolved_few c.args.classes.items c.requires.resolved)

pub tables_of-requires-clause-fields : goal.tables_of-requires-clause-fields
tables_of-requires-clause-fields c = rw c.deref.ensures.value (resolved_few_fields c.args.classes.items c.requires.resolved)

pub tables_of-requires-clause-in_range : goal.tables_of-requires-clause-in_range
tables_of-requires-clause-in_range c = rw c.deref.ensures.value (resolved_in_range c.args.classes.items c.requires.resolved)

pub new-requires-clause-linked : goal.new-requires-clause-linked
new-requires-clause-linked c =
    resolved_linked c.args.edition c.args.classes.items c.requires.resolved (λ n. not_cyclic c.args.classes.items (rw c.deref.ensures.value at c.in-Ok.ensures.acyclic) (id n))
    (rw c.deref.ensures.value at c.in-Ok.ensures.members) (rw c.deref.ensures.value at c.in-Ok.ensures.heap)

pub returns-in-Ok-clause-cycles : goal.returns-in-Ok-clause-cycles
returns-in-Ok-clause-cycles c =
    let none : HasNoCycle c.args.classes.items = λ n. not_cyclic c.args.classes.items (rw c.deref.ensures.value at c.in-Ok.ensures.acyclic) (id n) in
    none
