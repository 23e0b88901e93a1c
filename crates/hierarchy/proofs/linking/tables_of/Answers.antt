use Rattle.hierarchy.specs.LinkedProgram.{id}
use Rattle.hierarchy.proofs.Acyclic.{not_cyclic}
use Rattle.hierarchy.proofs.Linked.{members_fault, heap_fault}
use Rattle.hierarchy.proofs.linking.tables_of.Goals as goal

pub returns-in-Err-members_of-clause-fault : goal.returns-in-Err-members_of-clause-fault
returns-in-Err-members_of-clause-fault c =
    members_fault c.args.classes.now c.in-Err-members_of.at.kind c.in-Err-members_of.at.place (λ n. not_cyclic c.args.classes.now c.in-Ok.ensures.acyclic (id n)) c.in-Err-members_of.ensures.fault

pub returns-in-Err-quoted_of-clause-fault : goal.returns-in-Err-quoted_of-clause-fault
returns-in-Err-quoted_of-clause-fault c =
    heap_fault c.args.classes.now c.in-Err-quoted_of.at.kind c.in-Err-quoted_of.at.place (λ n. not_cyclic c.args.classes.now c.in-Ok.ensures.acyclic (id n)) c.in-Ok-members_of.ensures.distinct c.in-Err-quoted_of.ensures.fault
