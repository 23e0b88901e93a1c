use Rattle.hierarchy.proofs.Enumerations.{enumeration-law}
use Rattle.init_core.proofs.order.superinterfaces_come_first.Goals as goal

pub returns : goal.returns
returns c = enumeration-law c.args.program.now.classes c.args.id c.is_linked.ensures.acyclic
