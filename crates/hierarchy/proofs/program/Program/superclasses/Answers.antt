use Rattle.std.proofs.Common.{◌≤◌, length, arith}
use Rattle.hierarchy.proofs.ProvedByLinking.{linked_few}
use Rattle.hierarchy.proofs.Superclasses.{superclasses-few}
use Rattle.hierarchy.proofs.program.Program.superclasses.Goals as goal

pub returns-clause-few : goal.returns-clause-few
returns-clause-few c =
    let few : length c.args.self.now.classes ≤ 1024 = linked_few c.args.self.now c.is_linked.ensures.linked in
    omega (arith, superclasses-few c.args.self.now.classes c.args.id, few)
