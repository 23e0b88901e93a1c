use Rattle.hierarchy.proofs.ClassSets.{stands_there}
use Rattle.hierarchy.proofs.class_set.ClassSet.last.Goals as goal

pub returns : goal.returns
returns c = stands_there c.args.self.now c.in_ok-before.before c.at.result c.at.ensures
