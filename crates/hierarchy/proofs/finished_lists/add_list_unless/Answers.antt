use Rattle.std.proofs.Common.{sym}
use Rattle.hierarchy.proofs.ClassMembership.{add_all-there}
use Rattle.hierarchy.proofs.finished_lists.add_list_unless.Goals as goal

pub returns-then-is_there : goal.returns-then-is_there
returns-then-is_there c = sym (add_all-there _ _ (c.requires.there c.if-is_there.true))
