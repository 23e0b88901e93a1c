use Rattle.std.proofs.Common.{arith}
use Rattle.jasmin_writer.proofs.Marks.{marked_set, marked_past}
use Rattle.jasmin_writer.proofs.mark.mark.Goals as goal

pub returns-then-at-len : goal.returns-then-at-len
returns-then-at-len c = marked_set c.args.marks.now.items c.args.place (omega arith)

pub returns-else-at-len : goal.returns-else-at-len
returns-else-at-len c = marked_past c.args.marks.now.items c.args.place (omega arith)
