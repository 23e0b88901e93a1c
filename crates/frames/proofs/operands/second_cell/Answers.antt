use Rattle.std.proofs.Common.{sym}
use Rattle.std.proofs.Common.{arith}
use Rattle.frames.proofs.Stacks.{second_is, none_below}
use Rattle.frames.proofs.operands.second_cell.Goals as goal

pub returns-clause-top : goal.returns-clause-top
returns-clause-top c = sym (second_is c.args.stack.now c.args.top _ (omega arith) c.requires)

pub returns-then-top-lt2-clause-top : goal.returns-then-top-lt2-clause-top
returns-then-top-lt2-clause-top c = sym (none_below c.args.stack.now c.args.top (omega arith) c.requires)
