use Rattle.frames.specs.declared.cell.Cell.TheVariants.{Unset}
use Rattle.frames.proofs.Stacks.{dropped}
use Rattle.frames.proofs.operands.drop_top.Goals as goal

pub returns-clause-operands : goal.returns-clause-operands
returns-clause-operands c = dropped c.args.stack.now c.args.top c.requires.some c.requires.within Unset
