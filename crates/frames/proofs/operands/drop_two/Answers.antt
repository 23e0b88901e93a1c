use Rattle.frames.specs.declared.cell.Cell.TheVariants.{Unset}
use Rattle.frames.proofs.Stacks.{dropped_two}
use Rattle.frames.proofs.operands.drop_two.Goals as goal

pub returns-clause-operands : goal.returns-clause-operands
returns-clause-operands c = dropped_two c.args.stack.now c.args.top c.requires.two c.requires.within Unset
