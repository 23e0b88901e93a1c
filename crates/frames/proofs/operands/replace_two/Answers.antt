use Rattle.frames.proofs.Stacks.{replaced}
use Rattle.frames.proofs.operands.replace_two.Goals as goal

pub returns : goal.returns
returns c = replaced c.args.stack.now c.args.top c.args.cell c.requires.two c.requires.within
