use Rattle.frames.proofs.Stacks.{replaced_one}
use Rattle.frames.proofs.operands.replace_top.Goals as goal

pub returns : goal.returns
returns c = replaced_one c.args.stack.now c.args.top c.args.cell c.requires.one c.requires.within
