use Rattle.std.proofs.Common.{rules}
use Rattle.frames.proofs.Popped.{pops}
use Rattle.frames.proofs.moves.pop.Goals as goal

pub returns-clause-decided : goal.returns-clause-decided
returns-clause-decided c = record {
  row = pops c.args.locals.now c.args.stack.now c.args.limit c.args.top.now c.args.place.now c.if-top-lt1.false c.requires.within c.if-top-limit.false;
  kept = search rules;
  near = search rules;
}
