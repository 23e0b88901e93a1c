use Rattle.interpreter.proofs.CodeBodies.{never_at_touch}
use Rattle.interpreter.proofs.alone.AloneInterpreterBodies.TheImpl.Goals as goal

pub touch-tells : goal.touch-tells
touch-tells x c = absurd (never_at_touch c.args.program.now c.args.self.now c.requires.at)
