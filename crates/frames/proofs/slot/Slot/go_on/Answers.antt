use Rattle.std.proofs.Common.{arith}
use Rattle.std.proofs.lemmas.Grind.{common_steps}
use Rattle.frames.proofs.slot.Slot.go_on.Goals as goal

pub returns-clause-stops : goal.returns-clause-stops
returns-clause-stops c = grind (arith, common_steps)
