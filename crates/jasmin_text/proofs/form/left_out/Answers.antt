use Rattle.std.proofs.Common.{arith}
use Rattle.std.proofs.lemmas.Grind.{common_steps}
use Rattle.jasmin_text.specs.Forms.{is_left_out}
use Rattle.jasmin_text.proofs.form.left_out.Goals as goal

pub returns-in-108 : goal.returns-in-108
unfolding is_left_out
returns-in-108 c = grind (arith, common_steps)

pub returns-in_default : goal.returns-in_default
unfolding is_left_out
returns-in_default c = grind (arith, common_steps)
