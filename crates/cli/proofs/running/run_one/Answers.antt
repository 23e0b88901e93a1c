use Rattle.std.proofs.lemmas.Result.{IfOk-weaker}
use Rattle.cli.proofs.OneMain.{ordered_within}
use Rattle.cli.proofs.running.run_one.Goals as goal

pub returns-clause-ran : goal.returns-clause-ran
returns-clause-ran c = IfOk-weaker c.run_alone.result _ _ (λ r ordered. (ordered_within ordered, ordered)) c.run_alone.ensures.ran
