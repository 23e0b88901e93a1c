use Rattle.judge.specs.Verdicts as verdicts
use Rattle.judge.specs.declared.verdict.Verdict.TheVariants as verdict
use Rattle.judge.proofs.Verdicts.{one_verdict, broken}
use Rattle.judge.proofs.laws.verdicts_are_exact.Goals as goal

pub returns-clause-one : goal.returns-clause-one
returns-clause-one c = one_verdict

pub returns-clause-legal : goal.returns-clause-legal
returns-clause-legal c = λ p mains events v l x. one_verdict p mains events v verdict.Legal x (verdicts.legal l)

pub returns-clause-least : goal.returns-clause-least
returns-clause-least c = broken
