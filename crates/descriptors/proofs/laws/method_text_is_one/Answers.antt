use Rattle.descriptors.proofs.MethodLaws.{method_only, method_found}
use Rattle.descriptors.proofs.laws.method_text_is_one.Goals as goal

pub returns-clause-written : goal.returns-clause-written
returns-clause-written c = method_only

pub returns-clause-read : goal.returns-clause-read
returns-clause-read c = λ text m e. let found = method_found text m e in (found.1, found.0)
