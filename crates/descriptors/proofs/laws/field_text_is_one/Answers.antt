use Rattle.descriptors.proofs.FieldLaws.{field_only, field_found}
use Rattle.descriptors.proofs.laws.field_text_is_one.Goals as goal

pub returns-clause-written : goal.returns-clause-written
returns-clause-written c = field_only

pub returns-clause-read : goal.returns-clause-read
returns-clause-read c = λ text t e. let found = field_found text t e in (found.1, found.0)
