use Rattle.std.proofs.Common.{◌∙◌, inr, sym}
use Rattle.hierarchy.specs.FirstFault.{too_many, reserved, repeated}
use Rattle.hierarchy.proofs.linking.directory_of.Goals as goal

pub returns-then-texts-gt1024-clause-fault : goal.returns-then-texts-gt1024-clause-fault
returns-then-texts-gt1024-clause-fault c = inr (too_many c.if-texts-gt1024.true)

pub returns-in-Some-clause-fault : goal.returns-in-Some-clause-fault
returns-in-Some-clause-fault c = inr (reserved c.if-texts-gt1024.false (sym c.first_reserved.ensures ∙ c.in-Some.is))

pub returns-in-Some-repeated-clause-fault : goal.returns-in-Some-repeated-clause-fault
returns-in-Some-repeated-clause-fault c =
    inr (repeated c.if-texts-gt1024.false (sym c.first_reserved.ensures ∙ c.in_default.is) (rw c.in-Some-repeated.is at c.in-Ok.ensures.repeated))
