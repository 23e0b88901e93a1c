use Rattle.init_core.proofs.MainFinishing.{begun_can_finish}
use Rattle.judge.proofs.Words as words
use Rattle.judge.proofs.Meanings as meanings
use Rattle.judge.proofs.Tested.{once}
use Rattle.judge.proofs.laws.reading_is_exact.Goals as goal

pub returns-clause-fronts : goal.returns-clause-fronts
returns-clause-fronts c = words.fronts

pub returns-clause-wholes : goal.returns-clause-wholes
returns-clause-wholes c = words.wholes

pub returns-clause-front : goal.returns-clause-front
returns-clause-front c = λ p t m xs h. let k = begun_can_finish p t m xs (meanings.begins_main p t m xs h) in (k.0, k.2)

pub returns-clause-whole : goal.returns-clause-whole
returns-clause-whole c = meanings.is_word

pub returns-clause-once : goal.returns-clause-once
returns-clause-once c = λ p t a b d s u v e x y. once p t x y
