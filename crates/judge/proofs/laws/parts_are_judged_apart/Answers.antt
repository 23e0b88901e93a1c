use Rattle.judge.proofs.Parts.{legal_is_read, read_is_legal, beginning_is_read, read_is_beginning}
use Rattle.judge.proofs.laws.parts_are_judged_apart.Goals as goal

pub returns-clause-legal : goal.returns-clause-legal
returns-clause-legal c = legal_is_read

pub returns-clause-whole : goal.returns-clause-whole
returns-clause-whole c = read_is_legal

pub returns-clause-beginning : goal.returns-clause-beginning
returns-clause-beginning c = beginning_is_read

pub returns-clause-front : goal.returns-clause-front
returns-clause-front c = read_is_beginning
