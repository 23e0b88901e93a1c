use Rattle.std.proofs.Common.{true}
use Rattle.jasmin_words.proofs.Spelled.{spelled_again}
use Rattle.jasmin_words.proofs.Taken.{spelled_taken}
use Rattle.jasmin_words.proofs.token.words_are_those_that_spell_the_line.Goals as goal

pub returns-clause-cut : goal.returns-clause-cut
returns-clause-cut c = spelled_again true

pub returns-clause-spelled : goal.returns-clause-spelled
returns-clause-spelled c = spelled_taken true
