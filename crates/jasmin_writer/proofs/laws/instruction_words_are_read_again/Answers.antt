use Rattle.jasmin_writer.proofs.FormWords.{plain_again, local_again, jump_again, field_again, call_again, types_again}
use Rattle.jasmin_writer.proofs.laws.instruction_words_are_read_again.Goals as goal

pub returns-clause-plain : goal.returns-clause-plain
returns-clause-plain c = plain_again

pub returns-clause-local : goal.returns-clause-local
returns-clause-local c = local_again

pub returns-clause-jump : goal.returns-clause-jump
returns-clause-jump c = jump_again

pub returns-clause-field : goal.returns-clause-field
returns-clause-field c = field_again

pub returns-clause-call : goal.returns-clause-call
returns-clause-call c = call_again

pub returns-clause-types : goal.returns-clause-types
returns-clause-types c = types_again
