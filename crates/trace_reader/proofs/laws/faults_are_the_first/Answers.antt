use Rattle.trace_reader.proofs.TraceLaws.{first_fault}
use Rattle.trace_reader.proofs.laws.faults_are_the_first.Goals as goal

pub returns : goal.returns
returns c = first_fault c.args.program.now c.is_linked.ensures.linked c.args.threads
