use Rattle.std.proofs.Common.{sym}
use Rattle.trace_reader.proofs.ClassWords.{named_small}
use Rattle.trace_reader.proofs.lines.class_of_program.Goals as goal

pub returns-in-Some-clause-within : goal.returns-in-Some-clause-within
returns-in-Some-clause-within c = named_small c.args.program.now c.is_linked.ensures.linked c.in-Some.class c.args.name.now (sym c.in-Some.ensures)
