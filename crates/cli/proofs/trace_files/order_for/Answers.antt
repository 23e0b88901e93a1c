use Rattle.std.proofs.Common.{rules}
use Rattle.cli.specs.NamedRun.{no_memory, replayed, said, unreplayed}
use Rattle.cli.proofs.trace_files.order_for.Goals as goal

pub returns-in_default-clause-ordered : goal.returns-in_default-clause-ordered
returns-in_default-clause-ordered g c = said (search rules) c.requires.said

pub returns-in_err-threads-in-Ok-clause-refused : goal.returns-in_err-threads-in-Ok-clause-refused
returns-in_err-threads-in-Ok-clause-refused g c = search (rules, no_memory)

pub returns-in-Ok-clause-ordered : goal.returns-in-Ok-clause-ordered
returns-in-Ok-clause-ordered g c = replayed {name = c.in-Some.trace.now} {classes = c.args.mains.now} c.in-Ok.events.items (search rules) c.requires.mains c.in-Ok.ensures.traced (search rules)

pub returns-clause-refused : goal.returns-clause-refused
returns-clause-refused g c = unreplayed {name = c.in-Some.trace.now} {classes = c.args.mains.now} c.requires.mains (search rules) c.in-Err.ensures.refused
