use Rattle.std.proofs.Common.{rules}
use Rattle.cli.proofs.sink.emit_to.Goals as goal

pub returns-in-Err-clause-short : goal.returns-in-Err-clause-short
returns-in-Err-clause-short g c = (c.in-Err.fault.written, c.in-Err.ensures.short, search rules)
