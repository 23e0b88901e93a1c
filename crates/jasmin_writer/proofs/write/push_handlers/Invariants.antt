use Rattle.std.proofs.Common.{take, map}
use Rattle.sequence.specs.Written.{Adds}
use Rattle.jasmin_writer.specs.Canonical.{ended_all, handler_line}
use Rattle.jasmin_writer.proofs.write.push_handlers.Given as goal

abbrev pub invariant-loop-handler : goal.invariant-loop-handler
invariant-loop-handler l = Adds l.fn.text (ended_all (map handler_line (take l.handler-index l.handlers))) l.text
