use Rattle.std.proofs.Common.{take, map}
use Rattle.sequence.specs.Written.{Adds}
use Rattle.jasmin_writer.specs.Canonical.{ended_all, implements_line}
use Rattle.jasmin_writer.proofs.write.push_interfaces.Given as goal

abbrev pub invariant-loop-interface : goal.invariant-loop-interface
invariant-loop-interface l = Adds l.fn.text (ended_all (map implements_line (take l.interface-index l.interfaces))) l.text
