use Rattle.std.proofs.Common.{take}
use Rattle.std.specs.List.{flat_map}
use Rattle.sequence.specs.Written.{Adds}
use Rattle.jasmin_writer.specs.Canonical.{ended_all, method_lines}
use Rattle.jasmin_writer.proofs.write.push_methods.Given as goal

abbrev pub invariant-loop-method : goal.invariant-loop-method
invariant-loop-method l = Adds l.fn.text (ended_all (flat_map method_lines (take l.method-index l.methods))) l.text
