use Rattle.std.proofs.Common.{take, map}
use Rattle.sequence.specs.Written.{Adds}
use Rattle.jasmin_writer.specs.Canonical.{ended_all, field_line}
use Rattle.jasmin_writer.proofs.write.push_fields.Given as goal

abbrev pub invariant-loop-field : goal.invariant-loop-field
invariant-loop-field l = Adds l.fn.text (ended_all (map field_line (take l.field-index l.fields))) l.text
