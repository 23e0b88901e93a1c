use Rattle.std.proofs.Common.{take, map}
use Rattle.sequence.specs.Written.{Adds}
use Rattle.jasmin_writer.specs.Canonical.{ended_all, label_text}
use Rattle.jasmin_writer.proofs.write_code.push_place_lines.Given as goal

abbrev pub invariant-loop-place : goal.invariant-loop-place
invariant-loop-place l = Adds l.fn.text (ended_all (map label_text (take l.place-index l.places))) l.text
