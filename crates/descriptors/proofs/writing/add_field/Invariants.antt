use Rattle.std.specs.Prelude.{replicate}
use Rattle.sequence.specs.Written.{Adds}
use Rattle.descriptors.proofs.writing.add_field.Given as goal

abbrev pub invariant-loop : goal.invariant-loop
invariant-loop l = Adds l.fn.text (replicate l.counter 91) l.text
