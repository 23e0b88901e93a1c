use Rattle.std.proofs.Common.{◌≡◌, length}
use Rattle.std.specs.List.{flat_map}
use Rattle.hierarchy.specs.Quoted.{note_all, texts_of_field}
use Rattle.hierarchy.proofs.quoted.note_fields.Given as goal

abbrev pub invariant-loop-rest : goal.invariant-loop-rest
invariant-loop-rest l = note_all l.noted (flat_map texts_of_field l.rest) ≡ note_all l.fn.noted (flat_map texts_of_field l.fields)

abbrev pub decreases-loop-rest : goal.decreases-loop-rest
decreases-loop-rest l = length l.rest
