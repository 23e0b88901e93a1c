use Rattle.std.proofs.Common.{◌≡◌}
use Rattle.hierarchy.specs.Ancestry.{first_given}
use Rattle.hierarchy.specs.ClassNumbers.{classes_in}
use Rattle.hierarchy.specs.Fields.{declared_field}
use Rattle.hierarchy.proofs.program.Program.first_field.Given as goal

abbrev pub invariant-loop-id : goal.invariant-loop-id
invariant-loop-id l = first_given (declared_field l.self l.name l.field_type) (classes_in l.id-iterator) ≡ first_given (declared_field l.self l.name l.field_type) (classes_in l.fn.ids)
