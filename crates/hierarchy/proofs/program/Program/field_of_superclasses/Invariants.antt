use Rattle.std.proofs.Common.{◌≡◌}
use Rattle.hierarchy.specs.Ancestry.{first_given, superclasses}
use Rattle.hierarchy.specs.Fields.{declared_field}
use Rattle.hierarchy.specs.Walking.{left}
use Rattle.hierarchy.proofs.program.Program.field_of_superclasses.Given as goal

abbrev pub invariant-loop-next : goal.invariant-loop-next
invariant-loop-next l = first_given (declared_field l.self l.name l.field_type) (left l.next-iterator) ≡ first_given (declared_field l.self l.name l.field_type) (superclasses l.self.classes l.fn.id)
