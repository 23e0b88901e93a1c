use Rattle.std.proofs.Common.{◌≡◌}
use Rattle.hierarchy.specs.Ancestry.{first_given, superclasses}
use Rattle.hierarchy.specs.Methods.{counted_method}
use Rattle.hierarchy.specs.Walking.{left}
use Rattle.hierarchy.proofs.program.Program.method_of_superclasses.Given as goal

abbrev pub invariant-loop-next : goal.invariant-loop-next
invariant-loop-next l = first_given (counted_method l.self l.counted l.name l.method_type) (left l.next-iterator) ≡ first_given (counted_method l.self l.counted l.name l.method_type) (superclasses l.self.classes l.fn.id)
