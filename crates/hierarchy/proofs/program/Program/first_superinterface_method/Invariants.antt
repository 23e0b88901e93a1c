use Rattle.std.proofs.Common.{◌≡◌}
use Rattle.hierarchy.specs.Ancestry.{first_given}
use Rattle.hierarchy.specs.ClassNumbers.{classes_in}
use Rattle.hierarchy.specs.Methods.{counted_method, first_superinterface_method}
use Rattle.hierarchy.specs.declared.declared_method.Counted.TheVariants.{Inherited}
use Rattle.hierarchy.proofs.program.Program.first_superinterface_method.Given as goal

abbrev pub invariant-loop-interface : goal.invariant-loop-interface
invariant-loop-interface l = first_given (counted_method l.self Inherited l.name l.method_type) (classes_in l.interface-iterator) ≡ first_superinterface_method l.self l.name l.method_type l.fn.id
