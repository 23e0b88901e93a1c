use Rattle.std.proofs.Common.{◌≡◌}
use Rattle.hierarchy.specs.ClassNumbers.{classes_in}
use Rattle.hierarchy.specs.Methods.{is_overridden}
use Rattle.hierarchy.proofs.program.Program.is_overridden.Given as goal

abbrev pub invariant-loop-interface : goal.invariant-loop-interface
invariant-loop-interface l = is_overridden l.self l.name l.method_type (classes_in l.interface-iterator) l.id ≡ is_overridden l.self l.name l.method_type (classes_in l.fn.interfaces) l.id
