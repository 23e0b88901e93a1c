use Rattle.std.proofs.Common.{◌≡◌, ◌++◌}
use Rattle.std.specs.List.{filter, filter_map}
use Rattle.std.specs.Option.{option_to_list}
use Rattle.hierarchy.specs.ClassNumbers.{classes_in}
use Rattle.hierarchy.specs.Found.{found_of}
use Rattle.hierarchy.specs.Methods.{specific_method, is_concrete}
use Rattle.hierarchy.proofs.program.Program.concrete_specific.Given as goal

abbrev pub invariant-loop-interface : goal.invariant-loop-interface
invariant-loop-interface l =
    found_of (option_to_list l.only ++ filter is_concrete (filter_map (specific_method l.self l.name l.method_type (classes_in l.interfaces)) (classes_in l.interface-iterator))) ≡
    found_of (filter is_concrete (filter_map (specific_method l.self l.name l.method_type (classes_in l.interfaces)) (classes_in l.interfaces)))
