use Rattle.std.proofs.Common.{◌≡◌, [], take}
use Rattle.std.specs.List.{flat_map}
use Rattle.hierarchy.specs.ClassLists.{add_all}
use Rattle.hierarchy.specs.Superinterfaces.{IsClosed, enumeration}
use Rattle.hierarchy.proofs.order.superinterfaces.Given as goal

abbrev pub invariant-loop-interface : goal.invariant-loop-interface
invariant-loop-interface l = record {
  found : l.found ≡ add_all [] (flat_map (enumeration l.fn.classes) (take l.interface-index l.interface-items));
  closed : IsClosed l.fn.classes l.found;
}
