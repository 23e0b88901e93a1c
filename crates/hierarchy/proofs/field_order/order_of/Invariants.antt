use Rattle.std.proofs.Common.{◌≡◌, [], take}
use Rattle.std.specs.List.{flat_map}
use Rattle.hierarchy.specs.ClassLists.{add_all, add_new}
use Rattle.hierarchy.specs.Fields.{field_order}
use Rattle.hierarchy.proofs.field_order.order_of.Given as goal

abbrev pub invariant-loop-interface : goal.invariant-loop-interface
invariant-loop-interface l = l.found ≡ add_all (add_new [] l.fn.id) (flat_map (field_order l.fn.classes) (take l.interface-index l.interface-items))
