use Rattle.std.proofs.Common.{◌≡◌}
use Rattle.std.specs.Prelude.{filter}
use Rattle.hierarchy.specs.ClassLists.{add_all}
use Rattle.hierarchy.specs.ClassNumbers.{classes_in}
use Rattle.init_core.specs.Needs.{declares_default}
use Rattle.init_core.proofs.order.add_defaults.Given as goal

abbrev pub invariant-loop-id : goal.invariant-loop-id
invariant-loop-id l = add_all l.found.keys (filter (declares_default l.program) (classes_in l.id-iterator)) ≡ add_all l.fn.found.keys (filter (declares_default l.program) (classes_in l.fn.ids))
