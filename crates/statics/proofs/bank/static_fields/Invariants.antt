use Rattle.std.proofs.Common.{◌≡◌, ◌++◌, length}
use Rattle.std.specs.Prelude.{map, filter}
use Rattle.hierarchy.specs.StaticFields.{is_static_field}
use Rattle.statics.specs.Statics.{static_field}
use Rattle.statics.proofs.bank.static_fields.Given as goal

abbrev pub invariant-loop-rest : goal.invariant-loop-rest
invariant-loop-rest l = l.made.items ++ map (static_field l.program) (filter is_static_field l.rest) ≡ map (static_field l.program) (filter is_static_field l.fields)

abbrev pub decreases-loop-rest : goal.decreases-loop-rest
decreases-loop-rest l = length l.rest
