use Rattle.std.proofs.Common.{◌≡◌, ◌+◌, ◌≤◌, length}
use Rattle.std.specs.Prelude.{filter}
use Rattle.hierarchy.specs.StaticFields.{is_static_field}
use Rattle.hierarchy.proofs.fields.static_count.Given as goal

abbrev pub invariant-loop-rest : goal.invariant-loop-rest
invariant-loop-rest l = record {
  same : l.count + length (filter is_static_field l.rest) ≡ length (filter is_static_field l.fields);
  within : l.count + length l.rest ≤ length l.fields;
}

abbrev pub decreases-loop-rest : goal.decreases-loop-rest
decreases-loop-rest l = length l.rest
