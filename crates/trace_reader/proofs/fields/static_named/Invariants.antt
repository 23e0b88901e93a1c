use Rattle.std.proofs.Common.{◌≡◌, ◌+◌, ◌≤◌, length}
use Rattle.std.specs.Prelude.{filter}
use Rattle.hierarchy.specs.StaticFields.{is_static_field}
use Rattle.trace_reader.specs.Fields.{field_from}
use Rattle.trace_reader.proofs.fields.static_named.Given as goal

abbrev pub invariant-loop-rest : goal.invariant-loop-rest
invariant-loop-rest l = record {
  same : field_from l.place (filter is_static_field l.rest) l.word ≡ field_from 0 (filter is_static_field l.fields) l.word;
  within : l.place + length l.rest ≤ length l.fields;
}

abbrev pub decreases-loop-rest : goal.decreases-loop-rest
decreases-loop-rest l = length l.rest
