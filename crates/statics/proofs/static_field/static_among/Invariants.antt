use Rattle.std.proofs.Common.{◌≡◌, length, slice_get}
use Rattle.std.specs.Prelude.{filter}
use Rattle.hierarchy.specs.StaticFields.{is_static_field}
use Rattle.statics.proofs.static_field.static_among.Given as goal

abbrev pub invariant-loop-rest : goal.invariant-loop-rest
invariant-loop-rest l = slice_get (filter is_static_field l.rest) l.before ≡ slice_get (filter is_static_field l.fields) l.place

abbrev pub decreases-loop-rest : goal.decreases-loop-rest
decreases-loop-rest l = length l.rest
