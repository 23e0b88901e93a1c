use Rattle.std.proofs.Common.{◌<◌}
use Rattle.sequence.proofs.Results.{holds_at}
use Rattle.init_core.specs.declared.event.TheConstants.{FIELD_PLACES}
use Rattle.trace_reader.specs.Fields.{field_at}
use Rattle.trace_reader.proofs.FieldWords.{field_small}
use Rattle.trace_reader.proofs.lines.use_of.Goals as goal

pub returns-clause-within : goal.returns-clause-within
returns-clause-within c =
    holds_at (λ x. x.0 < FIELD_PLACES) (field_at c.args.program.now c.args.class c.in_ok-name.name.now) (c.in_ok-place.place, c.in_ok-place.base)
    (field_small c.args.program.now c.is_linked.ensures.linked c.args.class c.in_ok-name.name.now) c.in_ok-place.ensures
