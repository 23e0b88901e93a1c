use Rattle.descriptors.specs.Spelling.{element_spelling}
use Rattle.trace_reader.proofs.Fronts.{bracket}
use Rattle.trace_reader.proofs.fields.spells_type.Goals as goal

pub dimensions-preserved : goal.dimensions-preserved
dimensions-preserved c =
    bracket c.args.field_type.now.dimensions c.dimensions._dimension (element_spelling c.args.field_type.now.element) c.dimensions.rest.now c.in-Some.after.now _ c.dimensions-test.true c.in-Some.ensures c.dimensions.invariant
