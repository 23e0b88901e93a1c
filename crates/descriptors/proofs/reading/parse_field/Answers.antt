use Rattle.descriptors.proofs.FieldLaws.{is_found, is_only}
use Rattle.descriptors.proofs.reading.parse_field.Goals as goal

pub returns-clause-found : goal.returns-clause-found
returns-clause-found c = is_found c.args.bytes.now c.whole_field.result c.whole_field.ensures

pub returns-clause-only : goal.returns-clause-only
returns-clause-only c = is_only c.args.bytes.now c.whole_field.result c.whole_field.ensures
