use Rattle.trace_reader.proofs.Fronts.{some_joined, none_joined}
use Rattle.trace_reader.proofs.fields.are_joined.Goals as goal

pub returns-in-Some : goal.returns-in-Some
returns-in-Some c = some_joined c.args.front.now c.args.back.now c.args.bytes.now c.in-Some.rest.now c.same.result c.in-Some.ensures c.same.ensures

pub returns-in-None : goal.returns-in-None
returns-in-None c = none_joined c.args.front.now c.args.back.now c.args.bytes.now c.in-None.ensures
