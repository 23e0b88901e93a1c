use Rattle.std.proofs.Common.{◌≤◌, refl, arith}
use Rattle.trace.specs.TraceText.{trace_of}
use Rattle.trace_reader.proofs.TraceLaws.{in_trace}
use Rattle.trace_reader.proofs.WholeTrace.{trace_again}
use Rattle.trace_reader.proofs.laws.what_is_written_is_read.Goals as goal

pub returns-clause-one : goal.returns-clause-one
returns-clause-one c = in_trace c.args.program.now c.is_linked.ensures.linked c.args.threads

pub returns-clause-all : goal.returns-clause-all
returns-clause-all c = λ events are lines bytes.
    let few : c.args.threads ≤ 2147483648 = let t = c.requires in omega arith in
    trace_again c.args.program.now c.is_linked.ensures.linked c.args.threads (trace_of c.args.program.now events) events few record { spelled = refl; are = are; lines = lines; bytes = bytes }
