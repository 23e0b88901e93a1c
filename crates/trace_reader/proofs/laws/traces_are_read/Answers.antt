use Rattle.std.proofs.Common.{◌≤◌, arith}
use Rattle.sequence.proofs.Results.{holds_at}
use Rattle.trace_reader.specs.TraceEvents.{IsTraceOf}
use Rattle.trace_reader.specs.TraceReading.{events_of}
use Rattle.trace_reader.proofs.WholeTrace.{trace_found, trace_again}
use Rattle.trace_reader.proofs.laws.traces_are_read.Goals as goal

pub returns-clause-found : goal.returns-clause-found
returns-clause-found c = λ text events e.
    let few : c.args.threads ≤ 2147483648 = let t = c.requires in omega arith in
    holds_at (IsTraceOf c.args.program.now c.args.threads text) (events_of c.args.program.now c.args.threads text) events (trace_found c.args.program.now c.is_linked.ensures.linked c.args.threads text few) e

pub returns-clause-only : goal.returns-clause-only
returns-clause-only c = λ text events is.
    let few : c.args.threads ≤ 2147483648 = let t = c.requires in omega arith in
    trace_again c.args.program.now c.is_linked.ensures.linked c.args.threads text events few is
