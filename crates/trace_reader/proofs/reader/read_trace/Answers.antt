use Rattle.std.proofs.Common.{◌≤◌, arith}
use Rattle.trace_reader.proofs.WholeTrace.{found_in, only_in}
use Rattle.trace_reader.proofs.reader.read_trace.Goals as goal

pub returns-clause-found : goal.returns-clause-found
returns-clause-found c =
    let few : c.min-threads.result ≤ 2147483648 = omega arith in
    rw (← c.min-threads.ensures) (found_in (λ v. v.items) c.args.program.now c.is_linked.ensures.linked c.min-threads.result c.args.text.now c.events_in.result few c.events_in.ensures)

pub returns-clause-only : goal.returns-clause-only
returns-clause-only c events is =
    let few : c.min-threads.result ≤ 2147483648 = omega arith in
    only_in (λ v. v.items) c.args.program.now c.is_linked.ensures.linked c.min-threads.result c.args.text.now events c.events_in.result few c.events_in.ensures (rw c.min-threads.ensures is)
