use Rattle.std.proofs.Common.{◌≤◌, arith}
use Rattle.trace_reader.proofs.WholeTrace.{trace_again}
use Rattle.trace_reader.proofs.laws.traces_are_of_one_list.Goals as goal

pub returns : goal.returns
returns c = λ text events others is are.
    let few : c.args.threads ≤ 2147483648 = let t = c.requires in omega arith in
    let one = trace_again c.args.program.now c.is_linked.ensures.linked c.args.threads text events few is in
    let other = trace_again c.args.program.now c.is_linked.ensures.linked c.args.threads text others few are in
    cc
