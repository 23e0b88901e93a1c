use Rattle.std.proofs.Common.{rules, arith, inr, length}
use Rattle.std.proofs.lemmas.Result.{err_from_is_err_and}
use Rattle.trace_reader.specs.TraceReading.{events_of}
use Rattle.trace_reader.proofs.WholeTrace.{begins, goes_on, is_done, fails, too_many, shorter}
use Rattle.trace_reader.proofs.reader.events_in.Goals as goal

pub lines-init : goal.lines-init
lines-init c = record { same = begins c.args.program.now c.args.threads c.args.text.now c.new-events.result.items c.new-events.ensures.items; within = omega arith }

pub returns-then-is_empty : goal.returns-then-is_empty
returns-then-is_empty c =
    is_done c.args.program.now c.args.threads (length c.args.text.now) _ c.lines.number c.lines.events.items c.lines.rest.now (events_of c.args.program.now c.args.threads c.args.text.now) (search rules) c.lines.invariant.same

pub returns-in_err-event : goal.returns-in_err-event
returns-in_err-event c =
    let p = err_from_is_err_and c.from_residual.result c.from_residual.ensures.1 in
    rw (p.1, p.2) (fails c.args.program.now c.args.threads (length c.args.text.now) c.lines.number c.lines.events.items c.lines.rest.now c.in_err-event.field-0.0 (events_of c.args.program.now c.args.threads c.args.text.now) c.lines-test.true (search rules) c.in_err-event.ensures.read c.lines.invariant.same)

pub lines-preserved : goal.lines-preserved
lines-preserved c =
    let short = shorter c.args.program.now c.is_linked.ensures.linked c.args.threads (length c.args.text.now) c.lines.number c.lines.rest.now c.in_ok-event.after.now _ c.in_ok-event.ensures.read in
    record {
      same = rw c.in_ok-keep.ensures.ok (goes_on c.args.program.now c.args.threads (length c.args.text.now) c.lines.number c.lines.events.items c.lines.rest.now c.in_ok-event.after.now _ (events_of c.args.program.now c.args.threads c.args.text.now) c.lines-test.true (search rules) c.in_ok-event.ensures.read c.lines.invariant.same);
      within = omega (arith, short, c.lines.invariant.within);
    }

pub returns-then-is_empty-2 : goal.returns-then-is_empty-2
returns-then-is_empty-2 c =
    is_done c.args.program.now c.args.threads (length c.args.text.now) _ c.lines.number c.lines.events.items c.lines.rest.now (events_of c.args.program.now c.args.threads c.args.text.now) (search rules) c.lines.invariant.same

pub returns-else-is_empty-2 : goal.returns-else-is_empty-2
returns-else-is_empty-2 c =
    inr (too_many c.args.program.now c.args.threads (length c.args.text.now) c.lines.number c.lines.events.items c.lines.rest.now (events_of c.args.program.now c.args.threads c.args.text.now) c.lines-test.false (omega arith) (search rules) c.lines.invariant.same)
