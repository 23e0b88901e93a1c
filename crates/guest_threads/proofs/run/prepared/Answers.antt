use Rattle.std.proofs.Common.{◌∙◌, subst, sym, arith}
use Rattle.guest_threads.specs.Working.{ArePrepared}
use Rattle.guest_threads.proofs.Joining.{prepared_push}
use Rattle.guest_threads.proofs.run.prepared.Goals as goal

pub classes-preserved : goal.classes-preserved
classes-preserved c =
    let e = c.in_ok-record.ensures in
    ((let a = c.in_ok-push.ensures.len in let b = c.classes-test.true in let d = c.len.ensures in omega arith), subst (ArePrepared c.args.program.now) (sym c.in_ok-push.ensures.items) (prepared_push c.args.program.now c.classes.made.items (record { «record» = c.in_ok-record.record; sleepers = 0 }) c.len-number.result c.classes.invariant.1 (c.len-number.ensures ∙ c.classes.made.ok.0) e.class e.fields e.events))
