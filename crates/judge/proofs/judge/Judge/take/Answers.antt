use Rattle.std.proofs.Common.{rules}
use Rattle.judge.proofs.Prints.{fits_print}
use Rattle.judge.proofs.judge.Judge.take.Goals as goal

pub returns-then-is_some-clause-fits : goal.returns-then-is_some-clause-fits
returns-then-is_some-clause-fits c =
    fits_print c.args.program.now c.args.self.now c.take_print.new.self c.args.event.now c.take_print.result (search rules) (search rules) (rw c.thread.ensures.thread at c.take_print.ensures.fits)

pub returns-clause-fits : goal.returns-clause-fits
returns-clause-fits c = rw (c.thread-2.ensures.thread, c.class-2.ensures.class, c.in_ok-kind.ensures) at c.take_parts.ensures.fits
