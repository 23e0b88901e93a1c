use Rattle.frames.proofs.HandlerRows.{none, this, on}
use Rattle.frames.proofs.handlers.handler_at.Goals as goal

pub returns-then-fits : goal.returns-then-fits
returns-then-fits c = this c.args.program.now c.args.place c.args.thrown c.args.handlers.now c.loop-row.row-index c.loop-row.invariant c.row-item.result c.loop-row-test.true c.row-item.is c.fits.result c.fits.ensures c.if-fits.true

pub loop-row-preserved : goal.loop-row-preserved
loop-row-preserved c = on c.args.program.now c.args.place c.args.thrown c.args.handlers.now c.loop-row.row-index c.loop-row.invariant c.row-item.result c.loop-row-test.true c.row-item.is c.fits.result c.fits.ensures c.if-fits.false

pub returns : goal.returns
returns c = none c.args.program.now c.args.place c.args.thrown c.args.handlers.now c.loop-row.row-index c.loop-row.invariant c.loop-row-test.false
